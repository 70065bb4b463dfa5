use Rattle.spec.specs.Fields.{big_endian}
use Rattle.layout.specs.Present.{present}
use Rattle.layout.proofs.Places.{Midway}
use Rattle.layout.proofs.Values.{picked}
use Rattle.layout.proofs.value.write_value.Given as goal

abbrev pub invariant-loop-bit : goal.invariant-loop-bit
invariant-loop-bit l = Midway l.initial.out l.out (big_endian (picked l.format l.bit-iterator.a.rest.now l.bit-iterator.b.rest.now)) (big_endian (present l.format l.fields))
