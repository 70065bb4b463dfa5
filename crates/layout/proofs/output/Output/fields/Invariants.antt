use Rattle.std.proofs.Common.{drop}
use Rattle.spec.specs.Fields.{big_endian}
use Rattle.layout.proofs.Places.{Midway}
use Rattle.layout.proofs.output.Output.fields.Given as goal

abbrev pub invariant-loop-value : goal.invariant-loop-value
invariant-loop-value l = Midway l.initial.self l.self (big_endian (drop l.value-index l.values)) (big_endian l.values)
