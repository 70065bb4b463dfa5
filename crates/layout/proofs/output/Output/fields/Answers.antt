use Rattle.std.proofs.Common.{ap, arith}
use Rattle.std.proofs.lemmas.List.{drop_more}
use Rattle.spec.specs.Fields.{big_endian}
use Rattle.layout.proofs.Places.{more}
use Rattle.layout.proofs.output.Output.fields.Goals as goal

pub loop-value-preserved : goal.loop-value-preserved
loop-value-preserved c = more c.loop-value.invariant _ _ (ap big_endian (drop_more c.args.values.now c.loop-value.value-index 0 (omega arith))) c.in_ok-field.ensures
