use Rattle.std.proofs.Common.{refl}
use Rattle.spec.proofs.single_subtables.Goals as goal

pub returns : goal.returns
returns c = record { at_ten = refl; above_ten = refl; in_order = refl; no_metric = refl; no_rules = refl }
