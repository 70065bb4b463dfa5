use Rattle.std.proofs.Common.{refl}
use Rattle.spec.proofs.inviting_mistakes.Goals as goal

pub returns : goal.returns
returns c = record { later_pair = (refl, refl); earlier_group = (refl, (refl, refl), (refl, refl)); third_group = (refl, (refl, refl)) }
