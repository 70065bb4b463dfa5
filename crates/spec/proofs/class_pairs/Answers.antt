use Rattle.std.proofs.Common.{refl}
use Rattle.spec.proofs.class_pairs.Goals as goal

pub returns : goal.returns
returns c = record { class_0 = (refl, refl); last_rule = (refl, refl); no_rule = ((refl, refl), (refl, refl)); none = (refl, refl); bytes = refl; unions = refl; pair_first = (refl, refl) }
