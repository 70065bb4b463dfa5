use Rattle.std.proofs.Common.{refl}
use Rattle.spec.proofs.ceilings.Goals as goal

pub returns : goal.returns
returns c = record { spans = (refl, refl, refl); offsets = (refl, refl, refl); order = (refl, refl, refl); short = (refl, refl, refl) }
