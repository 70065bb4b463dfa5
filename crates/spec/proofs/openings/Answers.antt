use Rattle.std.proofs.Common.{refl}
use Rattle.spec.proofs.openings.Goals as goal

pub returns : goal.returns
returns c = record { breaks = refl; sections = refl; flags = (refl, refl, refl, refl, refl, refl); depths = (refl, refl); winner = (refl, refl); numbers_of = (refl, refl, refl); texts = (refl, refl) }
