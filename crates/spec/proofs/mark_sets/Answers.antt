use Rattle.std.proofs.Common.{refl}
use Rattle.spec.proofs.mark_sets.Goals as goal

pub returns : goal.returns
returns c = record { bytes = refl; marked = refl; unmarked = (refl, refl, refl) }
