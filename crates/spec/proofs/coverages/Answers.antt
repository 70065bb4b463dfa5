use Rattle.std.proofs.Common.{refl}
use Rattle.spec.proofs.coverages.Goals as goal

pub returns : goal.returns
returns c = record { at_tie = refl; ranges = refl; indices = (refl, refl); read_glyphs = (refl, refl); read_ranges = (refl, refl) }
