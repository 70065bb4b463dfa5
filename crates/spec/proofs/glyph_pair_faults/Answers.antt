use Rattle.std.proofs.Common.{refl}
use Rattle.spec.proofs.glyph_pair_faults.Goals as goal

pub returns : goal.returns
returns c = record { index = refl; offset = refl; pair_set = refl; search = (refl, refl); none = refl }
