use Rattle.std.proofs.Common.{refl}
use Rattle.spec.proofs.glyph_pairs.Goals as goal

pub returns : goal.returns
returns c = record { subtables = refl; last = refl; empty_records = refl; none = refl; bytes = refl }
