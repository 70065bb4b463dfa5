use Rattle.laws.proofs.GlyphPairs.{glyph_pairs_read}
use Rattle.laws.proofs.glyph_pairs_read.Goals as goal

pub returns : goal.returns
returns c = glyph_pairs_read
