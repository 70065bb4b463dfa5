use Rattle.std.proofs.Common.{◌≡◌, ◌+◌, ◌-◌, ◌*◌}
use Rattle.spec.specs.Meaning.{glyph_search, covered_by_glyphs}
use Rattle.layout.proofs.reading.FontData.find_glyph.Given as goal

abbrev pub invariant-loop-i : goal.invariant-loop-i
invariant-loop-i l = glyph_search l.self.bytes.now l.glyph (l.self.at + 4 + 2 * l.i) l.i (l.count - l.i) ≡ covered_by_glyphs l.self.bytes.now l.self.at l.glyph
