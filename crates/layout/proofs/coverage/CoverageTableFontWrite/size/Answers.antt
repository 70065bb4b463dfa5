use Rattle.std.proofs.Common.{◌+◌, ◌*◌, ap, ◌∙◌}
use Rattle.layout.proofs.CoverageTables.{glyph_size, range_size}
use Rattle.layout.proofs.coverage.CoverageTableFontWrite.size.Goals as goal

pub returns-in-Ok-Array-clause-value : goal.returns-in-Ok-Array-clause-value
returns-in-Ok-Array-clause-value c =
    let h = rw c.in-Ok-Array.field-0-is at c.in-Ok-Array.ensures in
    ap (λ n. 4 + 2 * n) c.from.ensures ∙ glyph_size c.args.self.now.glyphs.now _ h.2 h.0 h.1

pub returns-in-Ok-Ranges-clause-value : goal.returns-in-Ok-Ranges-clause-value
returns-in-Ok-Ranges-clause-value c =
    let h = rw c.in-Ok-Ranges.field-0-is at c.in-Ok-Ranges.ensures in
    ap (λ n. 4 + 6 * n) c.from-in-Ok-Ranges.ensures ∙ range_size c.args.self.now.glyphs.now _ h.2 h.0 h.1
