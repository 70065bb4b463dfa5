use Rattle.layout.proofs.Whole.{both, puts}
use Rattle.layout.proofs.CoverageTables.{glyph_pieces, range_pieces}
use Rattle.layout.proofs.coverage.CoverageTableFontWrite.write_into.Goals as goal

pub returns-in_ok-fields-in-Array : goal.returns-in_ok-fields-in-Array
returns-in_ok-fields-in-Array c =
    let h = rw c.in-Array.is at c.in_ok-count.ensures in
    puts _ _ _ _ h.0 (glyph_pieces c.args.self.now.glyphs.now _ h.2 h.1) (both _ _ _ c.in_ok-fields-in-Array.ensures c.fields-in-Array.ensures)

pub returns-in_ok-fields-in-Ranges : goal.returns-in_ok-fields-in-Ranges
returns-in_ok-fields-in-Ranges c =
    let h = rw c.in-Ranges.is at c.in_ok-count.ensures in
    puts _ _ _ _ h.0 (range_pieces c.args.self.now.glyphs.now _ h.2 h.1) (both _ _ _ c.in_ok-fields-in-Ranges.ensures c.write_ranges.ensures)
