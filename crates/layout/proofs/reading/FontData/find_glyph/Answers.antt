use Rattle.std.proofs.Common.{arith}
use Rattle.layout.proofs.Searching.{glyph_next}
use Rattle.layout.proofs.reading.FontData.find_glyph.Goals as goal

pub loop-i-preserved : goal.loop-i-preserved
loop-i-preserved c =
    let o = glyph_next c.args.self.now.bytes.now c.args.glyph c.args.self.now.at c.loop-i.i c.in_ok-count.count (omega arith) _ c.in_ok-field.ensures c.if-branch-glyph.false in cc
