use Rattle.std.proofs.Common.{arith}
use Rattle.std.proofs.lemmas.Result.{err_from_is_err_and}
use Rattle.layout.proofs.Searching.{third_fault, range_found, start_above, end_below}
use Rattle.layout.proofs.reading.FontData.find_range.Goals as goal

pub loop-i-preserved-then-start-glyph : goal.loop-i-preserved-then-start-glyph
loop-i-preserved-then-start-glyph c =
    let o = start_above c.args.self.now.bytes.now c.args.glyph c.args.self.now.at c.loop-i.i c.in_ok-count.count (omega arith) _ c.in_ok-start.ensures (omega arith) in cc

pub loop-i-preserved : goal.loop-i-preserved
loop-i-preserved c =
    let o = end_below c.args.self.now.bytes.now c.args.glyph c.args.self.now.at c.loop-i.i c.in_ok-count.count (omega arith) _ _ c.in_ok-start.ensures (omega arith) c.in_ok-end.ensures (omega arith) in cc

pub returns-in_err-third : goal.returns-in_err-third
returns-in_err-third c =
    let p = err_from_is_err_and c.from_residual-in_err-third.result c.from_residual-in_err-third.ensures.1 in
    let o = third_fault c.args.self.now.bytes.now c.args.glyph c.args.self.now.at c.loop-i.i c.in_ok-count.count (omega arith) _ _ _ c.in_ok-start.ensures (omega arith) c.in_ok-end.ensures (omega arith) c.in_err-third.ensures in cc

pub returns-in-loop-i : goal.returns-in-loop-i
returns-in-loop-i c =
    let o = range_found c.args.self.now.bytes.now c.args.glyph c.args.self.now.at c.loop-i.i c.in_ok-count.count (omega arith) _ _ _ c.in_ok-start.ensures (omega arith) c.in_ok-end.ensures (omega arith) c.in_ok-third.ensures in cc
