use Rattle.std.proofs.Common.{◌≡◌, ◌+◌, ◌-◌, ◌*◌}
use Rattle.spec.specs.Meaning.{range_search}
use Rattle.layout.specs.Headers.{range_of}
use Rattle.layout.proofs.reading.FontData.find_range.Given as goal

abbrev pub invariant-loop-i : goal.invariant-loop-i
invariant-loop-i l = range_search l.self.bytes.now l.glyph (l.self.at + 4 + 6 * l.i) (l.count - l.i) ≡ range_of l.self.bytes.now l.self.at l.glyph
