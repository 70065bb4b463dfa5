use Rattle.std.proofs.Common.{◌≡◌, length}
use Rattle.layout.specs.Gathering.{coming}
use Rattle.layout.proofs.ranges.RangesIterator.next.Given as goal

abbrev pub invariant-loop-entry : goal.invariant-loop-entry
invariant-loop-entry g l = coming g.T.Listed.listed l.self ≡ coming g.T.Listed.listed l.initial.self

abbrev pub decreases-loop-entry : goal.decreases-loop-entry
decreases-loop-entry g l = length l.self.entries.now
