use Rattle.std.proofs.Common.{◌≡◌, ◌+◌, map, length, drop}
use Rattle.spec.specs.Coverage.{ranges}
use Rattle.layout.specs.Gathering.{gathered}
use Rattle.layout.proofs.ranges.count_ranges.Given as goal

abbrev pub invariant-loop-entry : goal.invariant-loop-entry
invariant-loop-entry g l = l.count + length (gathered l.gatherer.open (map g.T.Listed.listed (drop l.entry-index l.entries))) ≡ length (ranges (map g.T.Listed.listed l.entries))
