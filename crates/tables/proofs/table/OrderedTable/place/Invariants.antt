use Rattle.std.proofs.Common.{◌-◌}
use Rattle.tables.proofs.Halving.{Between}
use Rattle.tables.proofs.table.OrderedTable.place.Given as goal

abbrev pub invariant-loop-low : goal.invariant-loop-low
invariant-loop-low g l = Between g.K.Ord.cmp l.self.pairs l.key l.low l.high

abbrev pub decreases-loop-low : goal.decreases-loop-low
decreases-loop-low g l = l.high - l.low
