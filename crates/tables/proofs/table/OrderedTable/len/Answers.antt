use Rattle.std.proofs.Common.{sym, arith}
use Rattle.tables.proofs.Inserting.{length_stored, ordered}
use Rattle.tables.proofs.table.OrderedTable.len.Goals as goal

pub returns-clause-count : goal.returns-clause-count
returns-clause-count g c = rw (← c.self.view_is) (sym (length_stored c.self.invariant))

pub returns-clause-ordered : goal.returns-clause-ordered
returns-clause-ordered g c = rw (← c.self.view_is) (ordered c.self.invariant (omega arith))
