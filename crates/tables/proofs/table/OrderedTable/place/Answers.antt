use Rattle.std.proofs.Common.{sym, ◌∙◌, arith}
use Rattle.tables.proofs.Halving.{begins, never, meets, above, below, ends}
use Rattle.tables.proofs.table.OrderedTable.place.Goals as goal

pub loop-low-init : goal.loop-low-init
loop-low-init g c = begins _ c.len-high.ensures.ordered.rising c.len-high.ensures.count

pub returns-in_default-clause-placed : goal.returns-in_default-clause-placed
returns-in_default-clause-placed g c = never c.loop-low.invariant _ (omega arith) (sym c.at.ensures ∙ c.in_default.is)

pub loop-low-preserved-in-Less : goal.loop-low-preserved-in-Less
loop-low-preserved-in-Less g c = below g.met.K.Ord.total c.loop-low.invariant _ _ (sym c.at.ensures ∙ c.in-Some.is) (omega arith) (sym c.cmp.ensures ∙ c.in-Less.is)

pub returns-in-Equal-clause-placed : goal.returns-in-Equal-clause-placed
returns-in-Equal-clause-placed g c = meets g.met.K.Ord.total c.loop-low.invariant _ _ (sym c.at.ensures ∙ c.in-Some.is) (sym c.cmp.ensures ∙ c.in-Equal.is)

pub loop-low-preserved : goal.loop-low-preserved
loop-low-preserved g c = above g.met.K.Ord.total c.loop-low.invariant _ _ (sym c.at.ensures ∙ c.in-Some.is) (omega arith) (omega arith) (sym c.cmp.ensures ∙ c.in-Greater.is)

pub returns-clause-placed : goal.returns-clause-placed
returns-clause-placed g c = ends c.loop-low.invariant (omega arith)
