use Rattle.std.proofs.Common.{◌<◌, length, get_or, arith, rules}
use Rattle.tables.proofs.Inserting.{within_used, row_within, replaced_pair, still_stored}
use Rattle.tables.proofs.table.OrderedTable.set_pair.Goals as goal

pub bounds-order-i : goal.bounds-order-i
bounds-order-i g c =
    let r = rw (← c.self.view_is) at c.requires in
    let w = within_used g.met.K.Ord.total c.self.invariant c.args.i c.args.pair r.0 r.1 in
    let l = c.self.invariant.in_order in
    omega arith

pub offset_bounds-order-i : goal.offset_bounds-order-i
offset_bounds-order-i g c = let b : c.args.i < length c.self.inside.order.now = bounds-order-i g c in search rules

pub bounds-rows-order : goal.bounds-rows-order
bounds-rows-order g c = let r = rw (← c.self.view_is) at c.requires in row_within g.met.K.Ord.total c.self.invariant c.args.i c.args.pair r.0 r.1

pub offset_bounds-rows-order : goal.offset_bounds-rows-order
offset_bounds-rows-order g c = let b : get_or c.self.inside.order.now c.args.i 0 < length c.self.inside.rows.now = bounds-rows-order g c in search rules

pub invariant_of-self : goal.invariant_of-self
invariant_of-self g c = let r = rw (← c.self.view_is) at c.requires in still_stored g.met.K.Ord.total c.self.invariant c.args.i c.args.pair r.0 r.1

pub returns-clause-after : goal.returns-clause-after
returns-clause-after g c = let r = rw (← c.self.view_is) at c.requires in rw (← c.self.view_is) (replaced_pair g.met.K.Ord.total c.self.invariant c.args.i c.args.pair r.0 r.1)
