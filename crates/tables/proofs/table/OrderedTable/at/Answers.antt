use Rattle.std.proofs.Common.{◌≡◌, ◌<◌, ◌≤◌, length, get_or, take, Some, rules, sym, ap, ◌∙◌, arith}
use Rattle.list_laws.proofs.Cuts.{at_past, at_getD}
use Rattle.tables.specs.Tables.{picked}
use Rattle.tables.proofs.Inserting.{wide, length_numbers, length_stored}
use Rattle.tables.proofs.Picks.{get_d_picked}
use Rattle.tables.proofs.table.OrderedTable.at.Goals as goal

pub returns-in_err-n : goal.returns-in_err-n
returns-in_err-n g c =
    let past = c.in_err-n.ensures.lookup.3 in
    let n = length_numbers c.self.invariant in
    let e = length_stored c.self.invariant in
    let l : length (picked c.self.inside.rows.now (take c.self.inside.used c.self.inside.order.now)) ≤ c.args.i = omega arith in
    rw (← c.self.view_is) (c.from_residual.ensures ∙ at_past _ c.args.i l)

pub bounds-self-inside-n : goal.bounds-self-inside-n
bounds-self-inside-n g c =
    let item = c.in_ok-n.ensures.lookup.3 in
    let e : c.in_ok-n.field-0.now ≡ get_or (take c.self.inside.used c.self.inside.order.now) c.args.i 0 = item.1 0 in
    rw e (wide c.self.invariant c.args.i 0 item.0)

pub offset_bounds-self-inside-n : goal.offset_bounds-self-inside-n
offset_bounds-self-inside-n g c = let b : c.in_ok-n.field-0.now < length c.self.inside.rows.now = bounds-self-inside-n g c in search rules

pub returns : goal.returns
returns g c =
    let item = c.in_ok-n.ensures.lookup.3 in
    let e : c.in_ok-n.field-0.now ≡ get_or (take c.self.inside.used c.self.inside.order.now) c.args.i 0 = item.1 0 in
    let n = length_numbers c.self.invariant in
    let m = length_stored c.self.invariant in
    let l : c.args.i < length (picked c.self.inside.rows.now (take c.self.inside.used c.self.inside.order.now)) = omega (arith, item.0) in
    rw (← c.self.view_is)
    (ap (λ k. Some (get_or c.self.inside.rows.now k c.index-self-n.result)) e ∙ ap Some (sym (get_d_picked _ _ (wide c.self.invariant) c.args.i c.index-self-n.result item.0)) ∙ at_getD _ c.args.i c.index-self-n.result l)
