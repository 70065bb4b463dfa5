use Rattle.std.proofs.Common.{◌∙◌, length-set}
use Rattle.tables.proofs.Inserting.{told_taken}
use Rattle.tables.proofs.Puts.{last_old, last_new}
use Rattle.tables.proofs.table.OrderedTable.insert_last.Goals as goal

pub returns-in-Ok : goal.returns-in-Ok
returns-in-Ok g c =
    let t = c.args.self.now in
    let e = last_old g.met.K.Ord.total c.args.key c.args.value t.pairs c.in-Ok.i c.in-Ok.ensures.placed in
    told_taken t _ (rw (← e, length-set) c.place.ensures.ordered.in_places) _ (c.set_pair.ensures.after ∙ e) c.set_pair.ensures.same_most

pub returns-in-Err : goal.returns-in-Err
returns-in-Err g c = rw (← last_new g.met.K.Ord.total c.args.key c.args.value c.args.self.now.pairs c.in-Err.i c.in-Err.ensures.placed) c.add.ensures
