use Rattle.std.proofs.Common.{refl}
use Rattle.tables.proofs.Inserting.{told_taken}
use Rattle.tables.proofs.Puts.{first_old, first_new}
use Rattle.tables.proofs.table.OrderedTable.insert_first.Goals as goal

pub returns-in-Ok : goal.returns-in-Ok
returns-in-Ok g c =
    let t = c.args.self.now in
    let e = first_old g.met.K.Ord.total c.args.key c.args.value t.pairs c.in-Ok.field-0 c.in-Ok.ensures.placed in
    told_taken t _ (rw (← e) c.place.ensures.ordered.in_places) t e refl

pub returns-in-Err : goal.returns-in-Err
returns-in-Err g c = rw (← first_new g.met.K.Ord.total c.args.key c.args.value c.args.self.now.pairs c.in-Err.i c.in-Err.ensures.placed) c.add.ensures
