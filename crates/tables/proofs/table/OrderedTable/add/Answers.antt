use Rattle.std.proofs.Common.{◌∙◌, sym, arith, rules}
use Rattle.tables.proofs.Inserting.{gap_within, room, stored, told_added, told_full_when}
use Rattle.tables.proofs.table.OrderedTable.add.Goals as goal

pub returns-then-used-most : goal.returns-then-used-most
returns-then-used-most g c = told_full_when c.self.invariant c.args.self.now c.self.view_is c.args.key c.args.value c.args.i c.requires (c.if-used-most.true ∙ c.most.ensures) c.new.result c.new.ensures

pub copy_within-requires-clause-start_le_end : goal.copy_within-requires-clause-start_le_end
copy_within-requires-clause-start_le_end g c = gap_within c.self.invariant _ c.self.view_is c.args.key c.args.i c.requires

pub overflow_add-i : goal.overflow_add-i
overflow_add-i g c = let w = gap_within c.self.invariant _ c.self.view_is c.args.key c.args.i c.requires in search rules

pub copy_within-requires-clause-dest_in_bounds : goal.copy_within-requires-clause-dest_in_bounds
copy_within-requires-clause-dest_in_bounds g c =
    let w = gap_within c.self.invariant _ c.self.view_is c.args.key c.args.i c.requires in
    let f = room c.self.invariant _ c.self.view_is (omega arith) (λ e. c.if-used-most.false (e ∙ sym c.most.ensures)) in
    omega arith

pub bounds-self-inside-i : goal.bounds-self-inside-i
bounds-self-inside-i g c =
    let w = gap_within c.self.invariant _ c.self.view_is c.args.key c.args.i c.requires in
    let f = room c.self.invariant _ c.self.view_is (omega arith) (λ e. c.if-used-most.false (e ∙ sym c.most.ensures)) in
    omega (arith, c.copy_within.ensures.len)

pub offset_bounds-self-inside-i : goal.offset_bounds-self-inside-i
offset_bounds-self-inside-i g c = let w = gap_within c.self.invariant _ c.self.view_is c.args.key c.args.i c.requires in search rules

pub invariant_of-self : goal.invariant_of-self
invariant_of-self g c =
    let f = room c.self.invariant _ c.self.view_is (omega arith) (λ e. c.if-used-most.false (e ∙ sym c.most.ensures)) in
    let m = c.copy_within.ensures in
    stored c.self.invariant g.met.K.Ord.total c.args.key c.args.value c.args.i (rw (← c.self.view_is) at c.requires) f c.copy_within.new.self m.len m.by_index.0 m.by_index.1

pub returns : goal.returns
returns g c =
    let f = room c.self.invariant _ c.self.view_is (omega arith) (λ e. c.if-used-most.false (e ∙ sym c.most.ensures)) in
    let m = c.copy_within.ensures in
    rw (← c.self.view_is) (told_added c.self.invariant g.met.K.Ord.total c.args.key c.args.value c.args.i (rw (← c.self.view_is) at c.requires) f c.copy_within.new.self m.len m.by_index.0 m.by_index.1)
