use Rattle.std.proofs.Common.{◌≡◌, ◌-◌, ◌<◌, ◌⊎◌, length, sym, ◌∙◌, inl, inr, arith, rules}
use borrow.Rule.Slice.PartMut.{same_len_mid}
use Rattle.storage.specs.Interners.{same_entry}
use Rattle.storage.proofs.Entering.{enters_old, enters_full, enters_new, lies_more, copied_behind, entry_self}
use Rattle.storage.proofs.interner.Interner.enter.Goals as goal
use Rattle.storage.proofs.interner.Interner.enter.Goals.{then-self-via-then-self, then-self-via-else-self+then-list-self}

pub returns-in-Some : goal.returns-in-Some
returns-in-Some g c =
    let d = c.self.inside in
    enters_old (same_entry g.H.PartialEq.eq g.T.PartialEq.eq) d.pool.now d.table.now d.part d.used d.filled c.self.invariant _ c.self.view_is (c.args.head, c.args.list.now) c.in-Some.n
    (sym c.number.ensures ∙ c.in-Some.is)

pub returns-then-self : goal.returns-then-self
returns-then-self g c =
    let d = c.self.inside in
    let lacks : (d.used ≡ length d.table.now) ⊎ (length d.pool.now - d.filled < length c.args.list.now) = elim c.then-self.branch [
      | then-self-via-then-self w ↦ inl w.if-self.true
      | then-self-via-else-self+then-list-self w ↦ inr w.if-list-self.true
    ] in
    enters_full (same_entry g.H.PartialEq.eq g.T.PartialEq.eq) d.pool.now d.table.now d.part d.used d.filled c.self.invariant _ c.self.view_is (c.args.head, c.args.list.now)
    (sym c.number.ensures ∙ c.in_default.is) c.new.result c.new.ensures lacks

pub invariant_of-self : goal.invariant_of-self
invariant_of-self g c =
    let d = c.self.inside in
    lies_more (same_entry g.H.PartialEq.eq g.T.PartialEq.eq) d.pool.now d.table.now d.part d.used d.filled c.self.invariant _ c.self.view_is (c.args.head, c.args.list.now) (sym c.number.ensures ∙ c.in_default.is)
    c.if-self.false c.if-list-self.false _ (same_len_mid _ _ _ _ c.copy_from_slice.ensures.len)

pub returns : goal.returns
returns g c =
    let d = c.self.inside in
    let x : g.row.H.Denot × _ = (c.args.head, c.args.list.now) in
    enters_new (same_entry g.H.PartialEq.eq g.T.PartialEq.eq) d.pool.now d.table.now d.part d.used d.filled c.self.invariant _ c.self.view_is x (sym c.number.ensures ∙ c.in_default.is)
    c.if-self.false c.if-list-self.false _ (same_len_mid _ _ _ _ c.copy_from_slice.ensures.len) (entry_self g.H.PartialEq.eq g.T.PartialEq.eq g.met.H.Exact.decides g.met.T.Exact.decides x)
    (copied_behind d.filled _ _ d.pool.now x.1 c.copy_from_slice.new.self (omega arith) c.self.invariant.in_pool (search rules))
