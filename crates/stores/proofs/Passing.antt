-- A trim layer has the meaning of the store below.
use Rattle.std.proofs.Common.{◌≡◌, ℕ, ◌+◌, List, None, Ok, Err, Result, sym, ap, ◌∙◌, subst, inl, inr, arith}
use Rattle.spec.specs.Denials.{Word, Part, Denial, arises, passed, passed_by}
use Rattle.spec.specs.Entries.{Delta, deltas_fault}
use Rattle.spec.specs.Stores.{Store, Added}
use Rattle.spec.specs.StoreModels.{trimmed, layered, passed_on, Trims}
use Rattle.stores.specs.declared.trim.TrimLayer.{TrimLayer}
use Rattle.stores.specs.Meanings.{trim_layer}
use Rattle.stores.proofs.Faults.{some_none}
use Rattle.stores.proofs.Meant.{through_added}
use Rattle.stores.proofs.Trimming.{trimmed_good, trimmed_at}

-- one layer more
pub one_deeper : (w : Word) (k : ℕ) (p : Part) (n : ℕ) → passed (passed_by n (arises w k p)) ≡ passed_by (n + 1) (arises w k p)
one_deeper w k p n = ap {B = Denial} (λ d. record { word = w; place = k; part = p; depth = d }) (omega arith)

-- TRIMMING KEEPS THE MEANING
pub trims : {S : Type 0} (m : Store S) → Trims m
trims m s t l (Ok k) ok h = (
  ok,
  elim h.1 [
    | inl a ↦ inl ((a.0.0, a.0.1, λ r. sym (trimmed_at l r ok) ∙ a.0.2 r), a.1, (a.2.0, λ r. a.2.1 r ∙ trimmed_at l r ok))
    | inr n ↦ inr (record {
      unknown = λ q. n.unknown (q.0, q.1, λ r. trimmed_at l r ok ∙ q.2 r);
      fresh = n.fresh;
      holds = (n.holds.0, λ r. n.holds.1 r ∙ trimmed_at l r ok);
      keeps = n.keeps;
      only = n.only;
      falls = n.falls;
    })
  ],
)
trims m s t l (Err d) ok h = (
  h.0,
  elim h.1 [
    | inl a ↦ some_none a.0 (sym a.1 ∙ trimmed_good l ok)
    | inr a ↦ inr (ok, (λ q. a.1 (q.0, q.1, λ r. trimmed_at l r ok ∙ q.2 r)), a.2, ap passed a.3 ∙ one_deeper Word.store_full 0 Part.store m.layers)
  ],
)

-- a layer that hands on the trimmed list, and passes up what comes back
pub layer_adds : {S : Type 0} (m : Store S) (s t : TrimLayer S) (l sent : List Delta) (r up : Result ℕ Denial) → None ≡ deltas_fault l → sent ≡ trimmed l → up ≡ passed_on r
    → Added m s.below t.below sent r → Added (trim_layer m) s t l up
layer_adds m s t l sent r up good e u h =
    through_added (λ x. x.below) (layered m) s t l up
    (subst (λ x. Added (layered m) s.below t.below l x) (sym u) (trims m s.below t.below l r (sym good) (subst (λ x. Added m s.below t.below x r) e h)))
