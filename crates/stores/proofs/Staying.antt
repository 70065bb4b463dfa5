-- Ids keep their deltas as lists are added.
use Rattle.std.proofs.Common.{ℕ, List, [], ◌∷◌, Ok, sym, refl, ◌∙◌, subst, inl, inr}
use Rattle.spec.specs.Entries.{Delta}
use Rattle.spec.specs.Stores.{Store, Added, Keeps}
use Rattle.stores.specs.Laws.{IdsStay}

module _ {S : Type 0} (m : Store S) where
  pub added_keeps : (s t : S) (l : List Delta) (k : ℕ) → Added m s t l (Ok k) → Keeps m s t
  added_keeps s t l k h = elim h.1 [ inl a ↦ a.1.0 | inr n ↦ n.keeps ]

  then_keeps : (s t u : S) → Keeps m s t → Keeps m t u → Keeps m s u
  then_keeps s t u a b k h = let p = a k h in let q = b k p.0 in (q.0, λ r. q.1 r ∙ p.1 r)

  pub ids_stay : IdsStay m
  ids_stay s t [] [] e = subst (λ x. Keeps m s x) (sym e) (λ k h. (h, λ r. refl))
  ids_stay s t [] (k ∷ ks) e = absurd e
  ids_stay s t (l ∷ ls) [] e = absurd e
  ids_stay s t (l ∷ ls) (k ∷ ks) e = then_keeps s e.0 t (added_keeps s e.0 l k e.1) (ids_stay e.0 t ls ks e.2)
