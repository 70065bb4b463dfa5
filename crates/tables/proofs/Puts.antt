-- A pair that comes to its place among pairs in key order, or finds its key there.
use Rattle.std.proofs.Common.{◌≡◌, ℕ, zero, suc, Bool, true, false, List, [], ◌∷◌, ◌++◌, get_or, take, drop, set, Some, None, Ok, Err, Ordering, Less, Equal, Greater, sym, refl, ap, ◌∙◌, arith}
use Rattle.std.specs.Cmp.{IsTotalOrder}
use Rattle.std.specs.Ordering.{is_lt, ordering_reverse}
use Rattle.std.proofs.lemmas.List.{set-get_or}
use Rattle.spec.specs.Lists.{at, inserted, replaced}
use Rattle.tables.specs.Tables.{before, with_value, Placed}
use Rattle.tables.proofs.KeyOrder.{tail_past, tail_ahead}

-- `inserted` and `replaced` in one: `pick` says which of two that are equal stays
abbrev put : {A : Type 0} → (A → A → A) → (A → A → Bool) → A → List A → List A
put pick less x [] = x ∷ []
put pick less x (y ∷ ys) = elim (less x y) [ true ↦ x ∷ y ∷ ys | false ↦ elim (less y x) [ true ↦ y ∷ put pick less x ys | false ↦ pick y x ∷ ys ] ]

module _ {A : Type 0} (less : A → A → Bool) (x : A) where
  first_put : (ys : List A) → put (λ old new. old) less x ys ≡ inserted less x ys
  first_put [] = refl
  first_put (y ∷ ys) = ap (λ zs. elim (less x y) [ true ↦ x ∷ y ∷ ys | false ↦ elim (less y x) [ true ↦ y ∷ zs | false ↦ y ∷ ys ] ]) (first_put ys)

  last_put : (ys : List A) → put (λ old new. new) less x ys ≡ replaced less x ys
  last_put [] = refl
  last_put (y ∷ ys) = ap (λ zs. elim (less x y) [ true ↦ x ∷ y ∷ ys | false ↦ elim (less y x) [ true ↦ y ∷ zs | false ↦ x ∷ ys ] ]) (last_put ys)

module _ {K V : Type 0} where
  pub value_at : (ps : List (K × V)) (i : ℕ) (p : K × V) (v : V) → Some p ≡ at ps i → set ps i (p.0, v) ≡ with_value ps i v
  value_at [] i q v e = refl
  value_at (p ∷ ps) zero q v e = let k : q ≡ p = cc in ap (λ l. (l.0, v) ∷ ps) k
  value_at (p ∷ ps) (suc i) q v e = ap (λ qs. p ∷ qs) (value_at ps i q v e)

  pub value_nowhere : (ps : List (K × V)) (i : ℕ) (v : V) → None ≡ at ps i → ps ≡ with_value ps i v
  value_nowhere [] i v e = refl
  value_nowhere (p ∷ ps) zero v e = absurd (let z : ⊥ = cc in z)
  value_nowhere (p ∷ ps) (suc i) v e = ap (λ qs. p ∷ qs) (value_nowhere ps i v e)

module _ {K V : Type 0} {c : K → K → Ordering} (o : IsTotalOrder c) (k : K) (v : V) where
  module _ (pick : K × V → K × V → K × V) (p : K × V) (ps : List (K × V)) where
    by : Bool → Bool → List (K × V)
    by a b = elim a [ true ↦ (k, v) ∷ p ∷ ps | false ↦ elim b [ true ↦ p ∷ put pick (before c) (k, v) ps | false ↦ pick p (k, v) ∷ ps ] ]

    under : (r : Ordering) → c k p.0 ≡ r → is_lt (c p.0 k) ≡ is_lt (ordering_reverse r)
    under r e = ap is_lt (o.antisymm p.0 k ∙ ap ordering_reverse e)

    put_go : c k p.0 ≡ Greater → put pick (before c) (k, v) (p ∷ ps) ≡ p ∷ put pick (before c) (k, v) ps
    unfolding by
    put_go e = (λ i. by (is_lt (e i)) (under Greater e i))

    put_here : c k p.0 ≡ Less → put pick (before c) (k, v) (p ∷ ps) ≡ (k, v) ∷ p ∷ ps
    unfolding by
    put_here e = (λ i. by (is_lt (e i)) (under Less e i))

    put_old : c k p.0 ≡ Equal → put pick (before c) (k, v) (p ∷ ps) ≡ pick p (k, v) ∷ ps
    unfolding by
    put_old e = (λ i. by (is_lt (e i)) (under Equal e i))

  -- a new key
  put_new : (pick : K × V → K × V → K × V) (ps : List (K × V)) (i : ℕ) → Placed c ps k (Err i) → put pick (before c) (k, v) ps ≡ take i ps ++ (k, v) ∷ drop i ps
  put_new pick [] zero h = refl
  put_new pick [] (suc i) h = absurd (let z : ⊥ = omega (arith, h.0) in z)
  put_new pick (p ∷ ps) zero h = put_here pick p ps (h.2 0 p (omega arith) (omega arith))
  put_new pick (p ∷ ps) (suc i) h =
      put_go pick p ps (h.1 0 p (omega arith)) ∙ ap (λ qs. p ∷ qs) (put_new pick ps i (omega (arith, h.0), tail_past c p ps k i h.1, tail_ahead c p ps k i h.2))

  -- an old key
  put_same : (pick : K × V → K × V → K × V) (ps : List (K × V)) (i : ℕ) (d : K × V) → Placed c ps k (Ok i) → put pick (before c) (k, v) ps ≡ set ps i (pick (get_or ps i d) (k, v))
  put_same pick [] i d h = absurd (let z : ⊥ = omega (arith, h.0) in z)
  put_same pick (p ∷ ps) zero d h = put_old pick p ps (h.2 p)
  put_same pick (p ∷ ps) (suc i) d h =
      put_go pick p ps (h.1 0 p (omega arith)) ∙ ap (λ qs. p ∷ qs) (put_same pick ps i d (omega (arith, h.0), tail_past c p ps k i h.1, h.2))

  pub first_new : (ps : List (K × V)) (i : ℕ) → Placed c ps k (Err i) → take i ps ++ (k, v) ∷ drop i ps ≡ inserted (before c) (k, v) ps
  first_new ps i h = sym (put_new (λ old new. old) ps i h) ∙ first_put (before c) (k, v) ps

  pub last_new : (ps : List (K × V)) (i : ℕ) → Placed c ps k (Err i) → take i ps ++ (k, v) ∷ drop i ps ≡ replaced (before c) (k, v) ps
  last_new ps i h = sym (put_new (λ old new. new) ps i h) ∙ last_put (before c) (k, v) ps

  pub first_old : (ps : List (K × V)) (i : ℕ) → Placed c ps k (Ok i) → ps ≡ inserted (before c) (k, v) ps
  first_old ps i h = sym (set-get_or ps i (k, v)) ∙ sym (put_same (λ old new. old) ps i (k, v) h) ∙ first_put (before c) (k, v) ps

  pub last_old : (ps : List (K × V)) (i : ℕ) → Placed c ps k (Ok i) → set ps i (k, v) ≡ replaced (before c) (k, v) ps
  last_old ps i h = sym (put_same (λ old new. new) ps i (k, v) h) ∙ last_put (before c) (k, v) ps
