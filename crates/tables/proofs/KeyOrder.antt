-- Pairs in the order of their keys: where a key stands, and what that says of its value and of the keys around it.
use Rattle.std.proofs.Common.{◌≡◌, ℕ, zero, suc, ◌<◌, ◌≤◌, Bool, true, false, ◌&&◌, List, [], ◌∷◌, ◌++◌, length, get_or, take, drop, set, Some, None, Ordering, Less, Equal, Greater, sym, refl, ap, ◌∙◌, true≢false, arith}
use Rattle.std.specs.Cmp.{IsTotalOrder, alike_right}
use Rattle.std.specs.Ordering.{is_eq, is_lt, ordering_reverse}
use Rattle.spec.specs.Lists.{first, map_some}
use Rattle.tables.specs.Tables.{all_after, rises, lookup, at_or_above, Past, Ahead}
use Rattle.list_laws.proofs.Linear.{both}

is_less : (o : Ordering) → is_lt o ≡ true → o ≡ Less
is_less Less h = refl
is_less Equal h = absurd (true≢false (sym h))
is_less Greater h = absurd (true≢false (sym h))

first_hit : {A : Type 0} (t : A → Bool) (x : A) (xs : List A) → t x ≡ true → first t (x ∷ xs) ≡ Some x
first_hit t x xs h = ap (λ b. elim b [ true ↦ Some x | false ↦ first t xs ]) h

first_skip : {A : Type 0} (t : A → Bool) (x : A) (xs : List A) → t x ≡ false → first t (x ∷ xs) ≡ first t xs
first_skip t x xs h = ap (λ b. elim b [ true ↦ Some x | false ↦ first t xs ]) h

module _ {K V : Type 0} (c : K → K → Ordering) where
  after_at : (k : K) (ps : List (K × V)) → all_after c k ps ≡ true → (j : ℕ) (d : K × V) → j < length ps → c k (get_or ps j d).0 ≡ Less
  after_at k [] h j d l = absurd (let z : ⊥ = omega arith in z)
  after_at k (p ∷ ps) h zero d l = is_less _ (both (is_lt (c k p.0)) _ h).0
  after_at k (p ∷ ps) h (suc j) d l = after_at k ps (both (is_lt (c k p.0)) _ h).1 j d (omega arith)

  pub rises_less : (ps : List (K × V)) → rises c ps ≡ true → (i j : ℕ) (d : K × V) → i < j → j < length ps → c (get_or ps i d).0 (get_or ps j d).0 ≡ Less
  rises_less [] h i j d l m = absurd (let z : ⊥ = omega arith in z)
  rises_less (p ∷ ps) h i zero d l m = absurd (let z : ⊥ = omega arith in z)
  rises_less (p ∷ ps) h zero (suc j) d l m = after_at p.0 ps (both (all_after c p.0 ps) _ h).0 j d (omega arith)
  rises_less (p ∷ ps) h (suc i) (suc j) d l m = rises_less ps (both (all_after c p.0 ps) _ h).1 i j d (omega arith) (omega arith)

  pub tail_past : (p : K × V) (ps : List (K × V)) (k : K) (i : ℕ) → Past c (p ∷ ps) k (suc i) → Past c ps k i
  tail_past p ps k i h j d l = h (suc j) d (omega arith)

  pub tail_ahead : (p : K × V) (ps : List (K × V)) (k : K) (i : ℕ) → Ahead c (p ∷ ps) k (suc i) → Ahead c ps k i
  tail_ahead p ps k i h j d l m = h (suc j) d (omega arith) (omega arith)

  -- ---- the value
  pub lookup_at : (ps : List (K × V)) (k : K) (i : ℕ) (d : K × V) → i < length ps → Past c ps k i → c k (get_or ps i d).0 ≡ Equal → lookup c ps k ≡ Some (get_or ps i d).1
  lookup_at [] k i d l h e = absurd (let z : ⊥ = omega arith in z)
  lookup_at (p ∷ ps) k zero d l h e = ap (map_some (λ q. q.1)) (first_hit (λ q. is_eq (c k q.0)) p ps (ap is_eq e))
  lookup_at (p ∷ ps) k (suc i) d l h e =
      ap (map_some (λ q. q.1)) (first_skip (λ q. is_eq (c k q.0)) p ps (ap is_eq (h 0 p (omega arith)))) ∙ lookup_at ps k i d (omega arith) (tail_past p ps k i h) e

  pub lookup_none : (ps : List (K × V)) (k : K) (i : ℕ) → Past c ps k i → Ahead c ps k i → lookup c ps k ≡ None
  lookup_none [] k i h e = refl
  lookup_none (p ∷ ps) k zero h e =
      ap (map_some (λ q. q.1)) (first_skip (λ q. is_eq (c k q.0)) p ps (ap is_eq (e 0 p (omega arith) (omega arith))))
      ∙ lookup_none ps k zero (λ j d l. absurd (let z : ⊥ = omega arith in z)) (λ j d l m. e (suc j) d (omega arith) (omega arith))
  lookup_none (p ∷ ps) k (suc i) h e =
      ap (map_some (λ q. q.1)) (first_skip (λ q. is_eq (c k q.0)) p ps (ap is_eq (h 0 p (omega arith))))
      ∙ lookup_none ps k i (tail_past p ps k i h) (tail_ahead p ps k i e)

  -- ---- under the laws
  module _ (o : IsTotalOrder c) where
    -- a key that stands at m is past those before it
    pub past_same : (ps : List (K × V)) (k : K) (m : ℕ) → rises c ps ≡ true → m < length ps → ((d : K × V) → c k (get_or ps m d).0 ≡ Equal) → Past c ps k m
    past_same ps k m h l e j d t = o.congr _ _ _ (e d) ∙ o.antisymm _ _ ∙ ap ordering_reverse (rises_less ps h j m d t l)

    after_trans : (x y : K) → c x y ≡ Less → (ps : List (K × V)) → all_after c y ps ≡ true → all_after c x ps ≡ true
    after_trans x y l [] h = refl
    after_trans x y l (p ∷ ps) h =
        let b = both (is_lt (c y p.0)) (all_after c y ps) h in
        (λ i. is_lt (o.trans x y p.0 l (is_less _ b.0) i) && after_trans x y l ps b.1 i)

    after_first : (k : K) (p : K × V) (ps : List (K × V)) → rises c (p ∷ ps) ≡ true → c k p.0 ≡ Less → all_after c k (p ∷ ps) ≡ true
    after_first k p ps h e = (λ i. is_lt (e i) && after_trans k p.0 e ps (both (all_after c p.0 ps) (rises c ps) h).0 i)

    -- ---- a pair comes to its place
    after_put : (q k : K) (v : V) → c q k ≡ Less → (ps : List (K × V)) (i : ℕ) → all_after c q ps ≡ true → all_after c q (take i ps ++ (k, v) ∷ drop i ps) ≡ true
    after_put q k v l [] zero h = (λ t. is_lt (l t) && true)
    after_put q k v l [] (suc i) h = (λ t. is_lt (l t) && true)
    after_put q k v l (p ∷ ps) zero h = (λ t. is_lt (l t) && h t)
    after_put q k v l (p ∷ ps) (suc i) h = let b = both (is_lt (c q p.0)) (all_after c q ps) h in (λ t. b.0 t && after_put q k v l ps i b.1 t)

    pub rises_put : (ps : List (K × V)) (k : K) (v : V) (i : ℕ) → rises c ps ≡ true → i ≤ length ps → Past c ps k i → ((d : K × V) → i < length ps → c k (get_or ps i d).0 ≡ Less) → rises c (take i ps ++ (k, v) ∷ drop i ps) ≡ true
    rises_put [] k v zero r l h e = refl
    rises_put [] k v (suc i) r l h e = absurd (let z : ⊥ = omega arith in z)
    rises_put (p ∷ ps) k v zero r l h e = (λ t. after_first k p ps r (e p (omega arith)) t && r t)
    rises_put (p ∷ ps) k v (suc i) r l h e =
        let b = both (all_after c p.0 ps) (rises c ps) r in
        let under : c p.0 k ≡ Less = o.antisymm p.0 k ∙ ap ordering_reverse (h 0 p (omega arith)) in
        (λ t. after_put p.0 k v under ps i b.0 t && rises_put ps k v i b.1 (omega arith) (tail_past p ps k i h) (λ d m. e d (omega arith)) t)

    -- ---- the first key at or above
    pub above_at : (ps : List (K × V)) (k : K) (i : ℕ) → i ≤ length ps → Past c ps k i → ((d : K × V) → i < length ps → is_lt (c (get_or ps i d).0 k) ≡ false) → i ≡ at_or_above c ps k
    above_at [] k zero l h e = refl
    above_at [] k (suc i) l h e = absurd (let z : ⊥ = omega arith in z)
    above_at (p ∷ ps) k zero l h e = sym (ap (λ b. elim b [ true ↦ suc (at_or_above c ps k) | false ↦ 0 ]) (e p (omega arith)))
    above_at (p ∷ ps) k (suc i) l h e =
        let under : c p.0 k ≡ Less = o.antisymm p.0 k ∙ ap ordering_reverse (h 0 p (omega arith)) in
        ap suc (above_at ps k i (omega arith) (tail_past p ps k i h) (λ d m. e d (omega arith)))
        ∙ sym (ap (λ b. elim b [ true ↦ suc (at_or_above c ps k) | false ↦ 0 ]) (ap is_lt under))

    -- no key stands twice
    pub apart : (ps : List (K × V)) → rises c ps ≡ true → (i j : ℕ) (d : K × V) → i < j → j < length ps → (get_or ps i d).0 ≡ (get_or ps j d).0 → ⊥
    apart ps h i j d l m e =
        let less : c (get_or ps i d).0 (get_or ps i d).0 ≡ Less = ap (c (get_or ps i d).0) e ∙ rises_less ps h i j d l m in
        true≢false (sym (ap is_lt less) ∙ ap is_lt (o.antisymm (get_or ps i d).0 (get_or ps i d).0 ∙ ap ordering_reverse less))

    -- ---- another pair with that key
    module _ (k : K) (v : V) where
      after_alike : (q : K) → c k q ≡ Equal → (ps : List (K × V)) → all_after c k ps ≡ all_after c q ps
      after_alike q e [] = refl
      after_alike q e (p ∷ ps) = (λ t. is_lt (o.congr k q p.0 e t) && after_alike q e ps t)

      after_set : (q : K) (ps : List (K × V)) (i : ℕ) → ((d : K × V) → c k (get_or ps i d).0 ≡ Equal) → all_after c q (set ps i (k, v)) ≡ all_after c q ps
      after_set q [] i e = refl
      after_set q (p ∷ ps) zero e = ap (λ r. is_lt r && all_after c q ps) (alike_right o k p.0 q (e p))
      after_set q (p ∷ ps) (suc i) e = ap (λ b. is_lt (c q p.0) && b) (after_set q ps i e)

      pub rises_set : (ps : List (K × V)) (i : ℕ) → ((d : K × V) → c k (get_or ps i d).0 ≡ Equal) → rises c (set ps i (k, v)) ≡ rises c ps
      rises_set [] i e = refl
      rises_set (p ∷ ps) zero e = ap (λ b. b && rises c ps) (after_alike p.0 (e p) ps)
      rises_set (p ∷ ps) (suc i) e = (λ t. after_set p.0 ps i e t && rises_set ps i e t)
