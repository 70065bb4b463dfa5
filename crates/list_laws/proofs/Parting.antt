-- A rising list is parted: the parts of its elements, sorted, have each element once.
use Rattle.std.proofs.Common.{◌≡◌, ℕ, Bool, true, false, ◌&&◌, List, map, sym, refl, ap, ◌∙◌, subst}
use Rattle.spec.specs.Lists.{one_if, count, sum_of, any, sorted}
use Rattle.list_laws.proofs.Orders.{Order, Rises, every_sorted, false_true}
use Rattle.list_laws.proofs.Linear.{Linear, by_key, both}
use Rattle.list_laws.proofs.Within.{In, refuted, every_mapped, in_map, any_in, in_any, none_in}
use Rattle.list_laws.proofs.Counting.{count_none, sum_ones}
use Rattle.list_laws.proofs.Rising.{rises_one, rising_count, count_sorted}

-- the elements rise by labels, the parts are sorted by keys; elements that are the same have one part, different parts have
-- different keys; one label passes q, and f tells how many of a part pass it
module _ {E S J K : Type 0} {before : E → E → Bool} {label : E → J} (o : Order before label) {lt eq : K → K → Bool} (l : Linear lt eq) (key : S → K)
    (es : List E) (rise : Rises before es) (part : E → S) (same : E → E → Bool)
    (self : (a : E) → same a a ≡ true)
    (joined : (a b : E) → same a b ≡ true → part a ≡ part b)
    (keyed : (a b : E) → In a es → In b es → key (part a) ≡ key (part b) → part a ≡ part b)
    (q : E → Bool) (one : (a b : E) → q a ≡ true → q b ≡ true → label a ≡ label b)
    (f : S → ℕ) (gives : (a : E) → In a es → f (part a) ≡ count (λ e. same a e && q e) es) where
  abbrev beside : E → E → Bool
  beside a e = same a e && q e

  given : (a : E) → In a es → f (part a) ≡ one_if (any (beside a) es)
  given a i = gives a i ∙ rising_count o (beside a) (λ x y h k. one x y (both (same a x) _ h).1 (both (same a y) _ k).1) es rise

  -- by the part of the element that passes
  by_part : (e : E) → In e es → q e ≡ true → (a : E) → In a es → f (part a) ≡ one_if (eq (key (part a)) (key (part e)))
  by_part e i w a j = go (eq (key (part a)) (key (part e))) refl
    where
      level : any (beside a) es ≡ true → eq (key (part a)) (key (part e)) ≡ true
      level h = let (x, m, b) = any_in (beside a) es h in let (s, v) = both (same a x) (q x) b in
          let t : part a ≡ part e = joined a x s ∙ ap part (rises_one o es rise m i (one x e v w)) in
          subst (λ k. eq (key (part a)) k ≡ true) (ap key t) (l.self (key (part a)))

      go : (b : Bool) → eq (key (part a)) (key (part e)) ≡ b → f (part a) ≡ one_if b
      go true h = ap f (keyed a e j i (l.equal _ _ h)) ∙ given e i ∙ ap one_if (in_any (beside e) es i (rw (self e) w))
      go false h = given a j ∙ ap one_if (refuted (any (beside a) es) (λ g. false_true (sym h ∙ level g)))

  -- EACH ELEMENT STANDS IN ONE PART, ONCE
  pub parted : sum_of f (sorted (λ s t. lt (key s) (key t)) (map part es)) ≡ one_if (any q es)
  parted = go (any q es) refl
    where
      tested : (p : S → Bool) → ((a : E) → In a es → f (part a) ≡ one_if (p (part a))) → sum_of f (sorted (λ s t. lt (key s) (key t)) (map part es)) ≡ count p (sorted (λ s t. lt (key s) (key t)) (map part es))
      tested p h = sum_ones f p _ (every_sorted (by_key l key) (λ s. f s ≡ one_if (p s)) (map part es) (every_mapped (λ s. f s ≡ one_if (p s)) part es h))

      go : (b : Bool) → any q es ≡ b → sum_of f (sorted (λ s t. lt (key s) (key t)) (map part es)) ≡ one_if b
      go true h = let (e, i, w) = any_in q es h in
          tested (λ s. eq (key s) (key (part e))) (by_part e i w) ∙ count_sorted l key (key (part e)) (map part es)
          ∙ ap one_if (in_any (λ s. eq (key s) (key (part e))) (map part es) (in_map part es e i) (l.self (key (part e))))
      go false h = tested (λ s. false) (λ a i. gives a i ∙ count_none (beside a) es (λ x j. refuted _ (λ b. false_true (sym (none_in q es h j) ∙ (both (same a x) (q x) b).1))))
          ∙ count_none (λ s. false) _ (λ s i. refl)
