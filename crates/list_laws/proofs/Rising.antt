-- A list in an order by keys has each key in one place; and what keeps an order.
use Rattle.std.proofs.Common.{◌≡◌, ℕ, zero, suc, ◌+◌, ◌<◌, Bool, true, false, ◌||◌, List, [], ◌∷◌, ◌++◌, map, length, get_or, sym, refl, ap, ◌∙◌, inl, inr, arith}
use mathlib.Core.Bool.{or_assoc, or_self_left}
use Rattle.spec.specs.Lists.{Every, keep, one_if, count, any, inserted, sorted}
use Rattle.list_laws.proofs.Orders.{Order, Rises, sorted_rises, false_true}
use Rattle.list_laws.proofs.Linear.{Linear, by_key}
use Rattle.list_laws.proofs.Within.{In, or_swap, refuted, every_in, every_over, every_append, in_place, every_keep}
use Rattle.list_laws.proofs.Counting.{count_none}

module _ {A : Type 0} where
  module _ {K : Type 0} {before : A → A → Bool} {key : A → K} (o : Order before key) where
    apart : (x y : A) → before x y ≡ true → key x ≡ key y → ⊥
    apart x y e f = false_true (sym (o.same x y f) ∙ e)

    pub rises_one : {x y : A} (xs : List A) → Rises before xs → In x xs → In y xs → key x ≡ key y → x ≡ y
    rises_one [] h i j e = absurd i
    rises_one (z ∷ zs) h (inl s) (inl t) e = s ∙ sym t
    rises_one {x} {y} (z ∷ zs) h (inl s) (inr j) e = absurd (apart z y (every_in (λ w. before z w ≡ true) zs h.0 y j) (sym (ap key s) ∙ e))
    rises_one {x} {y} (z ∷ zs) h (inr i) (inl t) e = absurd (apart z x (every_in (λ w. before z w ≡ true) zs h.0 x i) (sym (ap key t) ∙ sym e))
    rises_one (z ∷ zs) h (inr i) (inr j) e = rises_one zs h.1 i j e

    pub one_place : (xs : List A) → Rises before xs → (d : A) (i j : ℕ) → i < length xs → j < length xs → key (get_or xs i d) ≡ key (get_or xs j d) → i ≡ j
    one_place [] h d i j m n e = absurd (omega arith)
    one_place (x ∷ xs) h d zero zero m n e = refl
    one_place (x ∷ xs) h d zero (suc j) m n e = absurd (apart x (get_or xs j d) (every_in (λ w. before x w ≡ true) xs h.0 (get_or xs j d) (in_place xs j d (omega arith))) e)
    one_place (x ∷ xs) h d (suc i) zero m n e = absurd (apart x (get_or xs i d) (every_in (λ w. before x w ≡ true) xs h.0 (get_or xs i d) (in_place xs i d (omega arith))) (sym e))
    one_place (x ∷ xs) h d (suc i) (suc j) m n e = ap suc (one_place xs h.1 d i j (omega arith) (omega arith) e)

    -- a test that only one key passes
    pub rising_count : (p : A → Bool) → ((x y : A) → p x ≡ true → p y ≡ true → key x ≡ key y) → (xs : List A) → Rises before xs → count p xs ≡ one_if (any p xs)
    rising_count p one [] h = refl
    rising_count p one (x ∷ xs) h = go (p x) refl (rising_count p one xs h.1)
      where
        go : (b : Bool) → p x ≡ b → count p xs ≡ one_if (any p xs) → one_if b + count p xs ≡ one_if (b || any p xs)
        go true e r = rw (count_none p xs (λ y i. refuted (p y) (λ f. apart x y (every_in (λ w. before x w ≡ true) xs h.0 y i) (one x y e f)))) refl
        go false e r = omega arith

    -- a test that goes by keys
    any_inserted : (p : A → Bool) → ((x y : A) → key x ≡ key y → p x ≡ p y) → (x : A) (ys : List A) → any p (inserted before x ys) ≡ (p x || any p ys)
    any_inserted p by x [] = refl
    any_inserted p by x (y ∷ ys) = go (before x y) (before y x) refl refl (any_inserted p by x ys)
      where
        go : (b c : Bool) → before x y ≡ b → before y x ≡ c → any p (inserted before x ys) ≡ (p x || any p ys)
            → any p (elim b [ true ↦ x ∷ y ∷ ys | false ↦ elim c [ true ↦ y ∷ inserted before x ys | false ↦ y ∷ ys ] ]) ≡ (p x || (p y || any p ys))
        go true c e f r = refl
        go false true e f r = rw r (or_swap (p y) (p x) (any p ys) ∙ or_assoc (p x) (p y) (any p ys))
        go false false e f r = rw (by x y (o.total x y e f)) (sym (or_self_left (p y) (any p ys)))

    pub any_sorted : (p : A → Bool) → ((x y : A) → key x ≡ key y → p x ≡ p y) → (xs : List A) → any p (sorted before xs) ≡ any p xs
    any_sorted p by [] = refl
    any_sorted p by (x ∷ xs) = any_inserted p by x (sorted before xs) ∙ ap (λ b. p x || b) (any_sorted p by xs)

  -- A SORTED LIST HAS EACH KEY ONCE
  pub count_sorted : {K : Type 0} {lt eq : K → K → Bool} (l : Linear lt eq) (key : A → K) (k : K) (xs : List A)
      → count (λ x. eq (key x) k) (sorted (λ x y. lt (key x) (key y)) xs) ≡ one_if (any (λ x. eq (key x) k) xs)
  count_sorted {eq} l key k xs = let o = by_key l key in
      rising_count o (λ x. eq (key x) k) (λ x y e f. l.equal (key x) k e ∙ sym (l.equal (key y) k f)) _ (sorted_rises o xs)
      ∙ ap one_if (any_sorted o (λ x. eq (key x) k) (λ x y e. ap (λ j. eq j k) e) xs)

-- ---- what keeps an order

pub keep_rises : {A : Type 0} (p : A → Bool) (before : A → A → Bool) (xs : List A) → Rises before xs → Rises before (keep p xs)
keep_rises p before [] h = tt
keep_rises p before (x ∷ xs) h = go (p x) (keep_rises p before xs h.1)
  where
    go : (b : Bool) → Rises before (keep p xs) → Rises before (elim b [ true ↦ x ∷ keep p xs | false ↦ keep p xs ])
    go true r = (every_keep p (λ y. before x y ≡ true) xs h.0, r)
    go false r = r

pub map_rises : {A B : Type 0} (before : B → B → Bool) (f : A → B) (xs : List A) → Rises (λ x y. before (f x) (f y)) xs → Rises before (map f xs)
map_rises before f [] h = tt
map_rises before f (x ∷ xs) h = (every_over (λ y. before (f x) y ≡ true) f xs h.0, map_rises before f xs h.1)

pub rises_append : {A : Type 0} (before : A → A → Bool) (xs ys : List A) → Rises before xs → Every (λ x. Every (λ y. before x y ≡ true) ys) xs → Rises before ys → Rises before (xs ++ ys)
rises_append before [] ys h c k = k
rises_append before (x ∷ xs) ys h c k = (every_append (λ y. before x y ≡ true) xs ys h.0 c.0, rises_append before xs ys h.1 c.1 k)
