-- How many of a list pass a test, and sums over a list.
use Rattle.std.proofs.Common.{◌≡◌, ℕ, ◌+◌, ◌<◌, ◌≤◌, Bool, true, false, ◌&&◌, List, [], ◌∷◌, ◌++◌, map, sym, refl, ap, ◌∙◌, inl, inr, arith}
use Rattle.spec.specs.Lists.{Every, keep, one_if, count, sum_of}
use Rattle.list_laws.proofs.Within.{In}

module _ {A : Type 0} where
  pub count_none : (p : A → Bool) (xs : List A) → ((x : A) → In x xs → p x ≡ false) → count p xs ≡ 0
  count_none p [] f = refl
  count_none p (x ∷ xs) f = rw (f x (inl refl)) (rw (count_none p xs (λ y i. f y (inr i))) refl)

  count_more : (p q : A → Bool) → ((x : A) → p x ≡ true → q x ≡ true) → (xs : List A) → count p xs ≤ count q xs
  count_more p q f [] = omega arith
  count_more p q f (x ∷ xs) = go (p x) refl (count_more p q f xs)
    where
      go : (b : Bool) → p x ≡ b → count p xs ≤ count q xs → one_if b + count p xs ≤ one_if (q x) + count q xs
      go true e r = rw (f x e) (omega arith)
      go false e r = omega arith

  -- a wider test that one more passes
  pub count_less : (p q : A → Bool) → ((x : A) → p x ≡ true → q x ≡ true) → (xs : List A) (x : A) → In x xs → p x ≡ false → q x ≡ true → count p xs < count q xs
  count_less p q f [] x i e g = absurd i
  count_less p q f (y ∷ ys) x (inl s) e g = let r = count_more p q f ys in rw (ap p (sym s) ∙ e) (rw (ap q (sym s) ∙ g) (omega arith))
  count_less p q f (y ∷ ys) x (inr i) e g = go (p y) refl (count_less p q f ys x i e g)
    where
      go : (b : Bool) → p y ≡ b → count p ys < count q ys → one_if b + count p ys < one_if (q y) + count q ys
      go true e r = rw (f y e) (omega arith)
      go false e r = omega arith

  pub count_keep : (p q : A → Bool) (xs : List A) → count q (keep p xs) ≡ count (λ x. p x && q x) xs
  count_keep p q [] = refl
  count_keep p q (x ∷ xs) = go (p x) (count_keep p q xs)
    where
      go : (b : Bool) → count q (keep p xs) ≡ count (λ y. p y && q y) xs
          → count q (elim b [ true ↦ x ∷ keep p xs | false ↦ keep p xs ]) ≡ one_if (b && q x) + count (λ y. p y && q y) xs
      go true r = omega arith
      go false r = omega arith

  -- each gives 1 or 0, by a test
  pub sum_ones : (f : A → ℕ) (p : A → Bool) (xs : List A) → Every (λ x. f x ≡ one_if (p x)) xs → sum_of f xs ≡ count p xs
  sum_ones f p [] h = refl
  sum_ones f p (x ∷ xs) h = rw h.0 (rw (sum_ones f p xs h.1) refl)

  pub sum_append : (f : A → ℕ) (xs ys : List A) → sum_of f (xs ++ ys) ≡ sum_of f xs + sum_of f ys
  sum_append f [] ys = omega arith
  sum_append f (x ∷ xs) ys = let r = sum_append f xs ys in omega arith

  pub sum_map : {B : Type 0} (f : B → ℕ) (g : A → B) (xs : List A) → sum_of f (map g xs) ≡ sum_of (λ x. f (g x)) xs
  sum_map f g [] = refl
  sum_map f g (x ∷ xs) = ap (λ n. f (g x) + n) (sum_map f g xs)
