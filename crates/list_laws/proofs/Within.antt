-- What stands in a list: what a fact of each, or a test of any or all, says of it.
use Rattle.std.proofs.Common.{◌≡◌, ℕ, zero, suc, ◌<◌, Bool, true, false, ◌||◌, eqb, ◌⊎◌, List, [], ◌∷◌, ◌++◌, map, reverse, length, get_or, sym, refl, ap, ◌∙◌, subst, inl, inr, arith}
use mathlib.Core.Bool.{or-false, or_assoc, or_comm}
use mathlib.Core.List.{reverse_aux}
use Rattle.std.proofs.lemmas.Bool.{or_cases, or_left, or_right}
use Rattle.spec.specs.Lists.{Every, keep, any, all, has}
use Rattle.list_laws.proofs.Orders.{false_true}
use Rattle.list_laws.proofs.Linear.{numbers_linear, both}

abbrev pub In : {A : Type 0} → A → List A → Type 0
In x [] = ⊥
In x (y ∷ ys) = (x ≡ y) ⊎ In x ys

-- a test that cannot be passed
pub refuted : (b : Bool) → (b ≡ true → ⊥) → b ≡ false
refuted true f = absurd (f refl)
refuted false f = refl

-- two tests that tell the same
pub same_tests : (b c : Bool) → (b ≡ true → c ≡ true) → (c ≡ true → b ≡ true) → b ≡ c
same_tests true c f g = sym (f refl)
same_tests false true f g = g refl
same_tests false false f g = refl

pub or_swap : (a b c : Bool) → (a || (b || c)) ≡ (b || a || c)
or_swap a b c = sym (or_assoc a b c) ∙ ap (λ d. d || c) (or_comm a b)

module _ {A : Type 0} where
  pub every_in : (P : A → Type 0) (xs : List A) → Every P xs → (x : A) → In x xs → P x
  every_in P [] h x i = absurd i
  every_in P (y ∷ ys) h x (inl e) = subst P (sym e) h.0
  every_in P (y ∷ ys) h x (inr i) = every_in P ys h.1 x i

  pub in_every : {P : A → Type 0} (xs : List A) → ((x : A) → In x xs → P x) → Every P xs
  in_every [] f = tt
  in_every (x ∷ xs) f = (f x (inl refl), in_every xs (λ y i. f y (inr i)))

  pub every_mapped : {B : Type 0} (P : B → Type 0) (f : A → B) (xs : List A) → ((x : A) → In x xs → P (f x)) → Every P (map f xs)
  every_mapped P f [] h = tt
  every_mapped P f (x ∷ xs) h = (h x (inl refl), every_mapped P f xs (λ y i. h y (inr i)))

  pub every_over : {B : Type 0} (P : B → Type 0) (f : A → B) (xs : List A) → Every (λ x. P (f x)) xs → Every P (map f xs)
  every_over P f xs h = every_mapped P f xs (every_in (λ x. P (f x)) xs h)

  pub every_append : (P : A → Type 0) (xs ys : List A) → Every P xs → Every P ys → Every P (xs ++ ys)
  every_append P [] ys h k = k
  every_append P (x ∷ xs) ys h k = (h.0, every_append P xs ys h.1 k)

  pub in_map : {B : Type 0} (f : A → B) (xs : List A) (x : A) → In x xs → In (f x) (map f xs)
  in_map f [] x i = absurd i
  in_map f (y ∷ ys) x (inl e) = inl (ap f e)
  in_map f (y ∷ ys) x (inr i) = inr (in_map f ys x i)

  pub map_in : {B : Type 0} (f : A → B) (xs : List A) (y : B) → In y (map f xs) → (x : A) × In x xs × (y ≡ f x)
  map_in f [] y i = absurd i
  map_in f (x ∷ xs) y (inl e) = (x, inl refl, e)
  map_in f (x ∷ xs) y (inr i) = let (z, j, e) = map_in f xs y i in (z, inr j, e)

  pub in_place : (xs : List A) (i : ℕ) (d : A) → i < length xs → In (get_or xs i d) xs
  in_place [] i d h = absurd (omega arith)
  in_place (x ∷ xs) zero d h = inl refl
  in_place (x ∷ xs) (suc i) d h = inr (in_place xs i d (omega arith))

  pub any_in : (p : A → Bool) (xs : List A) → any p xs ≡ true → (x : A) × In x xs × (p x ≡ true)
  any_in p [] h = false_true h
  any_in p (x ∷ xs) h = elim (or_cases (p x) (any p xs) h) [ inl e ↦ (x, inl refl, e) | inr f ↦ let (y, i, e) = any_in p xs f in (y, inr i, e) ]

  pub in_any : (p : A → Bool) {x : A} (xs : List A) → In x xs → p x ≡ true → any p xs ≡ true
  in_any p [] i e = absurd i
  in_any p (y ∷ ys) (inl s) e = or_left (p y) (any p ys) (ap p (sym s) ∙ e)
  in_any p (y ∷ ys) (inr i) e = or_right (p y) (any p ys) (in_any p ys i e)

  pub none_in : (p : A → Bool) {x : A} (xs : List A) → any p xs ≡ false → In x xs → p x ≡ false
  none_in p {x} xs h i = refuted (p x) (λ e. false_true (sym h ∙ in_any p xs i e))

  any_turned : (p : A → Bool) (xs ys : List A) → any p (reverse_aux xs ys) ≡ (any p xs || any p ys)
  any_turned p [] ys = refl
  any_turned p (x ∷ xs) ys = any_turned p xs (x ∷ ys) ∙ or_swap (any p xs) (p x) (any p ys)

  pub any_reverse : (p : A → Bool) (xs : List A) → any p (reverse xs) ≡ any p xs
  any_reverse p xs = any_turned p xs [] ∙ or-false (any p xs)

  pub all_in : (p : A → Bool) (xs : List A) → all p xs ≡ true → (x : A) → In x xs → p x ≡ true
  all_in p [] h x i = absurd i
  all_in p (y ∷ ys) h x (inl e) = ap p e ∙ (both (p y) (all p ys) h).0
  all_in p (y ∷ ys) h x (inr i) = all_in p ys (both (p y) (all p ys) h).1 x i

  -- one more at the end
  pub in_front : (xs : List A) (x a : A) → In a (xs ++ (x ∷ [])) → In a xs ⊎ (a ≡ x)
  in_front [] x a (inl e) = inr e
  in_front [] x a (inr i) = absurd i
  in_front (y ∷ ys) x a (inl e) = inl (inl e)
  in_front (y ∷ ys) x a (inr i) = elim (in_front ys x a i) [ inl j ↦ inl (inr j) | inr e ↦ inr e ]

  -- those that pass a test
  module _ (p : A → Bool) where
    pub every_keep : (P : A → Type 0) (xs : List A) → Every P xs → Every P (keep p xs)
    every_keep P [] h = tt
    every_keep P (x ∷ xs) h = go (p x) (every_keep P xs h.1)
      where
        go : (b : Bool) → Every P (keep p xs) → Every P (elim b [ true ↦ x ∷ keep p xs | false ↦ keep p xs ])
        go true r = (h.0, r)
        go false r = r

    pub every_kept : (xs : List A) → Every (λ x. p x ≡ true) (keep p xs)
    every_kept [] = tt
    every_kept (x ∷ xs) = go (p x) refl (every_kept xs)
      where
        go : (b : Bool) → p x ≡ b → Every (λ y. p y ≡ true) (keep p xs) → Every (λ y. p y ≡ true) (elim b [ true ↦ x ∷ keep p xs | false ↦ keep p xs ])
        go true e r = (e, r)
        go false e r = r

pub has_in : (g : ℕ) (xs : List ℕ) → has g xs ≡ true → In g xs
has_in g xs h = let (x, i, e) = any_in (λ x. eqb x g) xs h in subst (λ n. In n xs) (numbers_linear.equal x g e) i
