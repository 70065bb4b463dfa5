-- Tests over lists: where one first passes, what holds of all, what is kept.
use Rattle.std.proofs.Common.{◌≡◌, ℕ, zero, suc, ◌+◌, ◌<◌, Bool, true, false, ◌&&◌, ltb, List, [], ◌∷◌, map, length, get_or, Some, None, Option, refl, ap, ◌∙◌, ap₂, inl, inr, arith}
use Rattle.std.proofs.lemmas.Bool.{cases_Bool, and_parts, or_parts}
use Rattle.std.proofs.lemmas.Bool.Decides.{nat_tests}
use Rattle.spec.specs.Lists.{first, place_of, any, all, keep, list_before, Every}
use Rattle.list_laws.proofs.Orders.{Order}
use Rattle.list_laws.proofs.Linear.{numbers_linear, lists_linear, by_key}

-- a test passes nowhere in a list, or first at place j, where x stands; places are counted from i on
pub data Found {A : Type 0} (p : A → Bool) (i : ℕ) (xs : List A) : Type 0 where
  absent : place_of p i xs ≡ None → first p xs ≡ None → Found p i xs
  there : (j : ℕ) (x : A) → j < length xs → place_of p i xs ≡ Some (i + j) → first p xs ≡ Some x → get_or xs j x ≡ x → p x ≡ true → Found p i xs

pub found : {A : Type 0} (p : A → Bool) (i : ℕ) (xs : List A) → Found p i xs
found p i [] = absent refl refl
found p i (x ∷ xs) = by (p x) refl (found p (i + 1) xs)
  where
    by : (b : Bool) → p x ≡ b → Found p (i + 1) xs → Found p i (x ∷ xs)
    by true q r = there 0 x (omega arith) (rw (q, place_of) (ap Some (omega arith))) (rw (q, first)) refl q
    by false q (absent n f) = absent (rw (q, place_of) n) (rw (q, first) f)
    by false q (there j y l n f g t) = there (suc j) y (omega arith) (rw (q, place_of) (n ∙ ap Some (omega arith))) (rw (q, first) f) g t

pub place_map : {A B : Type 0} (p : B → Bool) (f : A → B) (i : ℕ) (xs : List A) → place_of p i (map f xs) ≡ place_of (λ x. p (f x)) i xs
place_map p f i [] = refl
place_map p f i (x ∷ xs) = ap {B = Option ℕ} (λ o. elim (p (f x)) [ true ↦ Some i | false ↦ o ]) (place_map p f (i + 1) xs)

pub all_every : {A : Type 0} (p : A → Bool) (xs : List A) → all p xs ≡ true → Every (λ x. p x ≡ true) xs
all_every p [] h = tt
all_every p (x ∷ xs) h = let b = and_parts (p x) (all p xs) h in (b.0, all_every p xs b.1)

pub every_at : {A : Type 0} (P : A → Type 0) (xs : List A) (i : ℕ) (d : A) → Every P xs → i < length xs → P (get_or xs i d)
every_at P [] i d h l = absurd (omega arith)
every_at P (x ∷ xs) zero d h l = h.0
every_at P (x ∷ xs) (suc i) d h l = every_at P xs i d h.1 (omega arith)

pub every_both : {A : Type 0} (P Q : A → Type 0) (xs : List A) → Every P xs → Every Q xs → Every (λ x. P x × Q x) xs
every_both P Q [] h k = tt
every_both P Q (x ∷ xs) h k = ((h.0, k.0), every_both P Q xs h.1 k.1)

pub every_from_map : {A B : Type 0} (P : B → Type 0) (f : A → B) (xs : List A) → Every P (map f xs) → Every (λ x. P (f x)) xs
every_from_map P f [] h = tt
every_from_map P f (x ∷ xs) h = (h.0, every_from_map P f xs h.1)

pub every_first : {A : Type 0} (P : Option A → Type 0) (p : A → Bool) (xs : List A) → P None → Every (λ x. P (Some x)) xs → P (first p xs)
every_first P p [] n h = n
every_first P p (x ∷ xs) n h = elim (cases_Bool (p x)) [
  | inl t ↦ rw (t, first) h.0
  | inr t ↦ rw (t, first) (every_first P p xs n h.1)
]

-- ---- what is sorted

pub numbers_order : Order ltb (λ x. x)
numbers_order = by_key numbers_linear (λ x. x)

pub lists_order : Order list_before (λ s. s)
lists_order = by_key lists_linear (λ s. s)

-- ---- the first that passes

-- nothing passes
pub none_any : {A : Type 0} (p : A → Bool) (xs : List A) → first p xs ≡ None → any p xs ≡ false
none_any p [] h = refl
none_any p (x ∷ xs) h = let r = none_any p xs in grind (arith, nat_tests)

-- two tests that agree
pub first_same : {A : Type 0} (p q : A → Bool) (xs : List A) → Every (λ x. p x ≡ q x) xs → first p xs ≡ first q xs
first_same p q [] h = refl
first_same {A} p q (x ∷ xs) h = ap₂ {C = Option A} (λ b o. elim b [ true ↦ Some x | false ↦ o ]) h.0 (first_same p q xs h.1)

pub first_none : {A B : Type 0} (p : B → Bool) (q : A → Bool) (f : A → B) (xs : List A) → any p (map f xs) ≡ false → first (λ x. p (f x) && q x) xs ≡ None
first_none p q f [] h = refl
first_none p q f (x ∷ xs) h = let b = or_parts (p (f x)) (any p (map f xs)) h in rw (b.0, first) (first_none p q f xs b.1)

-- the first of those kept
pub first_keep : {A : Type 0} (p q : A → Bool) (xs : List A) → first q (keep p xs) ≡ first (λ x. p x && q x) xs
first_keep {A} p q [] = refl
first_keep {A} p q (x ∷ xs) = let r = first_keep p q xs in elim (cases_Bool (p x)) [
  | inl t ↦ rw (t, keep) (rw (t, first) (ap {B = Option A} (λ o. elim (q x) [ true ↦ Some x | false ↦ o ]) r))
  | inr t ↦ rw (t, keep) (rw (t, first) r)
]
