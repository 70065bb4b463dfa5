-- The element of a list at a place.
use Rattle.std.proofs.Common.{◌≡◌, ℕ, zero, suc, ◌<◌, ◌≤◌, List, [], ◌∷◌, length, get_or, Some, None, refl, arith}
use Rattle.spec.specs.Lists.{at}

module _ {A : Type 0} where
  pub at_past : (xs : List A) (n : ℕ) → length xs ≤ n → None ≡ at xs n
  at_past [] n h = refl
  at_past (x ∷ xs) zero h = absurd (let z : ⊥ = omega arith in z)
  at_past (x ∷ xs) (suc n) h = at_past xs n (omega arith)

  pub at_getD : (xs : List A) (n : ℕ) (d : A) → n < length xs → Some (get_or xs n d) ≡ at xs n
  at_getD [] n d h = absurd (let z : ⊥ = omega arith in z)
  at_getD (x ∷ xs) zero d h = refl
  at_getD (x ∷ xs) (suc n) d h = at_getD xs n d (omega arith)
