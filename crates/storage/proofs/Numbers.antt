-- The place of the first that passes a test.
use Rattle.std.proofs.Common.{◌≡◌, ℕ, suc, ◌+◌, Bool, true, false, not, cond, ltb, List, map, Some, None, refl, arith}
use lib.ListN.{length-map}
use Rattle.std.specs.List.{position, position_or_len}
use Rattle.std.proofs.lemmas.List.Recursion.{is_position_or_len}
use Rattle.spec.specs.Rules.{number_in}

-- among the images of a list, it is that of the first whose image passes
pub position-map : {A B : Type 0} (f : B → A) (test : A → Bool) (ys : List B) → position test (map f ys) ≡ position (λ y. test (f y)) ys
position-map f test ys =
    let e = is_position_or_len (λ zs. position_or_len test (map f zs)) (λ y. test (f y)) refl (λ x xs. step (test (f x)) (position_or_len test (map f xs))) ys in
    (λ i. cond (ltb (e i) (length-map ys f i)) (Some (e i)) None)
  where
    step : (b : Bool) (n : ℕ) → cond (not b) (1 + n) 0 ≡ cond b 0 (1 + n)
    step true n = refl
    step false n = refl

-- the number of an entry is the place of the first that is the same
pub number_in_is : {A : Type 0} (eq : A → A → Bool) (x : A) (ys : List A) → number_in eq ys x ≡ position_or_len (λ y. eq y x) ys
number_in_is eq x ys = is_position_or_len (λ zs. number_in eq zs x) (λ y. eq y x) refl (λ y zs. step (eq y x) (number_in eq zs x)) ys
  where
    step : (b : Bool) (n : ℕ) → elim b [ true ↦ 0 | false ↦ suc n ] ≡ cond b 0 (1 + n)
    step true n = refl
    step false n = omega arith
