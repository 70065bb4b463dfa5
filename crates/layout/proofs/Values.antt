-- Value formats: their bits one after the other, and how many there are.
use Rattle.std.proofs.Common.{◌≡◌, ℕ, zero, suc, ◌+◌, ◌*◌, ◌/◌, ◌%◌, ◌^◌, ◌<◌, Bool, true, false, not, eqb, List, [], ◌∷◌, ◌++◌, length, ◌⊎◌, sym, refl, ap, ◌∙◌, pow-suc, div-one, add-one, bit_and, arith}
use native.Mathlib.Nat.{div-div-eq-div-mul}
use lib.Count.{ones as digits, ones_step}
use Rattle.std.proofs.lemmas.Bool.Decides.{nat_tests}
use Rattle.std.proofs.lemmas.Nat.{ones-le, pow_pos}
use Rattle.std.proofs.lemmas.Nat.Bits.{and_pow, bit_at-lt}
use Rattle.spec.specs.Fields.{big_endian}
use Rattle.spec.specs.Values.{ones}
use Rattle.layout.specs.Present.{present_if, present}
use Rattle.layout.specs.declared.value.TheConstants.{FIELDS}

-- the ones of a number, counted from the lowest bit up
pub digits_ones : (d f : ℕ) → f < 2 ^ d → digits f ≡ ones d f
digits_ones zero f h = let e = ones-le 0 f h in omega arith
digits_ones (suc d) f h =
    let l : f / 2 < 2 ^ d = omega (arith, pow-suc 2 d) in
    ones_step f ∙ ap (λ n. f % 2 + n) (digits_ones d (f / 2) l)

-- those of the fields whose bit the format has, bits and fields side by side
abbrev pub picked : ℕ → List ℕ → List ℕ → List ℕ
picked f [] vs = []
picked f (b ∷ bs) [] = []
picked f (b ∷ bs) (v ∷ vs) = present_if (not (eqb (bit_and f b) 0)) v (picked f bs vs)

abbrev powers : ℕ → ℕ → List ℕ
powers i zero = []
powers i (suc n) = 2 ^ i ∷ powers (i + 1) n

-- the format from bit i on
halved : (f i : ℕ) → f / 2 ^ i / 2 ≡ f / 2 ^ (i + 1)
halved f i = div-div-eq-div-mul f (2 ^ i) 2 ∙ ap (λ n. f / n) (sym (ap (λ k. 2 ^ k) (add-one i) ∙ pow-suc 2 i))

bit_test : (f i : ℕ) → not (eqb (bit_and f (2 ^ i)) 0) ≡ eqb (f / 2 ^ i % 2) 1
bit_test f i = ap (λ n. not (eqb n 0)) (and_pow f i) ∙ go (f / 2 ^ i % 2) (bit_at-lt f i)
  where
    go : (m : ℕ) → m < 2 → not (eqb (m * 2 ^ i) 0) ≡ eqb m 1
    go zero h = let z : 0 * 2 ^ i ≡ 0 = omega arith in ap (λ n. not (eqb n 0)) z
    go (suc zero) h = let p = pow_pos i in let z : 1 * 2 ^ i ≡ 2 ^ i = omega arith in ap (λ n. not (eqb n 0)) z ∙ grind (arith, nat_tests)
    go (suc (suc m)) h = absurd (omega arith)

picked_from : (f i n : ℕ) (vs : List ℕ) → length vs ≡ n → picked f (powers i n) vs ≡ present (f / 2 ^ i) vs
picked_from f i zero [] e = refl
picked_from f i zero (v ∷ vs) e = absurd (omega arith)
picked_from f i (suc n) [] e = absurd (omega arith)
picked_from f i (suc n) (v ∷ vs) e =
    let l : length vs ≡ n = omega arith in
    ap (λ t. present_if t v (picked f (powers (i + 1) n) vs)) (bit_test f i)
    ∙ ap (λ t. present_if (eqb (f / 2 ^ i % 2) 1) v t) (picked_from f (i + 1) n vs l ∙ ap (λ m. present m vs) (sym (halved f i)))

pub picked_all : (f : ℕ) (vs xs ys : List ℕ) → length vs ≡ 8 → xs ≡ FIELDS → ys ≡ vs → big_endian (present f vs) ≡ big_endian (picked f xs ys)
picked_all f vs xs ys e p q =
    ap big_endian (sym (picked_from f 0 8 vs e ∙ ap (λ n. present n vs) (div-one f)))
    ∙ sym (ap (λ l. big_endian (picked f l ys)) p ∙ ap (λ l. big_endian (picked f FIELDS l)) q)

pub picked_end : (f : ℕ) (xs ys : List ℕ) → (length xs ≡ 0) ⊎ (length ys ≡ 0) → big_endian (picked f xs ys) ≡ []
picked_end f [] ys e = refl
picked_end f (x ∷ xs) [] e = refl
picked_end f (x ∷ xs) (y ∷ ys) e = absurd (omega (arith, e))

module _ (f : ℕ) (xs ys xs' ys' : List ℕ) (b v : ℕ) (p : xs ≡ b ∷ xs') (q : ys ≡ v ∷ ys') where
  pub picked_yes : (bit_and f b ≡ 0 → ⊥) → big_endian (picked f xs ys) ≡ big_endian (v ∷ []) ++ big_endian (picked f xs' ys')
  picked_yes n = ap (λ l. big_endian (picked f l ys)) p ∙ ap (λ l. big_endian (picked f (b ∷ xs') l)) q ∙ go (eqb (bit_and f b) 0) refl
    where
      go : (t : Bool) → eqb (bit_and f b) 0 ≡ t → big_endian (present_if (not t) v (picked f xs' ys')) ≡ big_endian (v ∷ []) ++ big_endian (picked f xs' ys')
      go true e = absurd (n (grind (arith, nat_tests)))
      go false e = refl
