-- The test whether two signed numbers are the same.
use Rattle.std.proofs.Common.{◌≡◌, true, ℤ, pos, negsuc, sym, refl, ap, subst}
use Rattle.std.proofs.lemmas.Bool.{eqb-true, eq-eqb, true≢false}
use Rattle.spec.specs.Fields.{same_signed}

pub signed_self : (x : ℤ) → same_signed x x ≡ true
signed_self (pos n) = eq-eqb n n refl
signed_self (negsuc n) = eq-eqb n n refl

pub signed_equal : (x y : ℤ) → x ≡ y → same_signed x y ≡ true
signed_equal x y e = subst (λ z. same_signed x z ≡ true) e (signed_self x)

pub signed_same : (x y : ℤ) → same_signed x y ≡ true → x ≡ y
signed_same (pos m) (pos n) h = ap pos (eqb-true m n h)
signed_same (pos m) (negsuc n) h = absurd (true≢false (sym h))
signed_same (negsuc m) (pos n) h = absurd (true≢false (sym h))
signed_same (negsuc m) (negsuc n) h = ap negsuc (eqb-true m n h)
