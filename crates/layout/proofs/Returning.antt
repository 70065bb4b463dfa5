-- A part that was written is read back.
use Rattle.std.proofs.Common.{◌≡◌, ℕ, List, drop, Some, None, Ok, Option, Result, MatchResult, sym, refl, subst}
use Rattle.spec.specs.Fields.{big_endian, Stand}
use Rattle.spec.specs.Denials as fault_of
use Rattle.denials.specs.declared.denial.Denial.{Denial}
use Rattle.laws.proofs.Standing.{stand}
use Rattle.layout.specs.Writing.{Written, Answered}

pub answered : {A : Type 0} (bs bs' ws : List ℕ) (n : ℕ) (a : A) (m : Result A ℕ) (f : Option fault_of.Denial) (r : Result A Denial) (Q : ℕ → Type 0) → Written f (Ok n) bs bs' (big_endian ws)
    → (f ≡ None → Stand bs' 0 ws → m ≡ Ok a) → MatchResult m (λ x. r ≡ Ok x) Q → Answered f r bs (big_endian ws) a
answered bs bs' ws n a m None r Q w law is =
    let e = law refl (stand bs' (drop n bs) 0 ws w.1) in
    let k : r ≡ Ok a = subst (λ x. MatchResult x (λ y. r ≡ Ok y) Q) e is in
    subst (λ x. Answered None x bs (big_endian ws) a) (sym k) refl
answered bs bs' ws n a m (Some d) r Q w law is = absurd w
