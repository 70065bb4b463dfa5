-- Two lists that are compared from the front, pair by pair, up to a place, and from there on at once.
use Rattle.std.proofs.Common.{◌≡◌, ℕ, ◌+◌, ◌<◌, Bool, true, false, not, ◌&&◌, List, length, get_or, drop, sym, ◌∙◌, true≢false}
use Rattle.std.proofs.lemmas.List.{drop_more}
use Rattle.std.specs.Cmp.Lexicographic.{pointwise}

module _ {A : Type 0} (eq : A → A → Bool) (xs ys : List A) (i : ℕ) (x y : A) (l : i < length xs) (m : i < length ys) (p : x ≡ get_or xs i x) (q : y ≡ get_or ys i y) where
  here : pointwise eq (drop i xs) (drop i ys) ≡ (eq x y && pointwise eq (drop (i + 1) xs) (drop (i + 1) ys))
  here = (λ t. pointwise eq (drop_more xs i x l t) (drop_more ys i y m t)) ∙ (λ t. eq (sym p t) (sym q t) && pointwise eq (drop (i + 1) xs) (drop (i + 1) ys))

  -- what is left decides as before, where the elements at a place are the same
  pub next : not (eq x y) ≡ false → {whole : Bool} → pointwise eq (drop i xs) (drop i ys) ≡ whole → pointwise eq (drop (i + 1) xs) (drop (i + 1) ys) ≡ whole
  next e {whole} h = go (eq x y) e (sym here ∙ h)
    where
      go : (t : Bool) → not t ≡ false → (t && pointwise eq (drop (i + 1) xs) (drop (i + 1) ys)) ≡ whole → pointwise eq (drop (i + 1) xs) (drop (i + 1) ys) ≡ whole
      go true e h = h
      go false e h = absurd (true≢false e)

  -- and where they differ, so do the lists
  pub differs : not (eq x y) ≡ true → {whole : Bool} → pointwise eq (drop i xs) (drop i ys) ≡ whole → false ≡ whole
  differs e {whole} h = go (eq x y) e (sym here ∙ h)
    where
      go : (t : Bool) → not t ≡ true → (t && pointwise eq (drop (i + 1) xs) (drop (i + 1) ys)) ≡ whole → false ≡ whole
      go false e h = h
      go true e h = absurd (true≢false (sym e))
