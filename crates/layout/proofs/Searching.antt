-- One step of a search: it ends with a fault, finds its match, or goes on.
use Rattle.std.proofs.Common.{◌≡◌, ℕ, suc, ◌+◌, ◌-◌, ◌*◌, ◌<◌, ◌≤◌, Bool, true, false, eqb, leb, List, Some, Ok, Err, Option, Result, sym, refl, ap, ◌∙◌, arith}
use Rattle.std.proofs.lemmas.Bool.Decides.{nat_tests}
use Rattle.spec.specs.Fields.{field, and_then}
use Rattle.spec.specs.Meaning.{glyph_search, range_search}

module _ (bs : List ℕ) (g table i n : ℕ) (h : i < n) where
  left : n - i ≡ suc (n - (i + 1))
  left = omega arith

  -- the entries stand behind the two fields at the front of the table
  abbrev at : ℕ
  at = table + 4

  moved : (j k : ℕ) (r : Result ℕ ℕ) → j ≡ k → r ≡ field bs j → r ≡ field bs k
  moved j k r e p = p ∙ ap (field bs) e

  -- ---- glyphs: the step at glyph i of n
  glyph_step : (r : Result ℕ ℕ) → r ≡ field bs (table + (4 + 2 * i))
      → glyph_search bs g (at + 2 * i) i (n - i) ≡ and_then r (λ x. elim (eqb x g) [ true ↦ Ok (Some i) | false ↦ glyph_search bs g (at + 2 * i + 2) (i + 1) (n - (i + 1)) ])
  glyph_step r p = ap (glyph_search bs g (at + 2 * i) i) left ∙ ap (λ z. and_then z (λ x. elim (eqb x g) [ true ↦ Ok (Some i) | false ↦ glyph_search bs g (at + 2 * i + 2) (i + 1) (n - (i + 1)) ])) (sym (moved (table + (4 + 2 * i)) (at + 2 * i) r (omega arith) p))

  pub glyph_next : (x : ℕ) → Ok x ≡ field bs (table + (4 + 2 * i)) → (x ≡ g → ⊥) → glyph_search bs g (at + 2 * i) i (n - i) ≡ glyph_search bs g (at + 2 * (i + 1)) (i + 1) (n - (i + 1))
  glyph_next x p q =
      let e : at + 2 * i + 2 ≡ at + 2 * (i + 1) = omega arith in
      glyph_step (Ok x) p ∙ (go (eqb x g) refl ∙ ap (λ k. glyph_search bs g k (i + 1) (n - (i + 1))) e)
    where
      go : (b : Bool) → eqb x g ≡ b → ◌≡◌ {A = Result (Option ℕ) ℕ} (elim b [ true ↦ Ok (Some i) | false ↦ glyph_search bs g (at + 2 * i + 2) (i + 1) (n - (i + 1)) ]) (glyph_search bs g (at + 2 * i + 2) (i + 1) (n - (i + 1)))
      go true f = absurd (q (grind (arith, nat_tests)))
      go false f = refl

  -- ---- ranges: the step at range i of n

  abbrev rest : Result (Option (ℕ × ℕ)) ℕ
  rest = range_search bs g (at + 6 * i + 6) (n - (i + 1))

  abbrev third : ℕ → Result (Option (ℕ × ℕ)) ℕ
  third s = and_then (field bs (at + 6 * i + 4)) (λ x. Ok (Some (s, x)))

  abbrev by_end : ℕ → ℕ → Result (Option (ℕ × ℕ)) ℕ
  by_end s e = elim (leb g e) [ true ↦ third s | false ↦ rest ]

  abbrev by_start : ℕ → Result (Option (ℕ × ℕ)) ℕ
  by_start s = elim (leb s g) [ true ↦ and_then (field bs (at + 6 * i + 2)) (by_end s) | false ↦ rest ]

  range_step : (r : Result ℕ ℕ) → r ≡ field bs (table + (4 + 6 * i)) → range_search bs g (at + 6 * i) (n - i) ≡ and_then r by_start
  range_step r p = ap (range_search bs g (at + 6 * i)) left ∙ ap (λ z. and_then z by_start) (sym (moved (table + (4 + 6 * i)) (at + 6 * i) r (omega arith) p))

  -- the start is not above the glyph
  inside : (s : ℕ) (r : Result ℕ ℕ) → s ≤ g → r ≡ field bs (table + (4 + 6 * i + 2)) → by_start s ≡ and_then r (by_end s)
  inside s r l p = go (leb s g) (grind (arith, nat_tests))
    where
      go : (b : Bool) → b ≡ true → ◌≡◌ {A = Result (Option (ℕ × ℕ)) ℕ} (elim b [ true ↦ and_then (field bs (at + 6 * i + 2)) (by_end s) | false ↦ rest ]) (and_then r (by_end s))
      go true e = ap (λ z. and_then z (by_end s)) (sym (moved (table + (4 + 6 * i + 2)) (at + 6 * i + 2) r (omega arith) p))
      go false e = cc

  -- nor is its end below it
  holds : (s e : ℕ) (r : Result ℕ ℕ) → g ≤ e → r ≡ field bs (table + (4 + 6 * i + 4)) → by_end s e ≡ and_then r (λ x. Ok (Some (s, x)))
  holds s e r l p = go (leb g e) (grind (arith, nat_tests))
    where
      go : (b : Bool) → b ≡ true → ◌≡◌ {A = Result (Option (ℕ × ℕ)) ℕ} (elim b [ true ↦ third s | false ↦ rest ]) (and_then r (λ x. Ok (Some (s, x))))
      go true f = ap (λ z. and_then z (λ x. Ok (Some (s, x)))) (sym (moved (table + (4 + 6 * i + 4)) (at + 6 * i + 4) r (omega arith) p))
      go false f = cc

  pub third_fault : (s e k : ℕ) → Ok s ≡ field bs (table + (4 + 6 * i)) → s ≤ g → Ok e ≡ field bs (table + (4 + 6 * i + 2)) → g ≤ e → Err k ≡ field bs (table + (4 + 6 * i + 4)) → range_search bs g (at + 6 * i) (n - i) ≡ Err k
  third_fault s e k p l q m r = range_step (Ok s) p ∙ (inside s (Ok e) l q ∙ holds s e (Err k) m r)

  pub range_found : (s e x : ℕ) → Ok s ≡ field bs (table + (4 + 6 * i)) → s ≤ g → Ok e ≡ field bs (table + (4 + 6 * i + 2)) → g ≤ e → Ok x ≡ field bs (table + (4 + 6 * i + 4)) → range_search bs g (at + 6 * i) (n - i) ≡ Ok (Some (s, x))
  range_found s e x p l q m r = range_step (Ok s) p ∙ (inside s (Ok e) l q ∙ holds s e (Ok x) m r)

  onward : rest ≡ range_search bs g (at + 6 * (i + 1)) (n - (i + 1))
  onward = let e : at + 6 * i + 6 ≡ at + 6 * (i + 1) = omega arith in ap (λ k. range_search bs g k (n - (i + 1))) e

  pub start_above : (s : ℕ) → Ok s ≡ field bs (table + (4 + 6 * i)) → g < s → range_search bs g (at + 6 * i) (n - i) ≡ range_search bs g (at + 6 * (i + 1)) (n - (i + 1))
  start_above s p l = range_step (Ok s) p ∙ (go (leb s g) (grind (arith, nat_tests)) ∙ onward)
    where
      go : (b : Bool) → b ≡ false → ◌≡◌ {A = Result (Option (ℕ × ℕ)) ℕ} (elim b [ true ↦ and_then (field bs (at + 6 * i + 2)) (by_end s) | false ↦ rest ]) rest
      go true e = cc
      go false e = refl

  pub end_below : (s e : ℕ) → Ok s ≡ field bs (table + (4 + 6 * i)) → s ≤ g → Ok e ≡ field bs (table + (4 + 6 * i + 2)) → e < g → range_search bs g (at + 6 * i) (n - i) ≡ range_search bs g (at + 6 * (i + 1)) (n - (i + 1))
  end_below s e p l q m = range_step (Ok s) p ∙ (inside s (Ok e) l q ∙ (go (leb g e) (grind (arith, nat_tests)) ∙ onward))
    where
      go : (b : Bool) → b ≡ false → ◌≡◌ {A = Result (Option (ℕ × ℕ)) ℕ} (elim b [ true ↦ third s | false ↦ rest ]) rest
      go true f = cc
      go false f = refl
