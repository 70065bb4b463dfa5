-- Glyphs with their classes: where one stands, and what is left of those listed as a span of glyphs is walked.
use Rattle.std.proofs.Common.{◌≡◌, ℕ, ◌+◌, ◌-◌, ◌<◌, ◌≤◌, Bool, true, false, eqb, leb, List, [], ◌∷◌, map, length, get_or, drop, Some, None, Option, sym, refl, ap, ◌∙◌, subst, arith}
use Rattle.std.proofs.lemmas.Bool.Decides.{nat_tests}
use Rattle.std.proofs.lemmas.List.{length-map}
use Rattle.spec.specs.Entries.{not_rising, unsorted}
use Rattle.spec.specs.Classes.{class_at, last_from, span}
use Rattle.laws.specs.Conditions.{Above, Rising}
use Rattle.layout.specs.declared.glyph_class.GlyphClass.{GlyphClass}
use Rattle.layout.specs.Listing.{listed, here}

abbrev pub none : GlyphClass
none = record { glyph = 0; class = 0 }

-- ---- the first and the last

last_at : (x : GlyphClass) (cs : List GlyphClass) (d : GlyphClass) → last_from x.glyph (listed cs) ≡ (get_or (x ∷ cs) (length cs) d).glyph
last_at x [] d = refl
last_at x (y ∷ cs) d = last_at y cs d

pub ends_at : (cs : List GlyphClass) (first last : GlyphClass) → last ≡ get_or cs (length cs - 1) last → first ≡ get_or cs 0 first → 0 < length cs → span (listed cs) ≡ last.glyph - first.glyph + 1
ends_at [] first last p q h = absurd (omega arith)
ends_at (x ∷ cs) first last p q h =
    let n : length (x ∷ cs) - 1 ≡ length cs = omega arith in
    ap (λ l. l - x.glyph + 1) (last_at x cs last ∙ ap (λ k. (get_or (x ∷ cs) k last).glyph) (sym n) ∙ ap (λ e. e.glyph) (sym p)) ∙ ap (λ e. last.glyph - e.glyph + 1) (sym q)

-- ---- rising

abbrev glyphs : List GlyphClass → List ℕ
glyphs cs = map (λ p. p.0) (listed cs)

rises : (i b : ℕ) (xs : List ℕ) → not_rising i b xs ≡ None → Above b xs
rises i b [] e = tt
rises i b (x ∷ xs) e = go (leb x b) refl e (rises (i + 1) x xs)
  where
    go : (t : Bool) → leb x b ≡ t → ◌≡◌ {A = Option ℕ} (elim t [ true ↦ Some i | false ↦ not_rising (i + 1) x xs ]) None → (not_rising (i + 1) x xs ≡ None → Above x xs) → (b < x) × Above x xs
    go true p q h = let z : ◌≡◌ {A = ℕ} 0 1 = cc in absurd (omega arith)
    go false p q h = let l : b < x = grind (arith, nat_tests) in (l, h q)

pub sorted_rises : (xs : List ℕ) → unsorted xs ≡ None → Rising xs
sorted_rises [] e = tt
sorted_rises (x ∷ xs) e = rises 1 x xs e

reach : (b : ℕ) (ps : List (ℕ × ℕ)) → Above b (map (λ p. p.0) ps) → b + length ps ≤ last_from b ps
reach b [] a = omega arith
reach b (p ∷ ps) a = let h = reach p.0 ps a.1 in omega arith

within_span : (ps : List (ℕ × ℕ)) → Rising (map (λ p. p.0) ps) → length ps ≤ span ps
within_span [] r = omega arith
within_span (p ∷ ps) r = let h = reach p.0 ps r in omega arith

-- what the entries rise by are their glyphs
pub keys_listed : (cs : List GlyphClass) → map (λ (e : GlyphClass). e.glyph) cs ≡ map (λ p. p.0) (listed cs)
keys_listed [] = refl
keys_listed (c ∷ cs) = ap (λ gs. c.glyph ∷ gs) (keys_listed cs)

-- there are no more entries than glyphs in their span
pub few : (cs : List GlyphClass) → unsorted (map (λ p. p.0) (listed cs)) ≡ None → length cs ≤ span (listed cs)
few cs e = omega (arith, within_span (listed cs) (sorted_rises (map (λ p. p.0) (listed cs)) e), length-map {B = ℕ × ℕ} cs (λ e. (e.glyph, e.class)))

-- ---- a walk along the span

abbrev From : ℕ → List ℕ → Type 0
From g [] = Unit {0}
From g (x ∷ xs) = (g ≤ x) × Above x xs

-- those listed from a place on say of the glyphs from g on what all say
pub record Onward (ps qs : List (ℕ × ℕ)) (g : ℕ) : Type 0 where
  pub rises : From g (map (λ p. p.0) qs)
  pub says : (h : ℕ) → g ≤ h → class_at qs h ≡ class_at ps h

below : (b g : ℕ) (qs : List (ℕ × ℕ)) → Above b (map (λ p. p.0) qs) → g ≤ b → class_at qs g ≡ 0
below b g [] a h = refl
below b g (q ∷ qs) a h = go (eqb q.0 g) refl (below q.0 g qs a.1 (omega arith))
  where
    go : (t : Bool) → eqb q.0 g ≡ t → class_at qs g ≡ 0 → ◌≡◌ {A = ℕ} (elim t [ true ↦ q.1 | false ↦ class_at qs g ]) 0
    go true p r = let e : q.0 ≡ g = grind (arith, nat_tests) in absurd (omega arith)
    go false p r = r

above_from : (b : ℕ) (xs : List ℕ) → Above b xs → From (b + 1) xs
above_from b [] a = tt
above_from b (x ∷ xs) a = (omega arith, a.1)

past : (q : ℕ × ℕ) (qs : List (ℕ × ℕ)) (h : ℕ) → (q.0 ≡ h → ⊥) → class_at qs h ≡ class_at (q ∷ qs) h
past q qs h n = go (eqb q.0 h) refl
  where
    go : (t : Bool) → eqb q.0 h ≡ t → ◌≡◌ {A = ℕ} (class_at qs h) (elim t [ true ↦ q.1 | false ↦ class_at qs h ])
    go true p = absurd (n (grind (arith, nat_tests)))
    go false p = refl

pub record Step (ps qs : List (ℕ × ℕ)) (g : ℕ) (r : ℕ × ℕ) : Type 0 where
  pub class : r.0 ≡ class_at ps g
  pub fits : r.1 ≤ length qs
  pub onward : Onward ps (drop r.1 qs) (g + 1)

pub walk : (ps qs : List (ℕ × ℕ)) (g : ℕ) → Onward ps qs g → Step ps qs g (here qs g)
walk ps [] g o = record { class = o.says g (omega arith); fits = omega arith; onward = record { rises = tt; says = λ h l. o.says h (omega arith) } }
walk ps (q ∷ qs) g o = go (eqb q.0 g) refl (o.says g (omega arith))
  where
    go : (t : Bool) → eqb q.0 g ≡ t → ◌≡◌ {A = ℕ} (elim t [ true ↦ q.1 | false ↦ class_at qs g ]) (class_at ps g) → Step ps (q ∷ qs) g (elim t [ true ↦ (q.1, 1) | false ↦ (0, 0) ])
    go true p s =
        let e : q.0 ≡ g = grind (arith, nat_tests) in
        record {
          class = s;
          fits = omega arith;
          onward = record {
            rises = subst (λ b. From (b + 1) (map (λ p. p.0) qs)) e (above_from q.0 (map (λ p. p.0) qs) o.rises.1);
            says = λ h l. past q qs h (λ x. omega arith) ∙ o.says h (omega arith);
          };
        }
    go false p s =
        let l : g < q.0 = grind (arith, nat_tests, o.rises.0) in
        record {
          class = sym (below q.0 g qs o.rises.1 (omega arith)) ∙ s;
          fits = omega arith;
          onward = record { rises = (omega arith, o.rises.1); says = λ h m. o.says h (omega arith) };
        }
