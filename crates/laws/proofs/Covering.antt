-- A coverage table that stands in bytes gives each glyph its place.
use Rattle.std.proofs.Common.{◌≡◌, ℕ, suc, ◌+◌, ◌-◌, Bool, true, false, cond, eqb, List, [], ◌∷◌, map, length, Some, Ok, Option, sym, refl, ap, ◌∙◌, subst, arith}
use Rattle.std.proofs.lemmas.Bool.Decides.{nat_tests}
use Rattle.spec.specs.Lists.{place_of}
use Rattle.spec.specs.Fields.{field, Stand}
use Rattle.spec.specs.Coverage.{Range, joined, glyph_ranges, range_fields, shorter_as_ranges, coverage_count, coverage_entries, coverage_index}
use Rattle.spec.specs.Classes.{class_range_fields}
use Rattle.spec.specs.Bytes.{end, fields, head, coverage, own, Lies}
use Rattle.spec.specs.Meaning.{glyph_search, index_in, covered}
use Rattle.laws.proofs.Standing.{spread}
use Rattle.laws.proofs.Lying.{fields_head}
use Rattle.laws.proofs.Ranges.{holding, ranges_read, Sound, ranges_sound}

glyphs_read : (bs : List ℕ) (g k i : ℕ) (gs : List ℕ) → Stand bs k gs → glyph_search bs g k i (length gs) ≡ Ok (place_of (λ x. eqb x g) i gs)
glyphs_read bs g k i [] h = refl
glyphs_read bs g k i (x ∷ gs) h = let a = glyphs_read bs g (k + 2) (i + 1) gs h.1 in rw h.0 (grind (arith, nat_tests))

-- ranges with the coverage index of their start in place of a class, the first being i
abbrev numbered : ℕ → List Range → List Range
numbered i [] = []
numbered i (r ∷ rs) = record { start = r.start; end = r.end; class = i } ∷ numbered (i + (r.end - r.start) + 1) rs

numbered_fields : (i : ℕ) (rs : List Range) → range_fields i rs ≡ class_range_fields (numbered i rs)
numbered_fields i [] = refl
numbered_fields i (r ∷ rs) = ap (λ ws. r.start ∷ r.end ∷ i ∷ ws) (numbered_fields (i + (r.end - r.start) + 1) rs)

numbered_length : (i : ℕ) (rs : List Range) → length (numbered i rs) ≡ length rs
numbered_length i [] = refl
numbered_length i (r ∷ rs) = ap suc (numbered_length (i + (r.end - r.start) + 1) rs)

-- a glyph more before the ranges
joined_place : (x c g i : ℕ) (rs : List Range) → Sound rs
    → index_in g (holding g (numbered i (joined x c rs))) ≡ elim (eqb x g) [ true ↦ Some i | false ↦ index_in g (holding g (numbered (i + 1) rs)) ]
joined_place x c g i [] h = grind (arith, nat_tests)
joined_place x c g i (r ∷ rs) h = grind (arith, nat_tests)

-- the ranges of glyphs hold each at its place
ranges_place : (gs : List ℕ) (g i : ℕ) → index_in g (holding g (numbered i (glyph_ranges gs))) ≡ place_of (λ x. eqb x g) i gs
ranges_place [] g i = refl
ranges_place (x ∷ gs) g i = joined_place x 0 g i (glyph_ranges gs) (ranges_sound (map (λ g. (g, 0)) gs))
    ∙ ap {B = Option ℕ} (λ o. elim (eqb x g) [ true ↦ Some i | false ↦ o ]) (ranges_place gs g (i + 1))

-- either format, by its fields
module _ (bs : List ℕ) (k : ℕ) (gs : List ℕ) (g : ℕ) where
  by_glyphs : field bs k ≡ Ok 1 → field bs (k + 2) ≡ Ok (length gs) → Stand bs (k + 4) gs → covered bs k g ≡ Ok (coverage_index gs g)
  by_glyphs f n h = rw f (rw n (glyphs_read bs g (k + 4) 0 gs h))

  by_ranges : field bs k ≡ Ok 2 → field bs (k + 2) ≡ Ok (length (glyph_ranges gs)) → Stand bs (k + 4) (range_fields 0 (glyph_ranges gs)) → covered bs k g ≡ Ok (coverage_index gs g)
  by_ranges f n h =
      let rs = numbered 0 (glyph_ranges gs) in
      let n' : field bs (k + 2) ≡ Ok (length rs) = n ∙ ap Ok (sym (numbered_length 0 (glyph_ranges gs))) in
      let h' = subst (Stand bs (k + 4)) (numbered_fields 0 (glyph_ranges gs)) h in
      rw f (rw n' (rw (ranges_read bs g (k + 4) rs h') (ap Ok (ranges_place gs g 0))))

  by_format : (b : Bool) → field bs k ≡ Ok (cond b 2 1) → field bs (k + 2) ≡ Ok (cond b (length (glyph_ranges gs)) (length gs))
      → Stand bs (k + 4) (cond b (range_fields 0 (glyph_ranges gs)) gs) → covered bs k g ≡ Ok (coverage_index gs g)
  by_format true f n h = by_ranges f n h
  by_format false f n h = by_glyphs f n h

pub coverage_reads : (bs : List ℕ) (at : ℕ) (gs : List ℕ) (g : ℕ) → Lies bs at (coverage gs) → covered bs at g ≡ Ok (coverage_index gs g)
coverage_reads bs at gs g h =
    let o = own (coverage gs) in
    let p = spread bs at 1 (coverage_count gs ∷ []) (head o (fields (coverage_entries gs) end)) h.0.1 in
    by_format bs at gs g (shorter_as_ranges gs) h.0.0 p.0 (subst (Stand bs (at + 4)) (fields_head (coverage_entries gs) o) p.1)
