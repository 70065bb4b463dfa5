-- The fields of a coverage table in either format.
use Rattle.std.proofs.Common.{◌≡◌, ℕ, ◌+◌, ◌-◌, ◌*◌, Bool, true, false, cond, List, [], ◌∷◌, ◌++◌, length, None, Ok, sym, refl, ap, ◌∙◌, arith}
use Rattle.spec.specs.Fields.{big_endian, Stand}
use Rattle.spec.specs.Coverage.{Range, glyph_ranges, range_fields, shorter_as_ranges, coverage_format, coverage_count, coverage_entries, coverage_index}
use Rattle.spec.specs.Bytes.{own, coverage}
use Rattle.spec.specs.Meaning.{covered}
use Rattle.laws.proofs.Lying.{fields_head}
use Rattle.laws.proofs.Covering.{coverage_reads}
use Rattle.layout.specs.Writing.{room}
use Rattle.layout.specs.Faults.{coverage_fault}
use Rattle.layout.specs.Described.{table_fields}
use Rattle.layout.specs.Gathering.{record_fields}
use Rattle.layout.proofs.RangeWriting.{index_records}
use Rattle.layout.proofs.Whole.{room_is, below_fields}

is_one : (b : Bool) → ◌≡◌ {A = ℕ} 1 (cond b 2 1) → b ≡ false
is_one true e = absurd (omega arith)
is_one false e = refl

is_two : (b : Bool) → ◌≡◌ {A = ℕ} 2 (cond b 2 1) → b ≡ true
is_two true e = refl
is_two false e = absurd (omega arith)

length_range_fields : (i : ℕ) (rs : List Range) → length (range_fields i rs) ≡ 3 * length rs
length_range_fields i [] = refl
length_range_fields i (r ∷ rs) = let h = length_range_fields (i + (r.end - r.start) + 1) rs in omega arith

module _ (gs : List ℕ) where
  pub cover_fields : table_fields (coverage gs) ≡ coverage_format gs ∷ coverage_count gs ∷ coverage_entries gs
  cover_fields = ap (λ l. coverage_format gs ∷ coverage_count gs ∷ l) (fields_head (coverage_entries gs) (own (coverage gs)))

  as_glyphs : 1 ≡ coverage_format gs → shorter_as_ranges gs ≡ false
  as_glyphs p = is_one (shorter_as_ranges gs) p

  as_ranges : 2 ≡ coverage_format gs → shorter_as_ranges gs ≡ true
  as_ranges p = is_two (shorter_as_ranges gs) p

  module _ (n : ℕ) (q : n ≡ coverage_count gs) where
    pieces : (f : ℕ) → f ≡ coverage_format gs → (es : List ℕ) → coverage_entries gs ≡ es → big_endian (f ∷ n ∷ []) ++ big_endian es ≡ big_endian (table_fields (coverage gs))
    pieces f p es e = sym (ap big_endian (cover_fields ∙ ap (λ l. coverage_format gs ∷ coverage_count gs ∷ l) e) ∙ ap (λ x. big_endian (x ∷ coverage_count gs ∷ es)) (sym p) ∙ ap (λ x. big_endian (f ∷ x ∷ es)) (sym q))

    pub glyph_pieces : 1 ≡ coverage_format gs → big_endian (1 ∷ n ∷ []) ++ big_endian gs ≡ big_endian (table_fields (coverage gs))
    glyph_pieces p = pieces 1 p gs (ap (λ b. cond b (range_fields 0 (glyph_ranges gs)) gs) (as_glyphs p))

    pub range_pieces : 2 ≡ coverage_format gs → big_endian (2 ∷ n ∷ []) ++ big_endian (record_fields (λ r k. k) 0 (glyph_ranges gs)) ≡ big_endian (table_fields (coverage gs))
    range_pieces p = ap (λ l. big_endian (2 ∷ n ∷ l)) (index_records 0 (glyph_ranges gs)) ∙ pieces 2 p (range_fields 0 (glyph_ranges gs)) (ap (λ b. cond b (range_fields 0 (glyph_ranges gs)) gs) (as_ranges p))

    pub glyph_size : coverage_fault gs ≡ None → 1 ≡ coverage_format gs → 4 + 2 * n ≡ room (coverage_fault gs) (table_fields (coverage gs))
    glyph_size e p =
        let r = room_is (coverage_fault gs) (table_fields (coverage gs)) e in
        let l = ap length (cover_fields ∙ ap (λ b. coverage_format gs ∷ coverage_count gs ∷ cond b (range_fields 0 (glyph_ranges gs)) gs) (as_glyphs p)) in
        let m = ap (λ b. cond b (length (glyph_ranges gs)) (length gs)) (as_glyphs p) in omega arith

    pub range_size : coverage_fault gs ≡ None → 2 ≡ coverage_format gs → 4 + 6 * n ≡ room (coverage_fault gs) (table_fields (coverage gs))
    range_size e p =
        let r = room_is (coverage_fault gs) (table_fields (coverage gs)) e in
        let l = ap length (cover_fields ∙ ap (λ b. coverage_format gs ∷ coverage_count gs ∷ cond b (range_fields 0 (glyph_ranges gs)) gs) (as_ranges p)) in
        let m = ap (λ b. cond b (length (glyph_ranges gs)) (length gs)) (as_ranges p) in
        let k = length_range_fields 0 (glyph_ranges gs) in omega arith

  pub coverage_back : (bs : List ℕ) (at g : ℕ) → Stand bs at (table_fields (coverage gs)) → covered bs at g ≡ Ok (coverage_index gs g)
  coverage_back bs at g s = coverage_reads bs at gs g (s, below_fields bs at (own (coverage gs)) (coverage_entries gs))
