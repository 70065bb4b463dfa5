-- The fields of a class definition in either format.
use Rattle.std.proofs.Common.{◌≡◌, ℕ, ◌+◌, ◌*◌, Bool, true, false, cond, List, [], ◌∷◌, ◌++◌, map, length, Some, None, Ok, Option, sym, refl, ap, ◌∙◌, arith}
use Rattle.spec.specs.Fields.{big_endian, Stand}
use Rattle.spec.specs.Entries.{unsorted}
use Rattle.spec.specs.Coverage.{Range, ranges}
use Rattle.spec.specs.Classes.{class_at, span, first_listed, shorter_as_array, class_format, class_array, class_range_fields}
use Rattle.spec.specs.Bytes.{Table, end, field, count, fields, own, Below, class_def}
use Rattle.spec.specs.Meaning.{class}
use Rattle.laws.specs.Conditions.{Rising}
use Rattle.laws.proofs.Lying.{fields_head}
use Rattle.laws.proofs.Classing.{class_reads}
use Rattle.laws.proofs.Standing.{length_map_numbers}
use Rattle.layout.specs.Writing.{room}
use Rattle.layout.specs.Faults.{class_count, class_fault_by, class_fault}
use Rattle.layout.specs.Described.{table_fields}
use Rattle.layout.proofs.Whole.{room_is, below_fields}
use Rattle.layout.specs.Gathering.{record_fields}
use Rattle.layout.proofs.RangeWriting.{class_records}
use Rattle.layout.proofs.Listing.{sorted_rises}

is_one : (b : Bool) → ◌≡◌ {A = ℕ} 1 (cond b 1 2) → b ≡ true
is_one true e = refl
is_one false e = absurd (omega arith)

is_two : (b : Bool) → ◌≡◌ {A = ℕ} 2 (cond b 1 2) → b ≡ false
is_two true e = absurd (omega arith)
is_two false e = refl

length_class_ranges : (rs : List Range) → length (class_range_fields rs) ≡ 3 * length rs
length_class_ranges [] = refl
length_class_ranges (r ∷ rs) = let h = length_class_ranges rs in omega arith

no_fault : (u : Option ℕ) (n : ℕ) → class_fault_by u n ≡ None → u ≡ None
no_fault None n e = refl
no_fault (Some i) n e = let z : ◌≡◌ {A = ℕ} 0 1 = cc in absurd (omega arith)

module _ (ps : List (ℕ × ℕ)) where
  pub class_rises : class_fault ps ≡ None → Rising (map (λ p. p.0) ps)
  class_rises e = sorted_rises (map (λ p. p.0) ps) (no_fault (unsorted (map (λ p. p.0) ps)) (class_count ps) e)

  abbrev by_array : Table
  by_array = field 1 (field (first_listed ps) (count (span ps) (fields (class_array ps) end)))

  abbrev by_ranges : Table
  by_ranges = field 2 (count (length (ranges ps)) (fields (class_range_fields (ranges ps)) end))

  array_fields : shorter_as_array ps ≡ true → table_fields (class_def ps) ≡ 1 ∷ first_listed ps ∷ span ps ∷ class_array ps
  array_fields b = ap (λ t. table_fields (cond t by_array by_ranges)) b ∙ ap (λ l. 1 ∷ first_listed ps ∷ span ps ∷ l) (fields_head (class_array ps) (own by_array))

  range_fields : shorter_as_array ps ≡ false → table_fields (class_def ps) ≡ 2 ∷ length (ranges ps) ∷ class_range_fields (ranges ps)
  range_fields b = ap (λ t. table_fields (cond t by_array by_ranges)) b ∙ ap (λ l. 2 ∷ length (ranges ps) ∷ l) (fields_head (class_range_fields (ranges ps)) (own by_ranges))

  module _ (n : ℕ) (q : n ≡ class_count ps) where
    module _ (p : 1 ≡ class_format ps) where
      array : shorter_as_array ps ≡ true
      array = is_one (shorter_as_array ps) p

      array_span : n ≡ span ps
      array_span = q ∙ ap (λ b. cond b (span ps) (length (ranges ps))) array

      pub array_pieces : (first : ℕ) → first ≡ first_listed ps → big_endian (1 ∷ first ∷ n ∷ []) ++ big_endian (class_array ps) ≡ big_endian (table_fields (class_def ps))
      array_pieces first e = sym (ap big_endian (array_fields array) ∙ ap (λ x. big_endian (1 ∷ x ∷ span ps ∷ class_array ps)) (sym e) ∙ ap (λ x. big_endian (1 ∷ first ∷ x ∷ class_array ps)) (sym array_span))

      pub array_size : class_fault ps ≡ None → 6 + 2 * n ≡ room (class_fault ps) (table_fields (class_def ps))
      array_size e =
          let r = room_is (class_fault ps) (table_fields (class_def ps)) e in
          let l = ap length (array_fields array) in
          let k : length (class_array ps) ≡ span ps = length_map_numbers (class_at ps) (first_listed ps) (span ps) in
          let m = array_span in omega arith

    module _ (p : 2 ≡ class_format ps) where
      by_range : shorter_as_array ps ≡ false
      by_range = is_two (shorter_as_array ps) p

      range_count : n ≡ length (ranges ps)
      range_count = q ∙ ap (λ b. cond b (span ps) (length (ranges ps))) by_range

      pub range_pieces : big_endian (2 ∷ n ∷ []) ++ big_endian (record_fields (λ r k. r.class) 0 (ranges ps)) ≡ big_endian (table_fields (class_def ps))
      range_pieces = ap (λ l. big_endian (2 ∷ n ∷ l)) (class_records 0 (ranges ps)) ∙ sym (ap big_endian (range_fields by_range) ∙ ap (λ x. big_endian (2 ∷ x ∷ class_range_fields (ranges ps))) (sym range_count))

      pub range_size : class_fault ps ≡ None → 4 + 6 * n ≡ room (class_fault ps) (table_fields (class_def ps))
      range_size e =
          let r = room_is (class_fault ps) (table_fields (class_def ps)) e in
          let l = ap length (range_fields by_range) in
          let k = length_class_ranges (ranges ps) in
          let m = range_count in omega arith

  pub class_back : (bs : List ℕ) (at g : ℕ) → class_fault ps ≡ None → Stand bs at (table_fields (class_def ps)) → class bs at g ≡ Ok (class_at ps g)
  class_back bs at g e s = class_reads bs at ps g (class_rises e) (s, go (shorter_as_array ps))
    where
      go : (b : Bool) → Below bs at (own (class_def ps)) (cond b by_array by_ranges)
      go true = below_fields bs at (own (class_def ps)) (class_array ps)
      go false = below_fields bs at (own (class_def ps)) (class_range_fields (ranges ps))
