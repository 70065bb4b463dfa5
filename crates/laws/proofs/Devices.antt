-- Device tables and variation index tables that stand in bytes read back.
use Rattle.std.proofs.Common.{◌≡◌, ℕ, ◌+◌, ◌-◌, ◌*◌, ◌/◌, ◌%◌, ◌<◌, ◌≤◌, true, false, ◌&&◌, eqb, leb, List, [], ◌∷◌, length, get_or, ℤ, pos, Some, Ok, sym, ap, ◌∙◌, subst, inl, inr, arith}
use Rattle.std.proofs.lemmas.List.{get_or_past}
use Rattle.std.proofs.lemmas.Bool.{cases_lt}
use Rattle.std.proofs.lemmas.Bool.Decides.{nat_tests}
use Rattle.spec.specs.Fields.{field, and_then, Stand}
use Rattle.spec.specs.Entries.{Device, value_at}
use Rattle.spec.specs.Values.{DeviceOrVariationIndex, device, variation_index}
use Rattle.spec.specs.Devices.{delta_format, per_word, words, word, device_fields, variation_fields}
use Rattle.spec.specs.Bytes.{own, beside_table, Lies}
use Rattle.spec.specs.Meaning.{beside, device_value, no_id}
use Rattle.laws.specs.Conditions.{Within, FitsDevice, FitsBeside}
use Rattle.laws.specs.Descriptions.{beside_read}
use Rattle.laws.proofs.Finding.{every_at}
use Rattle.laws.proofs.Standing.{spread, stand_at, length_map_numbers, getD_map_numbers}
use Rattle.laws.proofs.Lying.{fields_head}
use Rattle.laws.proofs.Packing.{format_bounds, word_below, unpacks}

-- the tests on the way
not_index : (f : ℕ) → f ≤ 3 → eqb f 0x8000 ≡ false
not_index f h = grind (arith, nat_tests)

known : (f : ℕ) → 1 ≤ f → f ≤ 3 → (leb 1 f && leb f 3) ≡ true
known f h k = grind (arith, nat_tests)

in_range : (a b s : ℕ) → a ≤ s → s ≤ b → (leb a s && leb s b) ≡ true
in_range a b s h k = grind (arith, nat_tests)

below_range : (a b s : ℕ) → s < a → (leb a s && leb s b) ≡ false
below_range a b s h = grind (arith, nat_tests)

above_range : (a b s : ℕ) → b < s → (leb a s && leb s b) ≡ false
above_range a b s h = grind (arith, nat_tests)

value_before : (d : Device) (s : ℕ) → s < d.first_size → value_at d s ≡ pos 0
value_before d s h = grind (arith, nat_tests)

value_from : (d : Device) (s : ℕ) → d.first_size ≤ s → value_at d s ≡ get_or d.values (s - d.first_size) (pos 0)
value_from d s h = grind (arith, nat_tests)

module _ (bs : List ℕ) (at : ℕ) (d : Device) (fits : FitsDevice d) (stands : Stand bs (at + 6) (words d.values)) (s : ℕ) where
  abbrev vs : List ℤ
  vs = d.values

  abbrev f : ℕ
  f = delta_format d.values

  abbrev last : ℕ
  last = d.first_size + length d.values - 1

  -- the word of value i
  word_reads : (i : ℕ) → i < length vs → field bs (at + 6 + 2 * (i / per_word f)) ≡ Ok (word f vs (i / per_word f))
  word_reads i l =
      let n = (length vs + per_word f - 1) / per_word f in
      let j = i / per_word f in
      let b : j < n = word_below vs i l in
      stand_at bs (at + 6) (words vs) j stands (subst (λ m. j < m) (sym (length_map_numbers (word f vs) 0 n)) b)
      ∙ ap Ok (getD_map_numbers (word f vs) 0 n j 0 b ∙ ap (word f vs) (omega arith))

  before : s < d.first_size → device_value bs s at d.first_size last f ≡ Ok (value_at d s, no_id)
  before l = rw (below_range d.first_size last s l, device_value) (ap (λ v. Ok (v, no_id)) (sym (value_before d s l)))

  inside : d.first_size ≤ s → s - d.first_size < length vs → device_value bs s at d.first_size last f ≡ Ok (value_at d s, no_id)
  inside l m =
      let i = s - d.first_size in
      let v = unpacks vs i m (every_at (Within 128) vs i (pos 0) fits.1 m) in
      rw (in_range d.first_size last s l (omega arith), device_value) (rw (word_reads i m) (ap (λ v. Ok (v, no_id)) (v ∙ sym (value_from d s l))))

  behind : d.first_size ≤ s → length vs ≤ s - d.first_size → device_value bs s at d.first_size last f ≡ Ok (value_at d s, no_id)
  behind l m = let some = fits.0 in
      rw (above_range d.first_size last s (omega arith), device_value) (ap (λ v. Ok (v, no_id)) (sym (value_from d s l ∙ get_or_past vs (s - d.first_size) (pos 0) m)))

  value_reads : device_value bs s at d.first_size last f ≡ Ok (value_at d s, no_id)
  value_reads = elim (cases_lt s d.first_size) [
    | inl l ↦ before l
    | inr l ↦ elim (cases_lt (s - d.first_size) (length vs)) [ inl m ↦ inside l m | inr m ↦ behind l m ]
  ]

device_stands : (bs : List ℕ) (at : ℕ) (d : Device) (s : ℕ) → FitsDevice d → Stand bs at (device_fields d) → beside bs s at ≡ Ok (value_at d s, no_id)
device_stands bs at d s fits h =
    let f = delta_format d.values in
    let b = format_bounds d.values in
    let p = spread bs at 1 ((d.first_size + length d.values - 1) ∷ f ∷ []) (words d.values) h.1 in
    rw h.0 (rw p.0 (rw p.1.0 (rw (not_index f b.1, and_then) (rw (known f b.0 b.1, and_then) (value_reads bs at d fits p.1.1 s)))))

index_stands : (bs : List ℕ) (at n s : ℕ) → Stand bs at (variation_fields n) → beside bs s at ≡ Ok (pos 0, n)
index_stands bs at n s h =
    let p = spread bs at 1 (n % 65536 ∷ 0x8000 ∷ []) [] h.1 in
    rw h.0 (rw p.0 (rw p.1.0 (ap (λ x. Ok (pos 0, x)) (omega arith))))

pub beside_reads : (bs : List ℕ) (at s : ℕ) (b : DeviceOrVariationIndex) → FitsBeside (Some b) → Lies bs at (beside_table b) → beside bs s at ≡ Ok (beside_read s (Some b))
beside_reads bs at s (device d) fits h = device_stands bs at d s fits (subst (Stand bs at) (fields_head (device_fields d) (own (beside_table (device d)))) h.0)
beside_reads bs at s (variation_index n) fits h = index_stands bs at n s h.0
