-- Value records that stand in bytes read back, in every value format that has their fields.
use Rattle.std.proofs.Common.{◌≡◌, ℕ, ◌+◌, ◌*◌, ◌/◌, ◌%◌, ◌<◌, ◌≤◌, true, false, eqb, List, [], ◌∷◌, map, length, ℤ, pos, Some, None, Ok, Option, Result, sym, refl, ap, subst, inl, inr, arith}
use Rattle.std.proofs.lemmas.Bool.{cases_Bool, eqb-true, eqb-false, ne_eqb}
use Rattle.spec.specs.Lists.{Every}
use Rattle.spec.specs.Fields.{field, and_then, signed}
use Rattle.spec.specs.Values.{Metric, ValueRecord, DeviceOrVariationIndex, empty, format, writing_order, field_bit, device_bit, ones, encoded_size}
use Rattle.spec.specs.Bytes.{Table, size, union, default_of, device_of, offset_of, beside_table, defaults as defaults_table, devices as devices_table, values as values_table}
use Rattle.spec.specs.Meaning.{nothing, beside, defaults, devices, values, two_records}
use Rattle.list_laws.proofs.Orders.{every_map}
use Rattle.laws.specs.Conditions.{FitsBeside, FitsMetric, FitsRecord, BitsIn, HasFields, OfFormat}
use Rattle.laws.specs.Descriptions.{beside_read, default_read, device_read, record_read}
use Rattle.laws.specs.Parts.{RestLies}
use Rattle.laws.proofs.Finding.{every_from_map, every_both}
use Rattle.laws.proofs.Formats.{BitsBelow, both_bits, zero_bit, own_format, size_split, union_has, union_small, empty_in}
use Rattle.laws.proofs.Packing.{back16}
use Rattle.laws.proofs.Devices.{beside_reads}

-- ---- defaults

default_back : (m : Option (Metric DeviceOrVariationIndex)) → FitsMetric m → signed 16 (default_of m) ≡ default_read m
default_back None h = refl
default_back (Some m) h = back16 m.default h.0

-- a metric without its bit is not there
default_absent : (m : Option (Metric DeviceOrVariationIndex)) (f : ℕ) → field_bit m ≤ f % 2 → eqb (f % 2) 1 ≡ false → default_read m ≡ pos 0
default_absent None f l n = refl
default_absent (Some m) f l n = absurd (eqb-false (f % 2) 1 n (omega arith))

module _ (bs : List ℕ) (base : ℕ) where
  defaults_read : (ms : List (Option (Metric DeviceOrVariationIndex))) (f k at : ℕ) (t : Table) → Every FitsMetric ms → BitsBelow f (map field_bit ms) → RestLies bs base at k (defaults_table f ms t)
      → (defaults bs k f (length ms) ≡ Ok (map default_read ms)) × RestLies bs base at (k + 2 * ones (length ms) f) t
  defaults_read [] f k at t fits bits h = (refl, let e : k ≡ k + 2 * 0 = omega arith in subst (λ n. RestLies bs base at n t) e h)
  defaults_read (m ∷ ms) f k at t fits bits h = elim (cases_Bool (eqb (f % 2) 1)) [
    | inl q ↦ (
        let g : RestLies bs base at k (Table.field (default_of m) (defaults_table (f / 2) ms t)) = rw (q, defaults_table) at h in
        let r = defaults_read ms (f / 2) (k + 2) at t fits.1 bits.1 (g.0.1, g.1) in
        let one = eqb-true (f % 2) 1 q in
        let e : k + 2 + 2 * ones (length ms) (f / 2) ≡ k + 2 * ones (length (m ∷ ms)) f = omega arith in
        (rw (q, defaults) (rw g.0.0 (rw r.0 (ap (λ v. Ok (v ∷ map default_read ms)) (default_back m fits.0)))), subst (λ n. RestLies bs base at n t) e r.1))
    | inr q ↦ (
        let g : RestLies bs base at k (defaults_table (f / 2) ms t) = rw (q, defaults_table) at h in
        let r = defaults_read ms (f / 2) k at t fits.1 bits.1 g in
        let none = zero_bit f q in
        let e : k + 2 * ones (length ms) (f / 2) ≡ k + 2 * ones (length (m ∷ ms)) f = omega arith in
        (rw (q, defaults) (rw r.0 (ap (λ v. Ok (v ∷ map default_read ms)) (sym (default_absent m f bits.0 q)))), subst (λ n. RestLies bs base at n t) e r.1))
  ]

-- ---- devices

device_absent : (size : ℕ) (m : Option (Metric DeviceOrVariationIndex)) (f : ℕ) → device_bit m ≤ f % 2 → f % 2 ≡ 0 → device_read size m ≡ nothing
device_absent size None f l z = refl
device_absent size (Some m) f l z = by m.beside l
  where
    by : (b : Option DeviceOrVariationIndex) → ◌≤◌ (elim b [ None ↦ 0 | Some b ↦ 1 ]) (f % 2) → beside_read size b ≡ nothing
    by None l = refl
    by (Some b) l = absurd (omega arith)

-- what is behind a part of a table: the rest lies there, from some later offset on
pub record Behind (bs : List ℕ) (base k : ℕ) (t : Table) : Type 0 where
  pub next : ℕ
  pub later : 0 < next
  pub rest : RestLies bs base next k t

moved : {bs : List ℕ} {base : ℕ} {t : Table} (j k : ℕ) → j ≡ k → Behind bs base j t → Behind bs base k t
moved {bs} {base} {t} j k e b = record { next = b.next; later = b.later; rest = subst (λ n. RestLies bs base b.next n t) e b.rest }

module _ (bs : List ℕ) (base s : ℕ) where
  -- what is read through an offset
  abbrev through : ℕ → Result (ℤ × ℕ) ℕ
  through o = elim (eqb o 0) [ true ↦ Ok nothing | false ↦ beside bs s (base + o) ]

  -- an offset stands at k, and what is read through it is x
  record Points (k : ℕ) (x : ℤ × ℕ) (t : Table) : Type 0 where
    offset : ℕ
    stands : field bs k ≡ Ok offset
    reads : through offset ≡ Ok x
    behind : Behind bs base (k + 2) t

  null_points : (k at : ℕ) (t : Table) → 0 < at → RestLies bs base at k (Table.field 0 t) → Points k nothing t
  null_points k at t z h = record { offset = 0; stands = h.0.0; reads = refl; behind = record { next = at; later = z; rest = (h.0.1, h.1) } }

  child_points : (k at : ℕ) (b : DeviceOrVariationIndex) (t : Table) → 0 < at → FitsBeside (Some b) → RestLies bs base at k (Table.child (beside_table b) t) → Points k (beside_read s (Some b)) t
  child_points k at b t z fits h = record {
    offset = at;
    stands = h.0.0;
    reads = rw (ne_eqb at 0 (λ e. omega arith), through) (beside_reads bs (base + at) s b fits (h.1.0, h.1.1));
    behind = record { next = at + size (beside_table b); later = omega arith; rest = (h.0.1, h.1.2) };
  }

  points : (m : Option (Metric DeviceOrVariationIndex)) (k at : ℕ) (t : Table) → 0 < at → FitsMetric m → RestLies bs base at k (device_of m t) → Points k (device_read s m) t
  points None k at t z fits h = null_points k at t z h
  points (Some m) k at t z fits h = by m.beside fits.1 h
    where
      by : (b : Option DeviceOrVariationIndex) → FitsBeside b → RestLies bs base at k (offset_of b t) → Points k (beside_read s b) t
      by None fits h = null_points k at t z h
      by (Some b) fits h = child_points k at b t z fits h

  devices_read : (ms : List (Option (Metric DeviceOrVariationIndex))) (f k at : ℕ) (t : Table) → Every FitsMetric ms → BitsBelow f (map device_bit ms) → 0 < at → RestLies bs base at k (devices_table f ms t)
      → (devices bs s base k f (length ms) ≡ Ok (map (device_read s) ms)) × Behind bs base (k + 2 * ones (length ms) f) t
  devices_read [] f k at t fits bits z h = (refl, moved k (k + 2 * 0) (omega arith) (record { next = at; later = z; rest = h }))
  devices_read (m ∷ ms) f k at t fits bits z h = elim (cases_Bool (eqb (f % 2) 1)) [
    | inl q ↦ (
        let g : RestLies bs base at k (device_of m (devices_table (f / 2) ms t)) = rw (q, devices_table) at h in
        let l = points m k at (devices_table (f / 2) ms t) z fits.0 g in
        let r = devices_read ms (f / 2) (k + 2) l.behind.next t fits.1 bits.1 l.behind.later l.behind.rest in
        let one = eqb-true (f % 2) 1 q in
        (rw (q, devices) (rw l.stands (rw (l.reads, and_then) (rw r.0))), moved (k + 2 + 2 * ones (length ms) (f / 2)) (k + 2 * ones (length (m ∷ ms)) f) (omega arith) r.1))
    | inr q ↦ (
        let g : RestLies bs base at k (devices_table (f / 2) ms t) = rw (q, devices_table) at h in
        let r = devices_read ms (f / 2) k at t fits.1 bits.1 z g in
        let none = zero_bit f q in
        (rw (q, devices) (rw r.0 (ap (λ v. Ok (v ∷ map (device_read s) ms)) (sym (device_absent s m f bits.0 none)))), moved (k + 2 * ones (length ms) (f / 2)) (k + 2 * ones (length (m ∷ ms)) f) (omega arith) r.1))
  ]

  -- a record, and what is behind it
  pub record_reads : (r : ValueRecord DeviceOrVariationIndex) (f k at : ℕ) (t : Table) → FitsRecord r → HasFields f r → 0 < at → RestLies bs base at k (values_table f r t)
      → (values bs s base k f ≡ Ok (record_read s r)) × Behind bs base (k + 2 * ones 4 f + 2 * ones 4 (f / 16)) t
  record_reads r f k at t fits has z h =
      let ms = writing_order r in
      let bits = both_bits r f has in
      let a = defaults_read bs base ms f k at (devices_table (f / 16) ms t) fits bits.0 h in
      let b = devices_read ms (f / 16) (k + 2 * ones 4 f) at t fits bits.1 z a.1 in
      (rw a.0 (rw b.0), b.1)

-- a record fits into a value format of eight bits
abbrev pub FitsIn : ℕ → ValueRecord DeviceOrVariationIndex → Type 0
FitsIn f r = (f < 256) × FitsRecord r × HasFields f r

pub own_fits : (f : ℕ) (r : ValueRecord DeviceOrVariationIndex) → OfFormat f r → FitsIn f r
own_fits f r h = let o = own_format f r h.0 in (o.0, h.1, o.1)

-- records in the union of their formats
pub union_fits : {A : Type 0} (r : A → ValueRecord DeviceOrVariationIndex) (xs : List A) → Every (λ x. FitsRecord (r x)) xs → Every (λ x. FitsIn (union (map (λ x. format (r x)) xs)) (r x)) xs
union_fits r xs h =
    let f = union (map (λ x. format (r x)) xs) in
    let has = every_from_map (λ g. BitsIn 8 g f) (λ x. format (r x)) xs (union_has (map (λ x. format (r x)) xs)) in
    every_map (λ x p. (union_small r xs, p.0, p.1)) xs (every_both (λ x. FitsRecord (r x)) (λ x. HasFields f (r x)) xs h has)

pub empty_fits : (f : ℕ) → f < 256 → FitsIn f empty
empty_fits f l = (l, (tt, (tt, (tt, (tt, tt)))), empty_in f)

module _ (bs : List ℕ) (base s : ℕ) where
  -- a record, and the rest of the table right behind it
  pub record_then : (r : ValueRecord DeviceOrVariationIndex) (f k at : ℕ) (t : Table) → FitsIn f r → 0 < at → RestLies bs base at k (values_table f r t)
      → (values bs s base k f ≡ Ok (record_read s r)) × Behind bs base (k + encoded_size f) t
  record_then r f k at t fits z h =
      let a = record_reads bs base s r f k at t fits.1 fits.2 z h in
      (a.0, moved (k + 2 * ones 4 f + 2 * ones 4 (f / 16)) (k + encoded_size f) (omega (arith, size_split f fits.0)) a.1)

  -- two records, one behind the other
  pub records_then : (r q : ValueRecord DeviceOrVariationIndex) (f1 f2 k at : ℕ) (t : Table) → FitsIn f1 r → FitsIn f2 q → 0 < at → RestLies bs base at k (values_table f1 r (values_table f2 q t))
      → (two_records bs s base k f1 f2 ≡ Ok (Some (record_read s r ∷ record_read s q ∷ []))) × Behind bs base (k + encoded_size f1 + encoded_size f2) t
  records_then r q f1 f2 k at t fits more z h =
      let a = record_then r f1 k at (values_table f2 q t) fits z h in
      let b = record_then q f2 (k + encoded_size f1) a.1.next t more a.1.later a.1.rest in
      (rw a.0 (rw b.0), b.1)
