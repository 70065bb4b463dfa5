-- SinglePos subtables that lie in bytes read as they are described.
use Rattle.std.proofs.Common.{◌≡◌, ℕ, zero, suc, ◌+◌, ◌*◌, ◌<◌, ◌≤◌, true, ◌||◌, eqb, List, [], ◌∷◌, map, length, get_or, Some, None, Ok, Option, sym, refl, ap, ◌∙◌, subst, inl, inr, suc-mul, zero-add, arith}
use Rattle.std.proofs.lemmas.Bool.{cases_Bool, or_cases, eqb-true, lt-ltb}
use Rattle.spec.specs.Lists.{Every, all, place_of}
use Rattle.spec.specs.Fields.{field, and_then}
use Rattle.spec.specs.Values.{ValueRecord, DeviceOrVariationIndex, format, encoded_size, same_record}
use Rattle.spec.specs.Build.{BuiltSingle}
use Rattle.spec.specs.Bytes.{Table, end, head, own, size, Lies, coverage, values as values_table, single_values, single_table}
use Rattle.spec.specs.Meaning.{covered, if_covered, values, one_record, single, single_2}
use Rattle.list_laws.proofs.Orders.{every_map}
use Rattle.laws.specs.Conditions.{OfFormat, SinglesOf}
use Rattle.laws.specs.Descriptions.{record_read, single_read}
use Rattle.laws.specs.Parts.{RestLies}
use Rattle.laws.proofs.Standing.{spread}
use Rattle.laws.proofs.Finding.{Found, absent, there, found, place_map, all_every, every_at}
use Rattle.laws.proofs.Covering.{coverage_reads}
use Rattle.laws.proofs.Formats.{no_fields}
use Rattle.laws.proofs.Records.{own_fits, record_then}
use Rattle.list_laws.proofs.Sames.{record_same}

-- ---- the records of one table

-- the record in row i
rows_read : (bs : List ℕ) (base s f : ℕ) (es : List BuiltSingle) (k at i : ℕ) (d : BuiltSingle) → SinglesOf f es → 0 < at → RestLies bs base at k (single_values f es) → i < length es
    → values bs s base (k + i * encoded_size f) f ≡ Ok (record_read s (get_or es i d).values)
rows_read bs base s f [] k at i d fits z h l = absurd (omega arith)
rows_read bs base s f (e ∷ es) k at zero d fits z h l =
    let v = record_then bs base s e.values f k at (single_values f es) (own_fits f e.values fits.0) z h in
    let q : k ≡ k + 0 * encoded_size f = omega arith in
    subst (λ n. values bs s base n f ≡ Ok (record_read s e.values)) q v.0
rows_read bs base s f (e ∷ es) k at (suc i) d fits z h l =
    let v = record_then bs base s e.values f k at (single_values f es) (own_fits f e.values fits.0) z h in
    let q : k + encoded_size f + i * encoded_size f ≡ k + suc i * encoded_size f = omega (arith, suc-mul i (encoded_size f)) in
    let r = rows_read bs base s f es (k + encoded_size f) v.1.next i d fits.1 v.1.later v.1.rest (omega arith) in
    subst (λ n. values bs s base n f ≡ Ok (record_read s (get_or es i d).values)) q r

-- one record is written only if it is that of all
all_same : (f : ℕ) (e : BuiltSingle) (es : List BuiltSingle) → SinglesOf f (e ∷ es) → (eqb (format e.values) 0 || all (λ x. same_record x.values e.values) es) ≡ true → Every (λ x. x.values ≡ e.values) (e ∷ es)
all_same f e es fits h = elim (or_cases (eqb (format e.values) 0) (all (λ x. same_record x.values e.values) es) h) [
  | inl q ↦ (
      let z = eqb-true (format e.values) 0 q in
      let none : (x : BuiltSingle) → OfFormat f x.values → x.values ≡ e.values =
      λ x o. no_fields x.values (o.0 ∙ sym fits.0.0 ∙ z) ∙ sym (no_fields e.values z) in
      (refl, every_map {P = λ x. OfFormat f x.values} {Q = λ x. x.values ≡ e.values} none es fits.1))
  | inr q ↦ (refl, every_map {P = λ x. same_record x.values e.values ≡ true} {Q = λ x. x.values ≡ e.values} (λ x. record_same x.values e.values) es (all_every (λ x. same_record x.values e.values) es q))
]

-- ---- the two formats

module _ (bs : List ℕ) (s g at : ℕ) where
  abbrev one_table : ℕ → ValueRecord DeviceOrVariationIndex → List BuiltSingle → Table
  one_table f r es = Table.field 1 (Table.child (coverage (map (λ e. e.glyph) es)) (Table.field f (values_table f r end)))

  abbrev many_table : ℕ → List BuiltSingle → Table
  many_table f es = Table.field 2 (Table.child (coverage (map (λ e. e.glyph) es)) (Table.field f (Table.count (length es) (single_values f es))))

  -- the coverage index of a glyph is where its record stands
  index_read : (k : ℕ) (es : List BuiltSingle) (o : Option ℕ) → Lies bs k (coverage (map (λ e. e.glyph) es)) → place_of (λ e. eqb e.glyph g) 0 es ≡ o → covered bs k g ≡ Ok o
  index_read k es o h p = coverage_reads bs k (map (λ e. e.glyph) es) g h ∙ ap Ok (place_map (λ x. eqb x g) (λ e. e.glyph) 0 es ∙ p)

  -- format 1: one record for all that are covered
  one_reads : (f : ℕ) (r : ValueRecord DeviceOrVariationIndex) (es : List BuiltSingle) → OfFormat f r → Every (λ e. e.values ≡ r) es → Lies bs at (one_table f r es) → single bs s g at ≡ Ok (single_read s g es)
  one_reads f r es fits same h =
      let o = own (one_table f r es) in
      let next = o + size (coverage (map (λ e. e.glyph) es)) in
      let p = spread bs at 1 (o ∷ f ∷ []) (head next (values_table f r end)) h.0.1 in
      let v = record_then bs at s r f (at + 6) next end (own_fits f r fits) (omega arith) (p.1.1, h.1.2) in
      rw h.0.0 (rw p.0 (by (found (λ e. eqb e.glyph g) 0 es) (at + o) (h.1.0, h.1.1) p.1.0 v.0))
    where
      by : Found (λ e. eqb e.glyph g) 0 es → (k : ℕ) → Lies bs k (coverage (map (λ e. e.glyph) es)) → field bs (at + 4) ≡ Ok f → values bs s at (at + 6) f ≡ Ok (record_read s r)
          → and_then (covered bs k g) (λ c. if_covered c (λ i. and_then (field bs (at + 4)) (λ f. one_record bs s at (at + 6) f))) ≡ Ok (single_read s g es)
      by (absent n fi) k c q v = rw (index_read k es None c n) (rw fi)
      by (there j x l n fi e t) k c q v =
          let is : x.values ≡ r = ap (λ y. y.values) (sym e) ∙ every_at (λ y. y.values ≡ r) es j x same l in
          rw (index_read k es (Some (0 + j)) c n) (rw q (rw v (rw fi (ap (λ y. Ok (Some (record_read s y ∷ []))) (sym is)))))

  -- format 2: record i for the glyph of index i
  many_reads : (f : ℕ) (es : List BuiltSingle) → SinglesOf f es → Lies bs at (many_table f es) → single bs s g at ≡ Ok (single_read s g es)
  many_reads f es fits h =
      let o = own (many_table f es) in
      let next = o + size (coverage (map (λ e. e.glyph) es)) in
      let p = spread bs at 1 (o ∷ f ∷ length es ∷ []) (head next (single_values f es)) h.0.1 in
      rw h.0.0 (rw p.0 (by (found (λ e. eqb e.glyph g) 0 es) (at + o) (h.1.0, h.1.1) p.1.0 p.1.1.0
      (λ i d. rows_read bs at s f es (at + 8) next i d fits (omega arith) (p.1.1.1, h.1.2))))
    where
      by : Found (λ e. eqb e.glyph g) 0 es → (k : ℕ) → Lies bs k (coverage (map (λ e. e.glyph) es)) → field bs (at + 4) ≡ Ok f → field bs (at + 6) ≡ Ok (length es)
          → ((i : ℕ) (d : BuiltSingle) → i < length es → values bs s at (at + 8 + i * encoded_size f) f ≡ Ok (record_read s (get_or es i d).values))
          → and_then (covered bs k g) (λ c. if_covered c (λ i. and_then (field bs (at + 4)) (λ f. single_2 bs s at i f))) ≡ Ok (single_read s g es)
      by (absent n fi) k c q m v = rw (index_read k es None c n) (rw fi)
      by (there j x l n fi e t) k c q m v =
          rw (index_read k es (Some j) c (n ∙ ap Some (zero-add j))) (rw q (rw m (rw (lt-ltb j (length es) l, and_then) (rw (v j x l) (rw fi (ap (λ y. Ok (Some (record_read s y.values ∷ []))) e))))))

pub single_reads : (bs : List ℕ) (s g at f : ℕ) (es : List BuiltSingle) → 1 ≤ length es → SinglesOf f es → Lies bs at (single_table es) → single bs s g at ≡ Ok (single_read s g es)
single_reads bs s g at f [] some fits h = absurd (omega arith)
single_reads bs s g at f (e ∷ es) some fits h = elim (cases_Bool (eqb (format e.values) 0 || all (λ x. same_record x.values e.values) es)) [
  | inl q ↦ one_reads bs s g at (format e.values) e.values (e ∷ es) (refl, fits.0.1) (all_same f e es fits q) (rw (q, single_table) at h)
  | inr q ↦ many_reads bs s g at (format e.values) (e ∷ es) (subst (λ n. SinglesOf n (e ∷ es)) (sym fits.0.0) fits) (rw (q, single_table) at h)
]
