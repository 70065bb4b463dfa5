-- A class definition that stands in bytes gives each glyph its class.
use Rattle.std.proofs.Common.{◌≡◌, ℕ, ◌+◌, ◌-◌, ◌<◌, ◌≤◌, Bool, true, false, cond, eqb, List, [], ◌∷◌, map, length, Ok, sym, refl, ap, ◌∙◌, subst, inl, inr, arith}
use Rattle.std.proofs.lemmas.Bool.Decides.{nat_tests}
use Rattle.std.proofs.lemmas.Bool.{cases_lt, lt-leb, le-leb, lt-ltb, le-ltb}
use Rattle.spec.specs.Fields.{field, and_then, Stand}
use Rattle.spec.specs.Coverage.{Range, joined, ranges}
use Rattle.spec.specs.Classes.{class_at, last_from, span, shorter_as_array, class_range_fields, class_array}
use Rattle.spec.specs.Bytes.{Table, end, fields, head, own, class_def, Lies}
use Rattle.spec.specs.Meaning.{class_in, class_by_array, class}
use Rattle.laws.specs.Conditions.{Above, Rising}
use Rattle.laws.proofs.Standing.{spread, stand_at, length_map_numbers, getD_map_numbers}
use Rattle.laws.proofs.Lying.{fields_head}
use Rattle.laws.proofs.Ranges.{holding, ranges_read, Sound, ranges_sound}

-- ---- format 2

-- a glyph more before the ranges
joined_class : (x c g : ℕ) (rs : List Range) → Sound rs → class_in (holding g (joined x c rs)) ≡ elim (eqb x g) [ true ↦ c | false ↦ class_in (holding g rs) ]
joined_class x c g [] h = grind (arith, nat_tests)
joined_class x c g (r ∷ rs) h = grind (arith, nat_tests)

ranges_class : (ps : List (ℕ × ℕ)) (g : ℕ) → class_in (holding g (ranges ps)) ≡ class_at ps g
ranges_class [] g = refl
ranges_class (p ∷ ps) g = joined_class p.0 p.1 g (ranges ps) (ranges_sound ps) ∙ ap {B = ℕ} (λ n. elim (eqb p.0 g) [ true ↦ p.1 | false ↦ n ]) (ranges_class ps g)

by_ranges : (bs : List ℕ) (k g : ℕ) (ps : List (ℕ × ℕ)) → field bs k ≡ Ok 2 → field bs (k + 2) ≡ Ok (length (ranges ps)) → Stand bs (k + 4) (class_range_fields (ranges ps)) → class bs k g ≡ Ok (class_at ps g)
by_ranges bs k g ps f n h = rw f (rw n (rw (ranges_read bs g (k + 4) (ranges ps) h) (ap Ok (ranges_class ps g))))

-- ---- format 1

last_up : (x : ℕ) (ps : List (ℕ × ℕ)) → Above x (map (λ p. p.0) ps) → x ≤ last_from x ps
last_up x [] h = omega arith
last_up x (p ∷ ps) h = let a = last_up p.0 ps h.1 in let b = h.0 in omega arith

-- below the first and above the last there is none
class_low : (g b : ℕ) (ps : List (ℕ × ℕ)) → Above b (map (λ p. p.0) ps) → g ≤ b → class_at ps g ≡ 0
class_low g b [] h l = refl
class_low g b (p ∷ ps) h l = let a = class_low g p.0 ps h.1 in let c = h.0 in grind (arith, nat_tests)

class_high : (g x : ℕ) (ps : List (ℕ × ℕ)) → Above x (map (λ p. p.0) ps) → last_from x ps < g → class_at ps g ≡ 0
class_high g x [] h l = refl
class_high g x (p ∷ ps) h l = let a = class_high g p.0 ps h.1 l in let b = last_up p.0 ps h.1 in grind (arith, nat_tests)

module _ (bs : List ℕ) (k g : ℕ) (p : ℕ × ℕ) (ps : List (ℕ × ℕ)) (up : Above p.0 (map (λ p. p.0) ps)) (start : field bs (k + 2) ≡ Ok p.0)
    (long : field bs (k + 4) ≡ Ok (span (p ∷ ps))) (h : Stand bs (k + 6) (class_array (p ∷ ps))) where
  before : g < p.0 → class_by_array bs k g ≡ Ok (class_at (p ∷ ps) g)
  before l = let a = class_low g p.0 ps up (omega arith) in let none : class_at (p ∷ ps) g ≡ 0 = grind (arith, nat_tests) in
      rw start (rw (lt-leb p.0 g l, and_then) (ap Ok (sym none)))

  behind : p.0 ≤ g → span (p ∷ ps) ≤ g - p.0 → class_by_array bs k g ≡ Ok (class_at (p ∷ ps) g)
  behind l m =
      let u = last_up p.0 ps up in
      let a = class_high g p.0 ps up (omega arith) in
      let none : class_at (p ∷ ps) g ≡ 0 = grind (arith, nat_tests) in
      rw start (rw (le-leb p.0 g l, and_then) (rw long (rw (le-ltb (g - p.0) (span (p ∷ ps)) m, and_then) (ap Ok (sym none)))))

  inside : p.0 ≤ g → g - p.0 < span (p ∷ ps) → class_by_array bs k g ≡ Ok (class_at (p ∷ ps) g)
  inside l m =
      let i = g - p.0 in
      let n = length_map_numbers (class_at (p ∷ ps)) p.0 (span (p ∷ ps)) in
      let a = stand_at bs (k + 6) (class_array (p ∷ ps)) i h (omega arith) in
      let b = getD_map_numbers (class_at (p ∷ ps)) p.0 (span (p ∷ ps)) i 0 m in
      let e : p.0 + i ≡ g = omega arith in
      rw start (rw (le-leb p.0 g l, and_then) (rw long (rw (lt-ltb i (span (p ∷ ps)) m, and_then) (a ∙ ap Ok (b ∙ ap (class_at (p ∷ ps)) e)))))

  by_array : class_by_array bs k g ≡ Ok (class_at (p ∷ ps) g)
  by_array = elim (cases_lt g p.0) [
    | inl l ↦ before l
    | inr l ↦ elim (cases_lt (g - p.0) (span (p ∷ ps))) [ inl m ↦ inside l m | inr m ↦ behind l m ]
  ]

-- ---- either format

abbrev range_table : List (ℕ × ℕ) → Table
range_table ps = Table.field 2 (Table.count (length (ranges ps)) (fields (class_range_fields (ranges ps)) end))

abbrev array_table : ℕ × ℕ → List (ℕ × ℕ) → Table
array_table p ps = Table.field 1 (Table.field p.0 (Table.count (span (p ∷ ps)) (fields (class_array (p ∷ ps)) end)))

ranged : (bs : List ℕ) (k at g : ℕ) (ps : List (ℕ × ℕ)) → Stand bs k (head at (range_table ps)) → class bs k g ≡ Ok (class_at ps g)
ranged bs k at g ps h =
    let p = spread bs k 1 (length (ranges ps) ∷ []) (head at (fields (class_range_fields (ranges ps)) end)) h.1 in
    by_ranges bs k g ps h.0 p.0 (subst (Stand bs (k + 4)) (fields_head (class_range_fields (ranges ps)) at) p.1)

arrayed : (bs : List ℕ) (k at g : ℕ) (p : ℕ × ℕ) (ps : List (ℕ × ℕ)) → Above p.0 (map (λ p. p.0) ps) → Stand bs k (head at (array_table p ps)) → class bs k g ≡ Ok (class_at (p ∷ ps) g)
arrayed bs k at g p ps up h =
    let s = spread bs k 1 (p.0 ∷ span (p ∷ ps) ∷ []) (head at (fields (class_array (p ∷ ps)) end)) h.1 in
    rw h.0 (by_array bs k g p ps up s.0 s.1.0 (subst (Stand bs (k + 6)) (fields_head (class_array (p ∷ ps)) at) s.1.1))

pub class_reads : (bs : List ℕ) (at : ℕ) (ps : List (ℕ × ℕ)) (g : ℕ) → Rising (map (λ p. p.0) ps) → Lies bs at (class_def ps) → class bs at g ≡ Ok (class_at ps g)
class_reads bs at [] g up h = ranged bs at (own (class_def [])) g [] h.0
class_reads bs at (p ∷ ps) g up h = by_format (shorter_as_array (p ∷ ps)) (own (class_def (p ∷ ps))) h.0
  where
    by_format : (b : Bool) (o : ℕ) → Stand bs at (head o (cond b (array_table p ps) (range_table (p ∷ ps)))) → class bs at g ≡ Ok (class_at (p ∷ ps) g)
    by_format true o h = arrayed bs at o g p ps up h
    by_format false o h = ranged bs at o g (p ∷ ps) h
