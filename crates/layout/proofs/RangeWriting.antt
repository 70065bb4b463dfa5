-- Ranges written one after the other, and the coverage indices of their starts.
use Rattle.std.proofs.Common.{◌≡◌, ℕ, ◌+◌, ◌-◌, ◌≤◌, Bool, true, false, ◌&&◌, eqb, List, [], ◌∷◌, ◌++◌, map, length, Some, None, Option, sym, refl, ap, ◌∙◌, subst, arith}
use Rattle.std.proofs.lemmas.Bool.Decides.{nat_tests}
use Rattle.std.proofs.lemmas.List.{length-map}
use Rattle.spec.specs.Fields.{big_endian}
use Rattle.spec.specs.Coverage.{Range, ranges, range_fields}
use Rattle.spec.specs.Classes.{class_range_fields}
use Rattle.layout.specs.declared.gather.RangeRecord.{RangeRecord}
use Rattle.layout.specs.declared.ranges.Ranges.{Ranges}
use Rattle.layout.specs.Gathering.{step_if, emitted, gathered, coming, ranged, record_fields}
use Rattle.layout.proofs.Gathering.{coming_all, ranges_coming}

-- the third field of a coverage range is an index, that of a class range the class
pub index_records : (i : ℕ) (rs : List Range) → record_fields (λ r k. k) i rs ≡ range_fields i rs
index_records i [] = refl
index_records i (r ∷ rs) = ap (λ l. r.start ∷ r.end ∷ i ∷ l) (index_records (i + (r.end - r.start) + 1) rs)

pub class_records : (i : ℕ) (rs : List Range) → record_fields (λ r k. r.class) i rs ≡ class_range_fields rs
class_records i [] = refl
class_records i (r ∷ rs) = ap (λ l. r.start ∷ r.end ∷ r.class ∷ l) (class_records (i + (r.end - r.start) + 1) rs)

-- of ranges that rise the first begins at index k, and behind the last comes index n
abbrev pub Covers : ℕ → ℕ → List RangeRecord → Type 0
Covers k n [] = k ≡ n
Covers k n (r ∷ rs) = (r.start ≤ r.end) × Covers (k + (r.end - r.start) + 1) n rs

covers_le : (k n : ℕ) (rs : List RangeRecord) → Covers k n rs → k ≤ n
covers_le k n [] c = omega arith
covers_le k n (r ∷ rs) c = let h = covers_le (k + (r.end - r.start) + 1) n rs c.1 in omega arith

-- the open range begins at index k, and i entries have come
abbrev Held : Option RangeRecord → ℕ → ℕ → Type 0
Held None k i = k ≡ i
Held (Some q) k i = (q.start ≤ q.end) × (k + (q.end - q.start) + 1 ≡ i)

covers_from : (o : Option RangeRecord) (k i n : ℕ) (ps : List (ℕ × ℕ)) → Held o k i → i + length ps ≡ n → Covers k n (gathered o ps)
covers_from None k i n [] h e = omega arith
covers_from (Some q) k i n [] h e = (h.0, omega arith)
covers_from None k i n (p ∷ ps) h e = covers_from (Some (record { start = p.0; end = p.0; class = p.1 })) k (i + 1) n ps (omega arith, omega arith) (omega arith)
covers_from (Some q) k i n (p ∷ ps) h e = go (eqb p.0 (q.end + 1) && eqb p.1 q.class) refl (λ o j m. covers_from o j m n ps)
  where
    go : (b : Bool) → eqb p.0 (q.end + 1) && eqb p.1 q.class ≡ b → ((o : Option RangeRecord) (j m : ℕ) → Held o j m → m + length ps ≡ n → Covers j n (gathered o ps)) → Covers k n (emitted (step_if b q p.0 p.1).1 (gathered (step_if b q p.0 p.1).0 ps))
    go true t r = let g : p.0 ≡ q.end + 1 = grind (arith, nat_tests) in r (Some (record { start = q.start; end = p.0; class = p.1 })) k (i + 1) (omega arith, omega arith) (omega arith)
    go false t r = (h.0, r (Some (record { start = p.0; end = p.0; class = p.1 })) (k + (q.end - q.start) + 1) (i + 1) (omega arith, omega arith) (omega arith))

-- at the beginning
module _ {E : Type 0} (f : E → ℕ × ℕ) (xs : List E) (s : Ranges E) (p : s.gatherer.open ≡ None) (q : s.entries.now ≡ xs) where
  pub covers_all : Covers 0 (length xs) (coming f s)
  covers_all =
      let l : 0 + length (map f xs) ≡ length xs = omega (arith, length-map xs f) in
      subst (λ rs. Covers 0 (length xs) rs) (sym (coming_all f xs s p q)) (covers_from None 0 0 (length xs) (map f xs) refl l)

  pub fields_all : (third : Range → ℕ → ℕ) → big_endian (record_fields third 0 (ranges (map f xs))) ≡ big_endian (record_fields third 0 (map ranged (coming f s)))
  fields_all third = ap (λ l. big_endian (record_fields third 0 l)) (sym (ranges_coming f xs s p q))

-- one range more
module _ (k : ℕ) (x : RangeRecord) (rs rs' : List RangeRecord) (e : rs ≡ x ∷ rs') where
  pub record Next (n : ℕ) : Type 0 where
    pub rises : x.start ≤ x.end
    pub fits : k + (x.end - x.start) + 1 ≤ n
    pub covers : Covers (k + (x.end - x.start) + 1) n rs'

  pub covers_next : (n : ℕ) → Covers k n rs → Next n
  covers_next n c = let d = subst (λ l. Covers k n l) e c in record { rises = d.0; fits = covers_le (k + (x.end - x.start) + 1) n rs' d.1; covers = d.1 }

  pub fields_next : (third : Range → ℕ → ℕ) (t k' : ℕ) → t ≡ third (ranged x) k → k + (x.end - x.start) + 1 ≡ k'
      → big_endian (record_fields third k (map ranged rs)) ≡ big_endian (x.start ∷ x.end ∷ t ∷ []) ++ big_endian (record_fields third k' (map ranged rs'))
  fields_next third t k' p q =
      ap (λ l. big_endian (record_fields third k (map ranged l))) e
      ∙ ap (λ z. big_endian (x.start ∷ x.end ∷ z ∷ record_fields third (k + (x.end - x.start) + 1) (map ranged rs'))) (sym p)
      ∙ ap (λ j. big_endian (x.start ∷ x.end ∷ t ∷ record_fields third j (map ranged rs'))) q
