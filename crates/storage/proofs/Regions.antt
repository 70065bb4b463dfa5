-- The regions of a delta list, of which no more than 64 are read.
use Rattle.std.proofs.Common.{◌≡◌, ℕ, zero, suc, ◌+◌, ◌≤◌, min, Bool, true, false, ltb, leb, List, [], ◌∷◌, map, length, take, Some, sym, refl, ap, ◌∙◌, arith}
use Rattle.std.proofs.lemmas.Bool.{ltb-true, ltb-false}
use Rattle.std.proofs.lemmas.List.{length-map, take_all, take-map}
use Rattle.spec.specs.Entries.{not_rising, unsorted, regions, lower, deltas_fault}
use Rattle.storage.specs.declared.delta.Delta.{Delta}
use Rattle.storage.specs.Deltas.{delta_of, deltas_of}

-- what the entries of a list rise by
pub keys_are : (ds : List Delta) → map (λ (d : Delta). d.region) ds ≡ regions (deltas_of ds)
keys_are [] = refl
keys_are (d ∷ ds) = ap (λ rs. d.region ∷ rs) (keys_are ds)

-- an offender from place 64 on is told as 64
late : (xs : List ℕ) (i b : ℕ) → 64 ≤ i → lower (not_rising i b xs) true ≡ Some 64
late [] i b h = refl
late (x ∷ xs) i b h = go (leb x b) (late xs (i + 1) x (omega arith))
  where
    go : (t : Bool) → lower (not_rising (i + 1) x xs) true ≡ Some 64 → lower (elim t [ true ↦ Some i | false ↦ not_rising (i + 1) x xs ]) true ≡ Some 64
    go true e = ap Some (omega arith)
    go false e = e

-- so that none is sought there
cut : (xs : List ℕ) (k i b : ℕ) → 64 ≤ i + k → lower (not_rising i b (take k xs)) true ≡ lower (not_rising i b xs) true
cut xs zero i b h = sym (late xs i b (omega arith))
cut [] (suc k) i b h = refl
cut (x ∷ xs) (suc k) i b h = go (leb x b) (cut xs k (i + 1) x (omega arith))
  where
    go : (t : Bool) → lower (not_rising (i + 1) x (take k xs)) true ≡ lower (not_rising (i + 1) x xs) true
        → lower (elim t [ true ↦ Some i | false ↦ not_rising (i + 1) x (take k xs) ]) true ≡ lower (elim t [ true ↦ Some i | false ↦ not_rising (i + 1) x xs ]) true
    go true e = refl
    go false e = e

cut_first : (ns : List ℕ) → lower (unsorted (take 64 ns)) true ≡ lower (unsorted ns) true
cut_first [] = refl
cut_first (n ∷ ns) = cut ns 63 1 n (omega arith)

-- the first 64 entries tell the fault of the list
pub first_tell : (ds : List Delta) → lower (unsorted (map (λ (d : Delta). d.region) (take (min (length ds) 64) ds))) (ltb 64 (length ds)) ≡ deltas_fault (deltas_of ds)
first_tell ds = go (ltb 64 (length ds)) refl ∙ (λ i. lower (unsorted (keys_are ds i)) (ltb 64 (sym (length-map ds delta_of) i)))
  where
    go : (t : Bool) → ltb 64 (length ds) ≡ t
        → lower (unsorted (map (λ (d : Delta). d.region) (take (min (length ds) 64) ds))) (ltb 64 (length ds)) ≡ lower (unsorted (map (λ (d : Delta). d.region) ds)) (ltb 64 (length ds))
    go true e =
        let m : min (length ds) 64 ≡ 64 = omega (arith, ltb-true 64 (length ds) e) in
        (λ i. lower (unsorted (map (λ (d : Delta). d.region) (take (m i) ds))) (e i))
        ∙ ap (λ ns. lower (unsorted ns) true) (sym (take-map (λ (d : Delta). d.region) 64 ds))
        ∙ cut_first (map (λ (d : Delta). d.region) ds)
        ∙ (λ i. lower (unsorted (map (λ (d : Delta). d.region) ds)) (sym e i))
    go false e =
        let a : length ds ≤ min (length ds) 64 = omega (arith, ltb-false 64 (length ds) e) in
        ap (λ l. lower (unsorted (map (λ (d : Delta). d.region) l)) (ltb 64 (length ds))) (take_all (min (length ds) 64) ds a)
