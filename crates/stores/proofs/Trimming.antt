-- Without its zero deltas a good list stays good, and every region keeps its delta.
use Rattle.std.proofs.Common.{◌≡◌, ℕ, suc, ◌+◌, ◌<◌, ◌≤◌, Bool, true, false, not, leb, List, [], ◌∷◌, length, pos, Some, None, Option, refl, ap, ◌∙◌, arith}
use Rattle.std.proofs.lemmas.Bool.{leb-false}
use Rattle.std.proofs.lemmas.Bool.Decides.{nat_tests}
use Rattle.spec.specs.Fields.{same_signed}
use Rattle.spec.specs.Entries.{Delta, delta_at, deltas_fault, unsorted, not_rising, regions}
use Rattle.spec.specs.StoreModels.{trimmed}
use Rattle.stores.specs.Laws.{TrimmingKeeps}
use Rattle.stores.proofs.Faults.{some_none, good, good_back}
use Rattle.stores.proofs.Signs.{signed_same}

-- the deltas that are left when the first is kept or not
abbrev pub with_first : Bool → Delta → List Delta → List Delta
with_first true d ds = ds
with_first false d ds = d ∷ ds

pub first : (d : Delta) (ds : List Delta) → trimmed (d ∷ ds) ≡ with_first (same_signed d.delta (pos 0)) d (trimmed ds)
first d ds = go (same_signed d.delta (pos 0))
  where
    go : (z : Bool) → ◌≡◌ {A = List Delta} (elim (not z) [ true ↦ d ∷ trimmed ds | false ↦ trimmed ds ]) (with_first z d (trimmed ds))
    go true = refl
    go false = refl

-- the first region is above b, and the rest rise from it
next : (i b r : ℕ) (rs : List ℕ) → not_rising i b (r ∷ rs) ≡ None → (b < r) × (not_rising (i + 1) r rs ≡ None)
next i b r rs h = go (leb r b) refl h
  where
    go : (t : Bool) → leb r b ≡ t → ◌≡◌ {A = Option ℕ} (elim t [ true ↦ Some i | false ↦ not_rising (i + 1) r rs ]) None → (b < r) × (not_rising (i + 1) r rs ≡ None)
    go true q h = some_none i h
    go false q h = (leb-false r b q, h)

more : (i b r : ℕ) (rs : List ℕ) → b < r → not_rising (i + 1) r rs ≡ None → not_rising i b (r ∷ rs) ≡ None
more i b r rs l h = grind (arith, nat_tests)

-- a region at or below b has delta 0
absent : (ds : List Delta) (i b r : ℕ) → not_rising i b (regions ds) ≡ None → r ≤ b → delta_at ds r ≡ pos 0
absent [] i b r h l = refl
absent (d ∷ ds) i b r h l =
    let n = next i b d.region (regions ds) h in
    let up = n.0 in
    let a = absent ds (i + 1) d.region r n.1 (omega arith) in
    grind (arith, nat_tests)

-- without zeros the regions still rise
rises : (ds : List Delta) (i j b c : ℕ) → c ≤ b → not_rising i b (regions ds) ≡ None → not_rising j c (regions (trimmed ds)) ≡ None
rises [] i j b c l h = refl
rises (d ∷ ds) i j b c l h =
    let n = next i b d.region (regions ds) h in
    let up = n.0 in
    ap (λ x. not_rising j c (regions x)) (first d ds)
    ∙ go (same_signed d.delta (pos 0)) (rises ds (i + 1) j d.region c (omega arith) n.1)
    (more j c d.region (regions (trimmed ds)) (omega arith) (rises ds (i + 1) (j + 1) d.region d.region (omega arith) n.1))
  where
    go : (z : Bool) → not_rising j c (regions (trimmed ds)) ≡ None → not_rising j c (regions (d ∷ trimmed ds)) ≡ None → not_rising j c (regions (with_first z d (trimmed ds))) ≡ None
    go true a b = a
    go false a b = b

-- the first entry, if it is not kept, has the delta 0 that the rest has
first_at : (d : Delta) (ds : List Delta) (r : ℕ) → delta_at (trimmed ds) r ≡ delta_at ds r → (r ≤ d.region → delta_at ds r ≡ pos 0) → delta_at (trimmed (d ∷ ds)) r ≡ delta_at (d ∷ ds) r
first_at d ds r a low = ap (λ x. delta_at x r) (first d ds) ∙ go (same_signed d.delta (pos 0)) refl
  where
    gone : d.delta ≡ pos 0 → delta_at (trimmed ds) r ≡ delta_at (d ∷ ds) r
    gone z = grind (arith, nat_tests)

    kept : delta_at (d ∷ trimmed ds) r ≡ delta_at (d ∷ ds) r
    kept = grind (arith, nat_tests)

    go : (z : Bool) → same_signed d.delta (pos 0) ≡ z → delta_at (with_first z d (trimmed ds)) r ≡ delta_at (d ∷ ds) r
    go true q = gone (signed_same d.delta (pos 0) q)
    go false q = kept

-- every region has the delta that it had
same_at : (ds : List Delta) (i b r : ℕ) → not_rising i b (regions ds) ≡ None → delta_at (trimmed ds) r ≡ delta_at ds r
same_at [] i b r h = refl
same_at (d ∷ ds) i b r h =
    let n = next i b d.region (regions ds) h in
    first_at d ds r (same_at ds (i + 1) d.region r n.1) (absent ds (i + 1) d.region r n.1)

fewer : (ds : List Delta) → length (trimmed ds) ≤ length ds
fewer [] = omega arith
fewer (d ∷ ds) = let e = ap length (first d ds) in let n = go (same_signed d.delta (pos 0)) (fewer ds) in omega arith
  where
    go : (z : Bool) → length (trimmed ds) ≤ length ds → length (with_first z d (trimmed ds)) ≤ suc (length ds)
    go true a = omega arith
    go false a = omega arith

sorted_from : (c : ℕ) (xs : List ℕ) → not_rising 0 c xs ≡ None → unsorted xs ≡ None
sorted_from c [] h = refl
sorted_from c (x ∷ xs) h = (next 0 c x xs h).1

-- GOODNESS STAYS
pub trimmed_good : (ds : List Delta) → deltas_fault ds ≡ None → deltas_fault (trimmed ds) ≡ None
trimmed_good [] h = refl
trimmed_good (d ∷ ds) h =
    let g = good (d ∷ ds) h in
    let few = g.1 in
    let f = fewer (d ∷ ds) in
    good_back (trimmed (d ∷ ds))
    (ap (λ x. unsorted (regions x)) (first d ds)
    ∙ go (same_signed d.delta (pos 0)) (sorted_from d.region (regions (trimmed ds)) (rises ds 1 0 d.region d.region (omega arith) g.0)) (rises ds 1 1 d.region d.region (omega arith) g.0))
    (omega arith)
  where
    go : (z : Bool) → unsorted (regions (trimmed ds)) ≡ None → unsorted (regions (d ∷ trimmed ds)) ≡ None → unsorted (regions (with_first z d (trimmed ds))) ≡ None
    go true a b = a
    go false a b = b

-- EVERY REGION'S DELTA STAYS
pub trimmed_at : (ds : List Delta) (r : ℕ) → deltas_fault ds ≡ None → delta_at (trimmed ds) r ≡ delta_at ds r
trimmed_at [] r h = refl
trimmed_at (d ∷ ds) r h = let g = good (d ∷ ds) h in first_at d ds r (same_at ds 1 d.region r g.0) (absent ds 1 d.region r g.0)

pub trimming_keeps : TrimmingKeeps
trimming_keeps ds h = (trimmed_good ds h, λ r. trimmed_at ds r h)
