-- What is entered: glyph sets, devices, delta lists. Each check tells the place that offends, or none.
use Rattle.std.specs.Prelude.{◌≡◌, ℕ, ◌+◌, ◌-◌, min, Bool, true, false, cond, ◌&&◌, List, [], ◌∷◌, ◌++◌, map, length, ℤ, pos, Some, None, Option, ◌==◌, nat_le, nat_lt, slice_index_or}
use Rattle.spec.specs.Lists.{all}
use Rattle.spec.specs.Fields.{same_signed}

-- ---- glyph sets

-- the first place, the first being i, whose number is not above the one before it, which is b
abbrev pub not_rising : ℕ → ℕ → List ℕ → Option ℕ
not_rising i b [] = None
not_rising i b (x ∷ xs) = elim (nat_le x b) [ true ↦ Some i | false ↦ not_rising (i + 1) x xs ]

-- a set is not empty, and rises strictly
abbrev pub set_fault : List ℕ → Option ℕ
set_fault [] = Some 0
set_fault (g ∷ gs) = not_rising 1 g gs

-- ---- devices

-- values for the pixel sizes from the first on, one a size
pub record Device : Type 0 where
  pub first_size : ℕ
  pub values : List ℤ

-- first size ≤ last size, at most 64 sizes, one value a size
abbrev pub device_fault : ℕ → ℕ → ℕ → Option ℕ
device_fault start end n = cond (nat_lt end start) (Some 0) (cond (nat_lt 64 (end - start + 1)) (Some 1) (cond (n == end - start + 1) None (Some 2)))

-- the value at a pixel size: 0 outside
abbrev pub value_at : Device → ℕ → ℤ
value_at d s = cond (nat_lt s d.first_size) (pos 0) (slice_index_or d.values (s - d.first_size) (pos 0))

abbrev pub same_values : List ℤ → List ℤ → Bool
same_values [] [] = true
same_values [] (y ∷ ys) = false
same_values (x ∷ xs) [] = false
same_values (x ∷ xs) (y ∷ ys) = same_signed x y && same_values xs ys

abbrev pub same_device : Device → Device → Bool
same_device x y = x.first_size == y.first_size && same_values x.values y.values

-- what a number says under which no device was entered
abbrev pub no_device : Device
no_device = record { first_size = 0; values = [] }

-- ---- delta lists

pub record Delta : Type 0 where
  pub region : ℕ
  pub delta : ℤ

abbrev pub regions : List Delta → List ℕ
regions ds = map (λ d. d.region) ds

abbrev pub unsorted : List ℕ → Option ℕ
unsorted [] = None
unsorted (r ∷ rs) = not_rising 1 r rs

-- the lower of the first offender and 64, where there are more than 64 entries
abbrev pub lower : Option ℕ → Bool → Option ℕ
lower None true = Some 64
lower None false = None
lower (Some i) true = Some (min i 64)
lower (Some i) false = Some i

-- regions rise strictly, and there are at most 64 entries; a list may be empty
abbrev pub deltas_fault : List Delta → Option ℕ
deltas_fault ds = lower (unsorted (regions ds)) (nat_lt 64 (length ds))

-- the delta at a region: 0 if the region is not listed
abbrev pub delta_at : List Delta → ℕ → ℤ
delta_at [] r = pos 0
delta_at (d ∷ ds) r = elim (d.region == r) [ true ↦ d.delta | false ↦ delta_at ds r ]

abbrev pub same_deltas : List Delta → List Delta → Bool
same_deltas [] [] = true
same_deltas [] (y ∷ ys) = false
same_deltas (x ∷ xs) [] = false
same_deltas (x ∷ xs) (y ∷ ys) = x.region == y.region && same_signed x.delta y.delta && same_deltas xs ys

-- two lists are alike if every region has the same delta
abbrev pub Alike : List Delta → List Delta → Type 0
Alike xs ys = (r : ℕ) → delta_at xs r ≡ delta_at ys r

-- the same, found by asking at the regions that either lists
abbrev pub is_alike : List Delta → List Delta → Bool
is_alike xs ys = all (λ r. same_signed (delta_at xs r) (delta_at ys r)) (regions xs ++ regions ys)
