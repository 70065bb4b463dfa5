-- What the laws ask of glyphs and records, as the rules for what may be entered give it. Nothing else is asked: neither how many
-- glyphs, values or records there are, nor how large an id is.
use Rattle.std.specs.Prelude.{◌≡◌, ℕ, zero, suc, ◌/◌, ◌%◌, ◌<◌, ◌≤◌, true, ◌⊎◌, List, [], ◌∷◌, map, length, ℤ, pos, negsuc, Some, None, Option}
use Rattle.spec.specs.Lists.{Every}
use Rattle.spec.specs.Entries.{Device}
use Rattle.spec.specs.Values.{Metric, ValueRecord, DeviceOrVariationIndex, device, variation_index, writing_order, format}
use Rattle.spec.specs.Kinds.{disjoint}
use Rattle.spec.specs.Build.{BuiltSingle, BuiltPair, Cell, PairSubtable, glyph_pairs, class_pairs}

-- numbers that rise strictly, the first of them above b
abbrev pub Above : ℕ → List ℕ → Type 0
Above b [] = Unit {0}
Above b (x ∷ xs) = (b < x) × Above x xs

abbrev pub Rising : List ℕ → Type 0
Rising [] = Unit {0}
Rising (x ∷ xs) = Above x xs

-- from −n to n − 1
abbrev pub Within : ℕ → ℤ → Type 0
Within n (pos k) = k < n
Within n (negsuc k) = k < n

-- a device has a value, and each is a signed byte
abbrev pub FitsDevice : Device → Type 0
FitsDevice d = (1 ≤ length d.values) × Every (Within 128) d.values

abbrev pub FitsBeside : Option DeviceOrVariationIndex → Type 0
FitsBeside None = Unit {0}
FitsBeside (Some (device d)) = FitsDevice d
FitsBeside (Some (variation_index n)) = Unit {0}

-- a default is a signed number of 16 bits
abbrev pub FitsMetric : Option (Metric DeviceOrVariationIndex) → Type 0
FitsMetric None = Unit {0}
FitsMetric (Some m) = Within 32768 m.default × FitsBeside m.beside

abbrev pub FitsRecord : ValueRecord DeviceOrVariationIndex → Type 0
FitsRecord r = Every FitsMetric (writing_order r)

-- of the lowest d bits of g each is in f
abbrev pub BitsIn : ℕ → ℕ → ℕ → Type 0
BitsIn zero g f = Unit {0}
BitsIn (suc d) g f = (g % 2 ≤ f % 2) × BitsIn d (g / 2) (f / 2)

-- a value format has a field for all that a record has
abbrev pub HasFields : ℕ → ValueRecord DeviceOrVariationIndex → Type 0
HasFields f r = BitsIn 8 (format r) f

-- a record that fits, with this value format for its own
abbrev pub OfFormat : ℕ → ValueRecord DeviceOrVariationIndex → Type 0
OfFormat f r = (format r ≡ f) × FitsRecord r

-- glyphs with records of one value format, and pairs with records of two
abbrev pub SinglesOf : ℕ → List BuiltSingle → Type 0
SinglesOf f es = Every (λ e. OfFormat f e.values) es

abbrev pub PairsOf : ℕ → ℕ → List BuiltPair → Type 0
PairsOf f1 f2 es = Every (λ e. OfFormat f1 e.values1 × OfFormat f2 e.values2) es

-- two sets are the same, or share no glyph
abbrev pub Apart : List ℕ → List ℕ → Type 0
Apart s t = (s ≡ t) ⊎ (disjoint s t ≡ true)

abbrev pub AllApart : List (List ℕ) → Type 0
AllApart sets = Every (λ s. Every (Apart s) sets) sets

-- the cells of a group: their records fit, and on each side different sets share no glyph
pub record Group (es : List Cell) : Type 0 where
  pub fits : Every (λ e. FitsRecord e.values1 × FitsRecord e.values2) es
  pub firsts : AllApart (map (λ e. e.first) es)
  pub seconds : AllApart (map (λ e. e.second) es)

-- a PairPos subtable of either format
abbrev pub FitsPairs : PairSubtable → Type 0
FitsPairs (glyph_pairs f1 f2 es) = PairsOf f1 f2 es
FitsPairs (class_pairs es) = Group es
