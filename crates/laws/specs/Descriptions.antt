-- What is read of built records and subtables, said without bytes.
use Rattle.std.specs.Prelude.{ℕ, ◌&&◌, List, [], ◌∷◌, map, ℤ, pos, Some, None, Option, ◌==◌, nat_eq}
use Rattle.spec.specs.Lists.{first, map_some}
use Rattle.spec.specs.Entries.{value_at}
use Rattle.spec.specs.Values.{Metric, ValueRecord, DeviceOrVariationIndex, device, variation_index, build_order}
use Rattle.spec.specs.Build.{BuiltSingle, BuiltPair, PairSubtable}
use Rattle.spec.specs.Meaning.{ReadMetric, no_id, nothing}
use Rattle.list_laws.specs.Says.{pair_says}

-- ---- a record at a pixel size

-- a device's value and no id; an id and no device value; neither
abbrev pub beside_read : ℕ → Option DeviceOrVariationIndex → ℤ × ℕ
beside_read size None = nothing
beside_read size (Some (device d)) = (value_at d size, no_id)
beside_read size (Some (variation_index n)) = (pos 0, n)

-- a metric that is not there reads as 0 with nothing beside it
abbrev pub default_read : Option (Metric DeviceOrVariationIndex) → ℤ
default_read None = pos 0
default_read (Some m) = m.default

abbrev pub device_read : ℕ → Option (Metric DeviceOrVariationIndex) → ℤ × ℕ
device_read size None = nothing
device_read size (Some m) = beside_read size m.beside

abbrev pub metric_read : ℕ → Option (Metric DeviceOrVariationIndex) → ReadMetric
metric_read size m = record { default = default_read m; device = (device_read size m).0; id = (device_read size m).1 }

-- the metrics in the order of a build
abbrev pub record_read : ℕ → ValueRecord DeviceOrVariationIndex → List ReadMetric
record_read size r = map (metric_read size) (build_order r)

-- ---- subtables: none if they do not say

-- the record of a glyph
abbrev pub single_read : ℕ → ℕ → List BuiltSingle → Option (List (List ReadMetric))
single_read size g es = map_some (λ e. record_read size e.values ∷ []) (first (λ e. nat_eq e.glyph g) es)

-- the two records of a pair
abbrev pub records_read : ℕ → BuiltPair → List (List ReadMetric)
records_read size e = record_read size e.values1 ∷ record_read size e.values2 ∷ []

-- by the second glyph in a pair set, and by both in a subtable
abbrev pub second_read : ℕ → ℕ → List BuiltPair → Option (List (List ReadMetric))
second_read size h es = map_some (records_read size) (first (λ e. nat_eq e.second h) es)

abbrev pub pair_read : ℕ → ℕ × ℕ → List BuiltPair → Option (List (List ReadMetric))
pair_read size q es = map_some (records_read size) (first (λ e. (e.first == q.0) && e.second == q.1) es)

-- in a PairPos subtable of either format: in one of classes those of the first cell whose sets hold both glyphs, empty ones without
-- such a cell, and none if no first set holds the first glyph
abbrev pub two_read : ℕ → ValueRecord DeviceOrVariationIndex × ValueRecord DeviceOrVariationIndex → List (List ReadMetric)
two_read size r = record_read size r.0 ∷ record_read size r.1 ∷ []

abbrev pub pairs_read : ℕ → ℕ × ℕ → PairSubtable → Option (List (List ReadMetric))
pairs_read size q sub = map_some (two_read size) (pair_says q sub)
