-- What built subtables say before they are bytes: of a glyph or two glyphs, at a pixel size and a region. `value` tells the delta
-- that a store holds under an id at a region.
use Rattle.std.specs.Prelude.{ℕ, true, false, ◌&&◌, List, [], ◌∷◌, map, ℤ, pos, Some, None, Option, ◌==◌, nat_eq}
use Rattle.spec.specs.Lists.{first, any, has, map_some, decided}
use Rattle.spec.specs.Entries.{value_at}
use Rattle.spec.specs.Values.{Metric, ValueRecord, DeviceOrVariationIndex, device, variation_index, empty, build_order}
use Rattle.spec.specs.ListAnswer.{Adjustment}
use Rattle.spec.specs.Build.{BuiltSingle, Cell, PairSubtable, glyph_pairs, class_pairs}

-- ---- which records: none is for the next subtable

abbrev pub single_says : ℕ → List BuiltSingle → Option (ValueRecord DeviceOrVariationIndex)
single_says g es = map_some (λ e. e.values) (first (λ e. nat_eq e.glyph g) es)

abbrev pub cell_or_zeros : Option Cell → ValueRecord DeviceOrVariationIndex × ValueRecord DeviceOrVariationIndex
cell_or_zeros None = (empty, empty)
cell_or_zeros (Some e) = (e.values1, e.values2)

-- a class subtable applies as soon as a first set holds the first glyph
abbrev pub pair_says : ℕ × ℕ → PairSubtable → Option (ValueRecord DeviceOrVariationIndex × ValueRecord DeviceOrVariationIndex)
pair_says q (glyph_pairs f1 f2 es) = map_some (λ e. (e.values1, e.values2)) (first (λ e. (e.first == q.0) && e.second == q.1) es)
pair_says q (class_pairs es) = elim (any (λ e. has q.0 e.first) es) [
  | true ↦ Some (cell_or_zeros (first (λ e. has q.0 e.first && has q.1 e.second) es))
  | false ↦ None
]

-- ---- what a built record gives

module _ (value : ℕ → ℕ → ℤ) (size region : ℕ) where
  abbrev pub built_adjustment : Option (Metric DeviceOrVariationIndex) → Adjustment
  built_adjustment None = record { default = pos 0; device = pos 0; delta = pos 0 }
  built_adjustment (Some m) = elim m.beside [
    | None ↦ record { default = m.default; device = pos 0; delta = pos 0 }
    | Some b ↦ elim b [
      | device d ↦ record { default = m.default; device = value_at d size; delta = pos 0 }
      | variation_index k ↦ record { default = m.default; device = pos 0; delta = value k region }
    ]
  ]

  abbrev pub built_adjustments : ValueRecord DeviceOrVariationIndex → List Adjustment
  built_adjustments r = map built_adjustment (build_order r)

  -- the subtables tried in order
  abbrev pub single_said : List (List BuiltSingle) → ℕ → Option (List (List Adjustment))
  single_said subs g = map_some (λ r. built_adjustments r ∷ []) (decided (single_says g) subs)

  abbrev pub pair_said : List PairSubtable → ℕ × ℕ → Option (List (List Adjustment))
  pair_said subs q = map_some (λ r. built_adjustments r.0 ∷ built_adjustments r.1 ∷ []) (decided (pair_says q) subs)
