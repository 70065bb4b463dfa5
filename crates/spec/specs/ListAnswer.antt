-- The list's answer: what a rule list says of a glyph or of two glyphs, at a pixel size and a region.
use Rattle.std.specs.Prelude.{ℕ, true, false, ◌&&◌, List, [], ◌∷◌, map, ℤ, pos, Some, None, Option, ◌==◌, nat_eq, slice_index_or}
use Rattle.spec.specs.Lists.{first, last, decided, or_else, map_some, any, has}
use Rattle.spec.specs.Entries.{value_at, delta_at, no_device}
use Rattle.spec.specs.Values.{Metric, ValueRecord, DeviceOrDeltas, empty, build_order}
use Rattle.spec.specs.Rules.{RuleList, sections}
use Rattle.spec.specs.Kinds.{SingleRule, Pair, PairRule, glyph_rules, class_rules, groups, set_of}

-- what one metric gives: its default, its device value at the pixel size, its delta at the region
pub record Adjustment : Type 0 where
  pub default : ℤ
  pub device : ℤ
  pub delta : ℤ

-- 0 where there is none
abbrev pub adjustment : {R : Type 0} → RuleList R → ℕ → ℕ → Option (Metric DeviceOrDeltas) → Adjustment
adjustment l size region None = record { default = pos 0; device = pos 0; delta = pos 0 }
adjustment l size region (Some m) = elim m.beside [
  | None ↦ record { default = m.default; device = pos 0; delta = pos 0 }
  | Some b ↦ elim b [
    | DeviceOrDeltas.device# n ↦ record { default = m.default; device = value_at (slice_index_or l.devices n no_device) size; delta = pos 0 }
    | DeviceOrDeltas.deltas# n ↦ record { default = m.default; device = pos 0; delta = delta_at (slice_index_or l.deltas n []) region }
  ]
]

-- a record's metrics in the order of a build
abbrev pub adjustments : {R : Type 0} → RuleList R → ℕ → ℕ → ValueRecord DeviceOrDeltas → List Adjustment
adjustments l size region r = map (adjustment l size region) (build_order r)

-- ---- single: in a section the last rule for a glyph

abbrev pub single_decides : ℕ → List SingleRule → Option (ValueRecord DeviceOrDeltas)
single_decides g rs = map_some (λ r. r.values) (last (λ r. nat_eq r.glyph g) rs)

-- ---- pair: in a section the first rule for the two glyphs; failing that, the first group with a first set that holds the first
-- glyph, by its last rule whose sets hold both glyphs, or by zeros without one

abbrev pub pair_decides : ℕ → ℕ → List Pair → Option (ValueRecord DeviceOrDeltas × ValueRecord DeviceOrDeltas)
pair_decides g h rs = map_some (λ r. (r.values1, r.values2)) (first (λ r. (r.first == g) && r.second == h) rs)

abbrev pub rule_or_zeros : Option Pair → ValueRecord DeviceOrDeltas × ValueRecord DeviceOrDeltas
rule_or_zeros None = (empty, empty)
rule_or_zeros (Some r) = (r.values1, r.values2)

abbrev pub group_decides : List (List ℕ) → ℕ → ℕ → List Pair → Option (ValueRecord DeviceOrDeltas × ValueRecord DeviceOrDeltas)
group_decides sets g h group = elim (any (λ r. has g (set_of sets r.first)) group) [
  | true ↦ Some (rule_or_zeros (last (λ r. has g (set_of sets r.first) && has h (set_of sets r.second)) group))
  | false ↦ None
]

abbrev pub section_decides : List (List ℕ) → ℕ → ℕ → List PairRule → Option (ValueRecord DeviceOrDeltas × ValueRecord DeviceOrDeltas)
section_decides sets g h rs = or_else (pair_decides g h (glyph_rules rs)) (decided (group_decides sets g h) (groups sets (class_rules rs)))

-- THE LIST'S ANSWER: the metrics of each record by the first section that decides, or none
abbrev pub single_answer : RuleList SingleRule → ℕ → ℕ → ℕ → Option (List (List Adjustment))
single_answer l size region g = map_some (λ v. adjustments l size region v ∷ []) (decided (single_decides g) (sections l))

abbrev pub pair_answer : RuleList PairRule → ℕ → ℕ → ℕ × ℕ → Option (List (List Adjustment))
pair_answer l size region q = map_some (λ v. adjustments l size region v.0 ∷ adjustments l size region v.1 ∷ []) (decided (section_decides l.sets q.0 q.1) (sections l))
