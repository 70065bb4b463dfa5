-- What a section of pair rules is built to: the subtables of glyph pairs, then one of the cells of each group.
use Rattle.std.proofs.Common.{ℕ, List, length, drop}
use Rattle.spec.specs.Lists.{Every}
use Rattle.spec.specs.Entries.{Device}
use Rattle.spec.specs.Values.{pair_lists, built_pair, built_each}
use Rattle.spec.specs.Kinds.{Pair, PairRule, class_rules, glyph_rules, groups, standing_cells, standing_groups, standing_pairs}
use Rattle.spec.specs.Build.{BuiltPair, PairSubtable, of_formats, class_subtable, pairs_lists, pair_build}
use Rattle.list_laws.proofs.Within.{every_mapped, every_over, every_append}
use Rattle.list_laws.proofs.Building.{every_built}

module _ (sets : List (List ℕ)) (devices : List Device) where
  abbrev pub built_pairs : List PairRule → List ℕ → List BuiltPair
  built_pairs rs ids = built_each pair_lists (built_pair devices) (standing_pairs (glyph_rules rs)) ids

  abbrev pub cells : List Pair → List ℕ → List BuiltPair
  cells group ids = built_each pair_lists (built_pair devices) (standing_cells sets group) ids

  abbrev pub class_subtables : List PairRule → List ℕ → List PairSubtable
  class_subtables rs ids = built_each pairs_lists (λ g i. class_subtable sets (built_each pair_lists (built_pair devices) g i)) (standing_groups sets rs) (drop (length (pairs_lists (standing_pairs (glyph_rules rs)))) ids)

  module _ (P : PairSubtable → Type 0) (rs : List PairRule) (ids : List ℕ) (class : Every (λ group. (i : List ℕ) → P (class_subtable sets (cells group i))) (groups sets (class_rules rs))) where
    pub every_class : Every P (class_subtables rs ids)
    every_class = every_built P pairs_lists (λ g i. class_subtable sets (built_each pair_lists (built_pair devices) g i)) (standing_groups sets rs) _
        (every_over (λ g. (i : List ℕ) → P (class_subtable sets (built_each pair_lists (built_pair devices) g i))) (standing_cells sets) (groups sets (class_rules rs)) class)

    pub every_subtable : ((f : ℕ × ℕ) → P (of_formats (built_pairs rs ids) f)) → Every P (pair_build.subtables sets devices rs ids)
    every_subtable glyph = every_append P _ (class_subtables rs ids) (every_mapped P (of_formats (built_pairs rs ids)) _ (λ f i. glyph f)) every_class
