-- The two kinds of rules, and which of them stand in a section.
use Rattle.std.specs.Prelude.{ℕ, ◌+◌, Bool, true, false, not, ◌&&◌, ◌||◌, ltb, List, [], ◌∷◌, ◌++◌, map, reverse, length, ◌==◌, nat_lt, slice_index_or}
use Rattle.spec.specs.Lists.{all, has, sum_of, same_list, list_before, sorted}
use Rattle.spec.specs.Values.{ValueRecord, DeviceOrDeltas, SingleOf, PairOf}
use Rattle.spec.specs.Rules.{RuleKind}

-- ---- single rules: the last for a glyph stands

abbrev pub SingleRule : Type 0
SingleRule = SingleOf DeviceOrDeltas

-- rising by glyph
abbrev pub standing_singles : List SingleRule → List SingleRule
standing_singles rs = sorted (λ a b. ltb a.glyph b.glyph) rs

abbrev pub single_rules : RuleKind SingleRule
single_rules = record { values = λ r. r.values ∷ []; set_numbers = λ r. []; glyphs = λ r. r.glyph ∷ []; standing = λ sets rs. length (standing_singles rs) }

-- ---- pair rules: for two glyphs, or for two sets by their numbers

abbrev pub Pair : Type 0
Pair = PairOf ℕ DeviceOrDeltas

pub data PairRule : Type 0 where
  glyphs : Pair → PairRule
  classes : Pair → PairRule

abbrev pub glyph_rules : List PairRule → List Pair
glyph_rules [] = []
glyph_rules (glyphs r ∷ rs) = r ∷ glyph_rules rs
glyph_rules (classes r ∷ rs) = glyph_rules rs

abbrev pub class_rules : List PairRule → List Pair
class_rules [] = []
class_rules (glyphs r ∷ rs) = class_rules rs
class_rules (classes r ∷ rs) = r ∷ class_rules rs

-- ---- glyph pair rules: the first for a pair stands

-- by the first glyph, then the second
abbrev pub pair_before : Pair → Pair → Bool
pair_before a b = nat_lt a.first b.first || (a.first == b.first && nat_lt a.second b.second)

abbrev pub standing_pairs : List Pair → List Pair
standing_pairs rs = sorted pair_before (reverse rs)

-- ---- class rules fall into groups

abbrev pub set_of : List (List ℕ) → ℕ → List ℕ
set_of sets n = slice_index_or sets n []

-- no glyph in both
abbrev pub disjoint : List ℕ → List ℕ → Bool
disjoint s t = all (λ g. not (has g t)) s

-- a set is on one side of a group already, or shares no glyph with that side
abbrev pub side_takes : List (List ℕ) → List ℕ → ℕ → Bool
side_takes sets side n = has n side || all (λ m. disjoint (set_of sets m) (set_of sets n)) side

abbrev pub joins : List (List ℕ) → List Pair → Pair → Bool
joins sets group r = side_takes sets (map (λ c. c.first) group) r.first && side_takes sets (map (λ c. c.second) group) r.second

-- the last group, and the class rules behind it: a rule joins that group, or opens the next
abbrev pub grouped : List (List ℕ) → List Pair → List Pair → List (List Pair)
grouped sets group [] = group ∷ []
grouped sets group (r ∷ rs) = elim (joins sets group r) [ true ↦ grouped sets (group ++ (r ∷ [])) rs | false ↦ group ∷ grouped sets (r ∷ []) rs ]

abbrev pub groups : List (List ℕ) → List Pair → List (List Pair)
groups sets [] = []
groups sets (r ∷ rs) = grouped sets (r ∷ []) rs

-- by set order, the first set first
abbrev pub cell_before : List (List ℕ) → Pair → Pair → Bool
cell_before sets a b = list_before (set_of sets a.first) (set_of sets b.first)
    || (same_list (set_of sets a.first) (set_of sets b.first) && list_before (set_of sets a.second) (set_of sets b.second))

-- in a group the last rule for the same two sets stands
abbrev pub standing_cells : List (List ℕ) → List Pair → List Pair
standing_cells sets group = sorted (cell_before sets) group

abbrev pub standing_groups : List (List ℕ) → List PairRule → List (List Pair)
standing_groups sets rs = map (standing_cells sets) (groups sets (class_rules rs))

-- ---- what the lookup asks of pair rules

abbrev pub pair_values : PairRule → List (ValueRecord DeviceOrDeltas)
pair_values (glyphs r) = r.values1 ∷ r.values2 ∷ []
pair_values (classes r) = r.values1 ∷ r.values2 ∷ []

abbrev pub pair_sets : PairRule → List ℕ
pair_sets (glyphs r) = []
pair_sets (classes r) = r.first ∷ r.second ∷ []

abbrev pub pair_glyphs : PairRule → List ℕ
pair_glyphs (glyphs r) = r.first ∷ r.second ∷ []
pair_glyphs (classes r) = []

abbrev pub pair_rules : RuleKind PairRule
pair_rules = record { values = pair_values; set_numbers = pair_sets; glyphs = pair_glyphs; standing = λ sets rs. length (standing_pairs (glyph_rules rs)) + sum_of length (standing_groups sets rs) }
