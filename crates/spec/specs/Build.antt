-- What a build makes of a rule list: which delta lists go to the store, in which order, and the subtables, given the ids that
-- the store answered. O is a kind's own sort of subtable.
use Rattle.std.specs.Prelude.{◌≡◌, ℕ, ◌*◌, Bool, true, not, ◌&&◌, ◌||◌, List, [], ◌∷◌, ◌++◌, map, length, drop, ◌==◌, nat_eq, nat_lt, slice_index_or}
use Rattle.spec.specs.Lists.{keep, count, concat, rising, sorted}
use Rattle.spec.specs.Entries.{Device, Delta}
use Rattle.spec.specs.Values.{DeviceOrVariationIndex, SingleOf, PairOf, format, encoded_size, same_record, single_lists, pair_lists, built_single, built_pair, built_each}
use Rattle.spec.specs.Rules.{RuleList, sections}
use Rattle.spec.specs.Kinds.{SingleRule, Pair, PairRule, glyph_rules, set_of, standing_singles, standing_pairs, standing_groups}

abbrev pub BuiltSingle : Type 0
BuiltSingle = SingleOf DeviceOrVariationIndex

abbrev pub BuiltPair : Type 0
BuiltPair = PairOf ℕ DeviceOrVariationIndex

-- a cell: two sets with their records
abbrev pub Cell : Type 0
Cell = PairOf (List ℕ) DeviceOrVariationIndex

-- ---- single: a subtable is rising glyphs with their records

-- the glyphs with the same built record make a subtable of their own if glyphs × encoded size is above 10
abbrev pub large : List BuiltSingle → BuiltSingle → Bool
large es e = nat_lt 10 (count (λ x. same_record x.values e.values) es * encoded_size (format e.values))

-- two glyphs of a section come to one subtable: by the same record, or neither by a large group and of one value format
abbrev pub together : List BuiltSingle → BuiltSingle → BuiltSingle → Bool
together es a b = same_record a.values b.values || (not (large es a) && not (large es b) && format a.values == format b.values)

-- `together` is an equivalence, so the subtables of a section share no glyph and leave none out
pub record Equivalence {A : Type 0} (test : A → A → Bool) : Type 0 where
  pub reflexive : (a : A) → test a a ≡ true
  pub symmetric : (a b : A) → test a b ≡ true → test b a ≡ true
  pub transitive : (a b c : A) → test a b ≡ true → test b c ≡ true → test a c ≡ true

abbrev pub TogetherIsEquivalence : Type 0
TogetherIsEquivalence = (es : List BuiltSingle) → Equivalence (together es)

-- the subtable of a glyph
abbrev pub subtable_of : List BuiltSingle → BuiltSingle → List BuiltSingle
subtable_of es a = keep (together es a) es

abbrev pub first_glyph : List BuiltSingle → ℕ
first_glyph [] = 0
first_glyph (e ∷ es) = e.glyph

-- falling glyph count, then rising first glyph
abbrev pub subtable_before : List BuiltSingle → List BuiltSingle → Bool
subtable_before x y = nat_lt (length y) (length x) || (length x == length y && nat_lt (first_glyph x) (first_glyph y))

-- each once: the subtables of two glyphs that are together are one
abbrev pub single_subtables : List BuiltSingle → List (List BuiltSingle)
single_subtables es = sorted subtable_before (map (subtable_of es) es)

-- ---- pair

pub data PairSubtable : Type 0 where
  -- two value formats, and rising pairs of glyphs with their records
  glyph_pairs : ℕ → ℕ → List BuiltPair → PairSubtable
  -- the cells of a group
  class_pairs : List Cell → PairSubtable

-- value formats rise by the first, then the second
abbrev pub formats_before : ℕ × ℕ → ℕ × ℕ → Bool
formats_before a b = nat_lt a.0 b.0 || (a.0 == b.0 && nat_lt a.1 b.1)

abbrev pub formats : {K : Type 0} → PairOf K DeviceOrVariationIndex → ℕ × ℕ
formats e = (format e.values1, format e.values2)

-- the pairs of two value formats
abbrev pub of_formats : List BuiltPair → ℕ × ℕ → PairSubtable
of_formats es f = glyph_pairs f.0 f.1 (keep (λ e. (format e.values1 == f.0) && format e.values2 == f.1) es)

abbrev pub pair_subtables : List BuiltPair → List PairSubtable
pair_subtables es = map (of_formats es) (sorted formats_before (map formats es))

-- the first glyphs of a subtable, each once, and the pair set of a first glyph
abbrev pub first_glyphs : List BuiltPair → List ℕ
first_glyphs es = rising (map (λ e. e.first) es)

abbrev pub pair_set : List BuiltPair → ℕ → List BuiltPair
pair_set es g = keep (λ e. nat_eq e.first g) es

-- a cell has its sets in place of their numbers
abbrev pub with_sets : List (List ℕ) → BuiltPair → Cell
with_sets sets e = record { first = set_of sets e.first; second = set_of sets e.second; values1 = e.values1; values2 = e.values2 }

abbrev pub class_subtable : List (List ℕ) → List BuiltPair → PairSubtable
class_subtable sets es = class_pairs (map (with_sets sets) es)

-- ---- a kind: the delta lists of a section in the order of a build, by their numbers, and its subtables given their ids
pub record BuildKind (R O : Type 0) : Type 0 where
  pub lists : List (List ℕ) → List R → List ℕ
  pub subtables : List (List ℕ) → List Device → List R → List ℕ → List O

-- all glyphs rise, whatever subtable they come to
abbrev pub single_build : BuildKind SingleRule (List BuiltSingle)
single_build = record {
  lists = λ sets rs. concat (map single_lists (standing_singles rs));
  subtables = λ sets devices rs ids. single_subtables (built_each single_lists (built_single devices) (standing_singles rs) ids);
}

abbrev pub pairs_lists : List Pair → List ℕ
pairs_lists ps = concat (map pair_lists ps)

-- all glyph pairs rise, then groups in order, their cells by set order
abbrev pub pair_build : BuildKind PairRule PairSubtable
pair_build = record {
  lists = λ sets rs. pairs_lists (standing_pairs (glyph_rules rs)) ++ concat (map pairs_lists (standing_groups sets rs));
  subtables = λ sets devices rs ids.
      pair_subtables (built_each pair_lists (built_pair devices) (standing_pairs (glyph_rules rs)) ids)
      ++ built_each pairs_lists (λ g i. class_subtable sets (built_each pair_lists (built_pair devices) g i)) (standing_groups sets rs)
      (drop (length (pairs_lists (standing_pairs (glyph_rules rs)))) ids);
}

-- ---- the lookup: sections in order

-- the delta lists that go to the store, once for each metric that names one
abbrev pub numbers_to_add : {R O : Type 0} → BuildKind R O → RuleList R → List ℕ
numbers_to_add kind l = concat (map (kind.lists l.sets) (sections l))

abbrev pub lists_to_add : {R O : Type 0} → BuildKind R O → RuleList R → List (List Delta)
lists_to_add kind l = map (λ n. slice_index_or l.deltas n []) (numbers_to_add kind l)

-- THE SUBTABLES of each section, given the ids of those lists in their order
abbrev pub built_sections : {R O : Type 0} → BuildKind R O → RuleList R → List ℕ → List (List O)
built_sections kind l ids = built_each (kind.lists l.sets) (kind.subtables l.sets l.devices) (sections l) ids

abbrev pub built : {R O : Type 0} → BuildKind R O → RuleList R → List ℕ → List O
built kind l ids = concat (built_sections kind l ids)
