-- Where the rules of each section stand in the subtables of a build.
use Rattle.std.specs.Prelude.{◌≡◌, ℕ, Bool, true, false, ◌&&◌, ◌||◌, ltb, List, ◌==◌, nat_lt}
use Rattle.spec.specs.Lists.{Every, same_list, list_before}
use Rattle.spec.specs.Rules.{RuleList, sections}
use Rattle.spec.specs.Kinds.{SingleRule, PairRule}
use Rattle.spec.specs.Build.{BuiltSingle, BuiltPair, Cell, PairSubtable, glyph_pairs, class_pairs, formats, formats_before, subtable_before, built_sections, single_build, pair_build}
use Rattle.spec.specs.Promise.{EachSection, SinglesStand, PairsStandOnce, ClassesApart, PairsStand}
use Rattle.list_laws.specs.Rising.{Rises}

-- SINGLES STAND ONCE: in each section each glyph with a rule stands in one subtable of that section, once; any other in none
abbrev pub AllSinglesStand : Type 0
AllSinglesStand = (l : RuleList SingleRule) (ids : List ℕ) → EachSection (SinglesStand l.sets) (sections l) (built_sections single_build l ids)

-- PAIRS STAND ONCE: in each section each glyph pair with a rule stands in one pair set of that section, once; any other in none
abbrev pub AllPairsStandOnce : Type 0
AllPairsStandOnce = (l : RuleList PairRule) (ids : List ℕ) → EachSection PairsStandOnce (sections l) (built_sections pair_build l ids)

-- SETS ARE KEPT APART: in every class subtable different sets of one side share no glyph and no class number. No rule list is left
-- out: an empty set, as of a number under which none was entered, holds no glyph
abbrev pub AllSetsApart : Type 0
AllSetsApart = (l : RuleList PairRule) (ids : List ℕ) → Every (Every ClassesApart) (built_sections pair_build l ids)

-- PAIRS STAND: both
abbrev pub AllPairsStand : Type 0
AllPairsStand = (l : RuleList PairRule) (ids : List ℕ) → EachSection (PairsStand l.sets) (sections l) (built_sections pair_build l ids)

-- ---- the order

-- by falling glyph count, then rising first glyph; in each the glyphs rise
abbrev pub SinglesInOrder : List (List BuiltSingle) → Type 0
SinglesInOrder subs = Rises subtable_before subs × Every (Rises (λ a b. ltb a.glyph b.glyph)) subs

-- SINGLE SUBTABLES STAND IN THEIR ORDER
abbrev pub AllSinglesInOrder : Type 0
AllSinglesInOrder = (l : RuleList SingleRule) (ids : List ℕ) → Every SinglesInOrder (built_sections single_build l ids)

-- by the first glyph, then the second
abbrev pub glyphs_before : BuiltPair → BuiltPair → Bool
glyphs_before a b = nat_lt a.first b.first || (a.first == b.first && nat_lt a.second b.second)

-- by the first set, then the second
abbrev pub sets_before : Cell → Cell → Bool
sets_before a b = list_before a.first b.first || (same_list a.first b.first && list_before a.second b.second)

-- glyph pairs by rising value formats, ahead of all groups of class rules
abbrev pub may_precede : PairSubtable → PairSubtable → Bool
may_precede (glyph_pairs f1 f2 es) (glyph_pairs g1 g2 ds) = formats_before (f1, f2) (g1, g2)
may_precede (glyph_pairs f1 f2 es) (class_pairs cs) = true
may_precede (class_pairs cs) (glyph_pairs f1 f2 es) = false
may_precede (class_pairs cs) (class_pairs ds) = true

-- pairs rise, and have the formats of their subtable; cells rise
abbrev pub PairsRise : PairSubtable → Type 0
PairsRise (glyph_pairs f1 f2 es) = Rises glyphs_before es × Every (λ e. formats e ≡ (f1, f2)) es
PairsRise (class_pairs cs) = Rises sets_before cs

abbrev pub PairsInOrder : List PairSubtable → Type 0
PairsInOrder subs = Rises may_precede subs × Every PairsRise subs

-- PAIR SUBTABLES STAND IN THEIR ORDER
abbrev pub AllPairsInOrder : Type 0
AllPairsInOrder = (l : RuleList PairRule) (ids : List ℕ) → Every PairsInOrder (built_sections pair_build l ids)
