-- Worked examples of standing rules, the list's answer, build and bytes. Expected fields are worked out by hand from the formats.
use Rattle.std.specs.Prelude.{◌≡◌, ℕ, List, [], ◌∷◌, ◌++◌, map, ℤ, pos, Some, None, Ok}
use Rattle.spec.specs.Lists.{numbers}
use Rattle.spec.specs.Fields.{big_endian}
use Rattle.spec.specs.Values.{ValueRecord, DeviceOrDeltas, empty}
use Rattle.spec.specs.Rules.{Call}
use Rattle.spec.specs.Kinds.{SingleRule, PairRule}
use Rattle.spec.specs.ListAnswer.{single_answer, pair_answer}
use Rattle.spec.specs.Build.{PairSubtable, glyph_pairs, class_pairs, built, single_build, pair_build}
use Rattle.spec.specs.Meaning.{single_meaning, pair_meaning}
use Rattle.spec.specs.Cases.{alone, x_advance, y_advance, single, glyphs, classes, kern, class_kern, single_list, pair_list, single_bytes, pair_bytes, says_advance, read_advance}

-- the value of one x advance
abbrev pub advance : ℤ → ValueRecord DeviceOrDeltas
advance v = x_advance (alone v)

-- ---- two sections: the earliest that has a rule decides; 5 stands in both

abbrev pub two_sections : List (Call SingleRule)
two_sections = single 5 (advance (pos 99)) ∷ single 5 (advance (pos 10)) ∷ Call.break ∷ single 6 (advance (pos 30)) ∷ single 5 (advance (pos 20)) ∷ []

pub record Sections : Type 0 where
  pub first_section : single_answer (single_list two_sections) 0 0 5 ≡ Some (says_advance (pos 10) ∷ [])
  pub second_section : single_answer (single_list two_sections) 0 0 6 ≡ Some (says_advance (pos 30) ∷ [])
  pub neither : single_answer (single_list two_sections) 0 0 7 ≡ None
  -- a SinglePos 1 and a SinglePos 2, in the order of the sections
  pub bytes : single_bytes two_sections 0 None [] ≡ big_endian (1 ∷ 0 ∷ 2 ∷ 10 ∷ 24 ∷ 1 ∷ 8 ∷ 4 ∷ 10 ∷ 1 ∷ 1 ∷ 5 ∷ 2 ∷ 12 ∷ 4 ∷ 2 ∷ 20 ∷ 30 ∷ 1 ∷ 2 ∷ 5 ∷ 6 ∷ [])
  pub read_first : single_meaning (single_bytes two_sections 0 None []) 0 5 ≡ Ok (Some (read_advance (pos 10) ∷ []))
  pub read_second : single_meaning (single_bytes two_sections 0 None []) 0 6 ≡ Ok (Some (read_advance (pos 30) ∷ []))
  pub read_neither : single_meaning (single_bytes two_sections 0 None []) 0 7 ≡ Ok None

-- ---- single subtables

-- the glyphs of each subtable
abbrev pub glyphs_in : List (Call SingleRule) → List (List ℕ)
glyphs_in cs = map (map (λ e. e.glyph)) (built single_build (single_list cs) [])

-- glyphs from g on, n of them, with one x advance
abbrev pub advances : ℕ → ℕ → ℤ → List (Call SingleRule)
advances g n v = map (λ x. single x (advance v)) (numbers g n)

pub record SingleSubtables : Type 0 where
  -- five glyphs of two bytes each come to 10, which is not above 10: they share the subtable of their value format
  pub at_ten : glyphs_in (advances 1 5 (pos 7) ++ (single 20 (advance (pos 8)) ∷ [])) ≡ (1 ∷ 2 ∷ 3 ∷ 4 ∷ 5 ∷ 20 ∷ []) ∷ []
  -- six come to 12, and have their own
  pub above_ten : glyphs_in (advances 1 6 (pos 7) ++ (single 20 (advance (pos 8)) ∷ [])) ≡ (1 ∷ 2 ∷ 3 ∷ 4 ∷ 5 ∷ 6 ∷ []) ∷ (20 ∷ []) ∷ []
  -- by falling count, then rising first glyph; another value format is another subtable
  pub in_order : glyphs_in (single 1 (y_advance (alone (pos 3))) ∷ advances 30 6 (pos 1) ++ advances 10 6 (pos 2) ++ (single 2 (advance (pos 4)) ∷ single 8 (advance (pos 5)) ∷ []))
      ≡ (10 ∷ 11 ∷ 12 ∷ 13 ∷ 14 ∷ 15 ∷ []) ∷ (30 ∷ 31 ∷ 32 ∷ 33 ∷ 34 ∷ 35 ∷ []) ∷ (2 ∷ 8 ∷ []) ∷ (1 ∷ []) ∷ []
  -- a record without metrics has an empty value format and encoded size 0: SinglePos 1, however many glyphs
  pub no_metric : single_bytes (single 4 empty ∷ []) 0 None [] ≡ big_endian (1 ∷ 0 ∷ 1 ∷ 8 ∷ 1 ∷ 6 ∷ 0 ∷ 1 ∷ 1 ∷ 4 ∷ [])
  -- no rules: no subtable
  pub no_rules : single_bytes [] 0 None [] ≡ big_endian (1 ∷ 0 ∷ 0 ∷ [])

-- ---- glyph pairs of three pairs of value formats: (1, 2) and (2, 2) have an x advance, (1, 3) one on either side, (1, 4) none

abbrev pub three_formats : List (Call PairRule)
three_formats = kern 2 2 (pos 7) ∷ kern 1 2 (pos 5) ∷ glyphs 1 3 (advance (pos 6)) (advance (pos 9)) ∷ glyphs 1 4 empty empty ∷ []

-- formats, first and second glyphs of a pair subtable
abbrev pub shape : PairSubtable → ℕ × ℕ × List (ℕ × ℕ)
shape (glyph_pairs f1 f2 es) = (f1, f2, map (λ e. (e.first, e.second)) es)
shape (class_pairs es) = (0, 0, [])

pub record GlyphPairs : Type 0 where
  pub subtables : map shape (built pair_build (pair_list three_formats) []) ≡ (0, 0, (1, 4) ∷ []) ∷ (4, 0, (1, 2) ∷ (2, 2) ∷ []) ∷ (4, 4, (1, 3) ∷ []) ∷ []
  -- 1 is covered by all three, and the last has the pair
  pub last : pair_meaning (pair_bytes three_formats 0 None []) 0 (1, 3) ≡ Ok (Some (read_advance (pos 6) ∷ read_advance (pos 9) ∷ []))
  pub empty_records : pair_meaning (pair_bytes three_formats 0 None []) 0 (1, 4) ≡ Ok (Some (read_advance (pos 0) ∷ read_advance (pos 0) ∷ []))
  pub none : pair_meaning (pair_bytes three_formats 0 None []) 0 (2, 3) ≡ Ok None
  -- one subtable with two pair sets
  pub bytes : pair_bytes (kern 2 2 (pos 7) ∷ kern 1 2 (pos 5) ∷ []) 0 None []
      ≡ big_endian (2 ∷ 0 ∷ 1 ∷ 8 ∷ 1 ∷ 14 ∷ 4 ∷ 0 ∷ 2 ∷ 22 ∷ 28 ∷ 1 ∷ 2 ∷ 1 ∷ 2 ∷ 1 ∷ 2 ∷ 5 ∷ 1 ∷ 2 ∷ 7 ∷ [])

-- ---- class pairs: first sets {1}, {2}, second sets {10}, {11}; rules for ({1}, {10}) and ({2}, {11})

abbrev pub two_cells : List (Call PairRule)
two_cells = Call.enter_set (1 ∷ []) ∷ Call.enter_set (10 ∷ []) ∷ Call.enter_set (2 ∷ []) ∷ Call.enter_set (11 ∷ []) ∷ class_kern 2 3 (pos 8) ∷ class_kern 0 1 (pos 1) ∷ class_kern 2 3 (pos 2) ∷ []

abbrev pub cells_read : ℕ × ℕ → ℤ → Type 0
cells_read q v = (pair_answer (pair_list two_cells) 0 0 q ≡ Some (says_advance v ∷ says_advance (pos 0) ∷ []))
    × (pair_meaning (pair_bytes two_cells 0 None []) 0 q ≡ Ok (Some (read_advance v ∷ read_advance (pos 0) ∷ [])))

pub record ClassPairs : Type 0 where
  -- {1} has class 0 and is left out of its class definition
  pub class_0 : cells_read (1, 10) (pos 1)
  -- the last rule for the same two sets stands
  pub last_rule : cells_read (2, 11) (pos 2)
  -- a cell without a rule, and a second glyph of no set: zeros
  pub no_rule : cells_read (1, 11) (pos 0) × cells_read (2, 99) (pos 0)
  -- a first glyph of no set: none
  pub none : (pair_answer (pair_list two_cells) 0 0 (3, 10) ≡ None) × (pair_meaning (pair_bytes two_cells 0 None []) 0 (3, 10) ≡ Ok None)
  pub bytes : pair_bytes two_cells 0 None []
      ≡ big_endian (2 ∷ 0 ∷ 1 ∷ 8 ∷ 2 ∷ 28 ∷ 4 ∷ 0 ∷ 36 ∷ 44 ∷ 2 ∷ 3 ∷ 0 ∷ 1 ∷ 0 ∷ 0 ∷ 0 ∷ 2 ∷ 1 ∷ 2 ∷ 1 ∷ 2 ∷ 1 ∷ 2 ∷ 1 ∷ 1 ∷ 1 ∷ 10 ∷ 2 ∷ 1 ∷ 2 ∷ [])
  -- formats are unions: an x advance in one cell and a y advance in another make 0x0C, and each absent metric is 0
  pub unions : pair_bytes (Call.enter_set (1 ∷ []) ∷ Call.enter_set (10 ∷ []) ∷ Call.enter_set (11 ∷ []) ∷ class_kern 0 1 (pos 5) ∷ classes 0 2 (y_advance (alone (pos 6))) empty ∷ []) 0 None []
      ≡ big_endian (2 ∷ 0 ∷ 1 ∷ 8 ∷ 2 ∷ 28 ∷ 12 ∷ 0 ∷ 34 ∷ 38 ∷ 1 ∷ 3 ∷ 0 ∷ 0 ∷ 5 ∷ 0 ∷ 0 ∷ 6 ∷ 1 ∷ 1 ∷ 1 ∷ 2 ∷ 0 ∷ 1 ∷ 10 ∷ 2 ∷ 1 ∷ 2 ∷ [])
  -- a glyph pair rule of the section comes before its groups, and the pair (1, 10) then reads it
  pub pair_first : (pair_answer (pair_list (two_cells ++ (kern 1 10 (pos 77) ∷ []))) 0 0 (1, 10) ≡ Some (says_advance (pos 77) ∷ says_advance (pos 0) ∷ []))
      × (pair_meaning (pair_bytes (two_cells ++ (kern 1 10 (pos 77) ∷ [])) 0 None []) 0 (1, 10) ≡ Ok (Some (read_advance (pos 77) ∷ read_advance (pos 0) ∷ [])))
