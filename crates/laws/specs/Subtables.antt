-- Subtables and lookups read as they are described, wherever in the bytes they lie, for every question and pixel size, and never
-- fault.
use Rattle.std.specs.Prelude.{◌≡◌, ℕ, ◌≤◌, List, ◌++◌, map, length, Ok, Option, Result}
use Rattle.spec.specs.Lists.{Every, decided}
use Rattle.spec.specs.Build.{BuiltSingle, BuiltPair, Cell, PairSubtable, class_pairs}
use Rattle.spec.specs.Bytes.{Table, Lies, single_table, glyph_pair_table, class_pair_table, pair_table, lookup_table, lookup_bytes}
use Rattle.spec.specs.Meaning.{single, pair, lookup, single_meaning, pair_meaning}
use Rattle.laws.specs.Conditions.{SinglesOf, PairsOf, Group, FitsPairs}
use Rattle.laws.specs.Descriptions.{single_read, pair_read, pairs_read}

-- SinglePos, in both formats: the record of a glyph, or none. The glyphs need not rise: of a glyph that is listed twice it is
-- the first record
abbrev pub SingleReads : Type 0
SingleReads = (bs : List ℕ) (size g at f : ℕ) (es : List BuiltSingle) → 1 ≤ length es → SinglesOf f es → Lies bs at (single_table es) → single bs size g at ≡ Ok (single_read size g es)

-- PairPos format 1: the two records of the first pair with both glyphs, or none
abbrev pub GlyphPairsRead : Type 0
GlyphPairsRead = (bs : List ℕ) (size at f1 f2 : ℕ) (q : ℕ × ℕ) (es : List BuiltPair) → PairsOf f1 f2 es → Lies bs at (glyph_pair_table f1 f2 es) → pair bs size q at ≡ Ok (pair_read size q es)

-- PairPos format 2: if a first set holds the first glyph, the two records of the first cell whose sets hold both glyphs, or two empty
-- records without such a cell; otherwise none
abbrev pub ClassPairsRead : Type 0
ClassPairsRead = (bs : List ℕ) (size at : ℕ) (q : ℕ × ℕ) (es : List Cell) → Group es → Lies bs at (class_pair_table es) → pair bs size q at ≡ Ok (pairs_read size q (class_pairs es))

-- a lookup, with a mark filtering set or without: the answer of the first subtable that has one. A subtable is anything that has a
-- table and reads, wherever that lies, as it is described
abbrev pub LookupReads : Type 0 → Type 0 → Type 0
LookupReads O A = (bs : List ℕ) (type flags : ℕ) (mark : Option ℕ) (table : O → Table) (try : ℕ → Result (Option A) ℕ) (says : O → Option A) (subs : List O)
    → Every (λ o. (at : ℕ) → Lies bs at (table o) → try at ≡ Ok (says o)) subs → Lies bs 0 (lookup_table type flags mark (map table subs)) → lookup bs type try ≡ Ok (decided says subs)

-- so the bytes of a lookup of SinglePos subtables, whatever stands behind them, give the record of a glyph in the first subtable
-- that has it, or none
abbrev pub SingleLookupReads : Type 0
SingleLookupReads = (back : List ℕ) (size g flags : ℕ) (mark : Option ℕ) (subs : List (List BuiltSingle)) → Every (λ es. (1 ≤ length es) × ((f : ℕ) × SinglesOf f es)) subs
    → single_meaning (lookup_bytes 1 flags mark (map single_table subs) ++ back) size g ≡ Ok (decided (single_read size g) subs)

-- and those of PairPos subtables, of both formats in any order, the two records of two glyphs
abbrev pub PairLookupReads : Type 0
PairLookupReads = (back : List ℕ) (size flags : ℕ) (q : ℕ × ℕ) (mark : Option ℕ) (subs : List PairSubtable) → Every FitsPairs subs
    → pair_meaning (lookup_bytes 2 flags mark (map pair_table subs) ++ back) size q ≡ Ok (decided (pairs_read size q) subs)
