-- Each part of a subtable reads back, wherever in the bytes it stands.
use Rattle.std.specs.Prelude.{◌≡◌, ℕ, ◌+◌, ◌<◌, List, map, length, pos, Ok}
use Rattle.spec.specs.Fields.{Stand}
use Rattle.spec.specs.Entries.{Device, value_at}
use Rattle.spec.specs.Values.{ValueRecord, DeviceOrVariationIndex, device, variation_index}
use Rattle.spec.specs.Coverage.{coverage_index}
use Rattle.spec.specs.Classes.{class_at}
use Rattle.spec.specs.Build.{BuiltPair}
use Rattle.spec.specs.Bytes
use Rattle.spec.specs.Meaning
use Rattle.spec.specs.Bytes.{Table, head, Below, Lies, coverage, class_def, beside_table, pair_set_table}
use Rattle.spec.specs.Meaning.{no_id, covered, class, beside, pair_search}
use Rattle.laws.specs.Conditions.{Rising, FitsDevice, FitsRecord, HasFields, PairsOf}
use Rattle.laws.specs.Descriptions.{record_read, second_read}

-- a device table gives, for every pixel size, the device's value and no id. It is 0 outside the device's sizes
abbrev pub DeviceReads : Type 0
DeviceReads = (bs : List ℕ) (at size : ℕ) (d : Device) → FitsDevice d → Lies bs at (beside_table (device d)) → beside bs size at ≡ Ok (value_at d size, no_id)

-- the three fields of a variation index table give its id back, whichever it is, and no device value
abbrev pub VariationIndexReads : Type 0
VariationIndexReads = (bs : List ℕ) (at size n : ℕ) → Lies bs at (beside_table (variation_index n)) → beside bs size at ≡ Ok (pos 0, n)

-- a coverage table gives each glyph its place among the covered glyphs, or none. They need not rise: of a glyph that is listed
-- twice it is the first place
abbrev pub CoverageReads : Type 0
CoverageReads = (bs : List ℕ) (at : ℕ) (gs : List ℕ) (g : ℕ) → Lies bs at (coverage gs) → covered bs at g ≡ Ok (coverage_index gs g)

-- a class definition gives each glyph the class listed for it, or 0. The glyphs listed must rise, since format 1 lists all between
-- the first and the last
abbrev pub ClassReads : Type 0
ClassReads = (bs : List ℕ) (at : ℕ) (ps : List (ℕ × ℕ)) (g : ℕ) → Rising (map (λ p. p.0) ps) → Lies bs at (class_def ps) → class bs at g ≡ Ok (class_at ps g)

-- what is left of a table that lies at `base`: its fields stand from position k on, and its children lie from offset `at` on
abbrev pub RestLies : List ℕ → ℕ → ℕ → ℕ → Table → Type 0
RestLies bs base at k t = Stand bs k (head at t) × Below bs base at t

-- a record inside a table, in any value format that has its fields, gives each metric's default, device value and id. Its
-- devices are children of the table, at offsets that are not 0
abbrev pub RecordReads : Type 0
RecordReads = (bs : List ℕ) (size base at k f : ℕ) (r : ValueRecord DeviceOrVariationIndex) (t : Table) → FitsRecord r → HasFields f r → 0 < at
    → RestLies bs base at k (Bytes.values f r t) → Meaning.values bs size base k f ≡ Ok (record_read size r)

-- in a pair set the first pair with the second glyph is found, or none
abbrev pub PairSetReads : Type 0
PairSetReads = (bs : List ℕ) (size h at f1 f2 : ℕ) (es : List BuiltPair) → PairsOf f1 f2 es → Lies bs at (pair_set_table f1 f2 es)
    → pair_search bs size h f1 f2 at (at + 2) (length es) ≡ Ok (second_read size h es)
