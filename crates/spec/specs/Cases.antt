-- Short forms in which the examples are written.
use Rattle.std.specs.Prelude.{ℕ, List, [], ◌∷◌, map, ℤ, pos, Some, None, Option}
use Rattle.spec.specs.Entries.{Delta}
use Rattle.spec.specs.Values.{Metric, ValueRecord, DeviceOrDeltas, device#, deltas#, empty}
use Rattle.spec.specs.Rules.{Call, RuleList, Capacity, opened, after_all, answers}
use Rattle.spec.specs.Kinds.{SingleRule, PairRule, single_rules, pair_rules}
use Rattle.spec.specs.ListAnswer.{Adjustment}
use Rattle.spec.specs.Build.{built, single_build, pair_build}
use Rattle.spec.specs.Bytes.{lookup_bytes, single_table, pair_table}
use Rattle.spec.specs.Meaning.{ReadMetric, no_id}

-- ---- metrics and records of rules

abbrev pub alone : ℤ → Option (Metric DeviceOrDeltas)
alone v = Some (record { default = v; beside = None })

abbrev pub with_device : ℤ → ℕ → Option (Metric DeviceOrDeltas)
with_device v n = Some (record { default = v; beside = Some (device# n) })

abbrev pub with_deltas : ℤ → ℕ → Option (Metric DeviceOrDeltas)
with_deltas v n = Some (record { default = v; beside = Some (deltas# n) })

abbrev pub x_advance : Option (Metric DeviceOrDeltas) → ValueRecord DeviceOrDeltas
x_advance m = record { x_advance = m; y_advance = None; x_placement = None; y_placement = None }

abbrev pub y_advance : Option (Metric DeviceOrDeltas) → ValueRecord DeviceOrDeltas
y_advance m = record { x_advance = None; y_advance = m; x_placement = None; y_placement = None }

abbrev pub y_placement : Option (Metric DeviceOrDeltas) → ValueRecord DeviceOrDeltas
y_placement m = record { x_advance = None; y_advance = None; x_placement = None; y_placement = m }

-- ---- calls

abbrev pub entry : ℕ → ℤ → Delta
entry r d = record { region = r; delta = d }

abbrev pub single : ℕ → ValueRecord DeviceOrDeltas → Call SingleRule
single g v = Call.insert (record { glyph = g; values = v })

abbrev pub glyphs : ℕ → ℕ → ValueRecord DeviceOrDeltas → ValueRecord DeviceOrDeltas → Call PairRule
glyphs g h v w = Call.insert (PairRule.glyphs (record { first = g; second = h; values1 = v; values2 = w }))

abbrev pub classes : ℕ → ℕ → ValueRecord DeviceOrDeltas → ValueRecord DeviceOrDeltas → Call PairRule
classes s t v w = Call.insert (PairRule.classes (record { first = s; second = t; values1 = v; values2 = w }))

-- a kern: the x advance of the first glyph
abbrev pub kern : ℕ → ℕ → ℤ → Call PairRule
kern g h v = glyphs g h (x_advance (alone v)) empty

abbrev pub class_kern : ℕ → ℕ → ℤ → Call PairRule
class_kern s t v = classes s t (x_advance (alone v)) empty

-- ---- what calls come to, with ample storage

abbrev pub ample : Capacity
ample = record { sets = 99; set_pool = 99; devices = 99; device_pool = 99; deltas = 99; delta_pool = 99; rules = 99 }

abbrev pub single_list : List (Call SingleRule) → RuleList SingleRule
single_list cs = after_all opened cs (answers single_rules ample opened cs)

abbrev pub pair_list : List (Call PairRule) → RuleList PairRule
pair_list cs = after_all opened cs (answers pair_rules ample opened cs)

-- the bytes of their build, with flags, mark filtering set and the ids that a store answered
abbrev pub single_bytes : List (Call SingleRule) → ℕ → Option ℕ → List ℕ → List ℕ
single_bytes cs flags mark ids = lookup_bytes 1 flags mark (map single_table (built single_build (single_list cs) ids))

abbrev pub pair_bytes : List (Call PairRule) → ℕ → Option ℕ → List ℕ → List ℕ
pair_bytes cs flags mark ids = lookup_bytes 2 flags mark (map pair_table (built pair_build (pair_list cs) ids))

-- ---- what the list says, and what is read

abbrev pub says : ℤ → ℤ → ℤ → Adjustment
says a b c = record { default = a; device = b; delta = c }

abbrev pub plain : ℤ → Adjustment
plain a = says a (pos 0) (pos 0)

abbrev pub reads : ℤ → ℤ → ℕ → ReadMetric
reads a b c = record { default = a; device = b; id = c }

abbrev pub read : ℤ → ReadMetric
read a = reads a (pos 0) no_id

-- a record whose x advance alone is not 0
abbrev pub says_advance : ℤ → List Adjustment
says_advance v = plain v ∷ plain (pos 0) ∷ plain (pos 0) ∷ plain (pos 0) ∷ []

abbrev pub read_advance : ℤ → List ReadMetric
read_advance v = read v ∷ read (pos 0) ∷ read (pos 0) ∷ read (pos 0) ∷ []
