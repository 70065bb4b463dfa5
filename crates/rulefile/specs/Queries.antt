-- What a program asks of a file that was read.
use Rattle.std.specs.Prelude.{ℕ, Bool, false, ◌||◌, List, Some, None, Option, ◌==◌, count_by}
use Rattle.rulefile.specs.declared.rules.Metric.{Metric}
use Rattle.rulefile.specs.declared.rules.Record.{Record}
use Rattle.rulefile.specs.declared.rules.Records.{Records}
use Rattle.rulefile.specs.declared.rules.Reference.{Reference}
use Rattle.rulefile.specs.declared.rules.Reference.TheVariants.{DeviceNumber, DeltasNumber, Entered}
use Rattle.rulefile.specs.declared.rules.SetReference.{SetReference}
use Rattle.rulefile.specs.declared.rules.SetReference.TheVariants.{SetNumber, EnteredSet}
use Rattle.rulefile.specs.declared.rules.StatementKind.{StatementKind}
use Rattle.rulefile.specs.declared.rules.StatementKind.TheVariants.{Set, Device, Deltas, Single, Pair, Class, Break, Build, Ask}
use Rattle.rulefile.specs.Entries.{Said, a_set, a_device, a_delta_list, a_single, a_pair, a_class, a_break, a_build, a_question}
use Rattle.rulefile.specs.Steps.{Told}

-- which kind of statement it is
abbrev pub kind_of : Said → StatementKind
kind_of (a_set e gs) = Set
kind_of (a_device e a b vs) = Device
kind_of (a_delta_list e ds) = Deltas
kind_of (a_single g r) = Single
kind_of (a_pair a b r) = Pair
kind_of (a_class a b r) = Class
kind_of a_break = Break
kind_of a_build = Build
kind_of (a_question q) = Ask

-- the place of a kind, by which kinds are compared
abbrev pub kind_place : StatementKind → ℕ
kind_place Set = 0
kind_place Device = 1
kind_place Deltas = 2
kind_place Single = 3
kind_place Pair = 4
kind_place Class = 5
kind_place Break = 6
kind_place Build = 7
kind_place Ask = 8

-- a statement is of a kind
abbrev pub is_kind : StatementKind → Said → Bool
is_kind k x = kind_place (kind_of x) == kind_place k

-- what a line says is of a kind
abbrev pub of_kind : StatementKind → Told → Bool
of_kind k t = is_kind k t.says

-- a device or a delta list stands beside a metric by its name
abbrev pub reference_uses : Option Reference → ℕ → Bool
reference_uses None e = false
reference_uses (Some (DeviceNumber n)) e = false
reference_uses (Some (DeltasNumber n)) e = false
reference_uses (Some (Entered place)) e = place == e

-- a metric refers to an entry by its name
abbrev pub metric_uses : Option Metric → ℕ → Bool
metric_uses None e = false
metric_uses (Some m) e = reference_uses m.beside e

-- one of the four metrics does
abbrev pub record_uses : Record → ℕ → Bool
record_uses r e = metric_uses r.x_advance e || (metric_uses r.y_advance e || (metric_uses r.x_placement e || metric_uses r.y_placement e))

-- one of the two records does
abbrev pub records_use : Records → ℕ → Bool
records_use r e = record_uses r.first e || record_uses r.second e

-- a set is given by its name
abbrev pub set_uses : SetReference → ℕ → Bool
set_uses (SetNumber n) e = false
set_uses (EnteredSet place) e = place == e

-- a rule refers to an entry by its name
abbrev pub statement_uses : Said → ℕ → Bool
statement_uses (a_set x gs) e = false
statement_uses (a_device x a b vs) e = false
statement_uses (a_delta_list x ds) e = false
statement_uses (a_single g r) e = record_uses r e
statement_uses (a_pair a b r) e = records_use r e
statement_uses (a_class a b r) e = set_uses a e || (set_uses b e || records_use r e)
statement_uses a_break e = false
statement_uses a_build e = false
statement_uses (a_question q) e = false

-- what a line says refers to an entry by its name
abbrev pub using_entry : ℕ → Told → Bool
using_entry e t = statement_uses t.says e

-- how many of a list pass a test
abbrev pub how_many : {X : Type 0} → (X → Bool) → List X → ℕ
how_many test xs = count_by test xs
