-- The answers to calls. A denial tells a word, a place, the part that denied and how many layers passed it up.
use Rattle.std.specs.Prelude.{ℕ, ◌+◌, min, Bool, true, false, ◌&&◌, ◌||◌, List, Some, None, codes, Option, ◌==◌, nat_le, nat_lt}

pub data Word : Type 0 where
  bad_set bad_device bad_deltas unknown_entry full no_section bad_flags store_full : Word
  too_many too_far short_output broken_table unknown_id : Word

-- the number of a word; 0 is that of `taken`, which denies nothing
abbrev pub number : Word → ℕ
number bad_set = 1
number bad_device = 2
number bad_deltas = 3
number unknown_entry = 4
number full = 5
number no_section = 6
number bad_flags = 7
number store_full = 8
number too_many = 9
number too_far = 10
number short_output = 11
number broken_table = 12
number unknown_id = 13

-- the characters of its text
abbrev pub text : Word → List ℕ
text bad_set = codes "bad set"
text bad_device = codes "bad device"
text bad_deltas = codes "bad deltas"
text unknown_entry = codes "unknown entry"
text full = codes "full"
text no_section = codes "no section"
text bad_flags = codes "bad flags"
text store_full = codes "store full"
text too_many = codes "too many"
text too_far = codes "too far"
text short_output = codes "short output"
text broken_table = codes "broken table"
text unknown_id = codes "unknown id"

-- the part that denied: an interner of the lookup (sets, devices, deltas), its ordered table (rules), the lookup itself, a
-- variation store, the writer or the reader
pub data Part : Type 0 where
  sets devices deltas rules lookup store writer reader : Part

abbrev pub part_text : Part → List ℕ
part_text sets = codes "sets"
part_text devices = codes "devices"
part_text deltas = codes "deltas"
part_text rules = codes "rules"
part_text lookup = codes "lookup"
part_text store = codes "store"
part_text writer = codes "writer"
part_text reader = codes "reader"

pub record Denial : Type 0 where
  pub word : Word
  pub place : ℕ
  pub part : Part
  pub depth : ℕ

-- a denial where it arises, and one layer further up: the depth stays at 65,535 once there
abbrev pub arises : Word → ℕ → Part → Denial
arises w k p = record { word = w; place = k; part = p; depth = 0 }

abbrev pub passed : Denial → Denial
passed d = record { word = d.word; place = d.place; part = d.part; depth = min 65535 (d.depth + 1) }

-- a denial that passes n layers
abbrev pub passed_by : ℕ → Denial → Denial
passed_by n d = record { word = d.word; place = d.place; part = d.part; depth = min 65535 (d.depth + n) }

-- a reading that ended at a byte position
abbrev pub broken : ℕ → Denial
broken k = arises broken_table k reader

-- of two denials whose conditions hold the one of the lower word is told, then the one of the lower place
abbrev pub wins : Denial → Denial → Bool
wins d e = nat_lt (number d.word) (number e.word) || (number d.word == number e.word && nat_le d.place e.place)

abbrev pub prevailing : Option Denial → Option Denial → Option Denial
prevailing None e = e
prevailing (Some d) None = Some d
prevailing (Some d) (Some e) = elim (wins d e) [ true ↦ Some d | false ↦ Some e ]

-- a denial if its condition holds, or if there is an offending place
abbrev pub when : Bool → Denial → Option Denial
when true d = Some d
when false d = None

abbrev pub at_place : Word → Part → Option ℕ → Option Denial
at_place w p None = None
at_place w p (Some k) = Some (arises w k p)

abbrev pub passed_up : Option Denial → Option Denial
passed_up None = None
passed_up (Some d) = Some (passed d)

-- the answer to a call: accepted, for an entry with its number, or denied
pub data Answer : Type 0 where
  taken : Answer
  entered : ℕ → Answer
  denied : Denial → Answer

abbrev pub answer_number : Answer → ℕ
answer_number taken = 0
answer_number (entered n) = 0
answer_number (denied d) = number d.word

abbrev pub answer_text : Answer → List ℕ
answer_text taken = codes "taken"
answer_text (entered n) = codes "taken"
answer_text (denied d) = text d.word

abbrev pub is_denied : Answer → Bool
is_denied taken = false
is_denied (entered n) = false
is_denied (denied d) = true
