-- What the names and numbers of sets, devices and delta lists stand for.
use Rattle.std.specs.Prelude.{ℕ, ◌+◌, true, false, cond, List, [], ◌∷◌, drop, map, Some, None, Ok, Err, vec_items, codes, Option, Result, ◌==◌, slice_index}
use Rattle.std.specs.Option.{option_map}
use Rattle.rulefile.specs.declared.names.Found.{Found}
use Rattle.rulefile.specs.declared.names.Names.{Names}
use Rattle.rulefile.specs.declared.rules.Entry.{Entry}
use Rattle.rulefile.specs.declared.rules.EntryKind.{EntryKind}
use Rattle.rulefile.specs.declared.rules.EntryKind.TheVariants.{Set, Device, Deltas}
use Rattle.rulefile.specs.declared.rules.Reference.{Reference}
use Rattle.rulefile.specs.declared.rules.Reference.TheVariants.{DeviceNumber, DeltasNumber, Entered}
use Rattle.rulefile.specs.declared.rules.SetReference.{SetReference}
use Rattle.rulefile.specs.declared.rules.SetReference.TheVariants.{SetNumber, EnteredSet}
use Rattle.rulefile.specs.declared.fault.Fault.{Fault}
use Rattle.rulefile.specs.declared.fault.Fault.TheVariants as fault
use Rattle.rulefile.specs.Numbers.{unsigned_up_to}
use Rattle.rulefile.specs.Outcomes.{wanted}
use Rattle.rulefile.specs.Words.{cut_at, same_word}

-- a name that was given, what it names, and the line that gives it
pub record Named : Type 0 where
  pub kind : EntryKind
  pub line : ℕ
  pub name : List ℕ

-- what an entry that was read names
abbrev pub named : Entry → Named
named e = record { kind = e.kind; line = e.line; name = vec_items e.name }

-- the names that were given
abbrev pub names_in : Names → List Named
names_in n = map named (vec_items n.entries)

-- a name of a kind that the line n gives
abbrev pub name_given : EntryKind → ℕ → List ℕ → Named
name_given k n w = record { kind = k; line = n; name = w }

-- the first entry of a name, where the entries are counted on from `at`
abbrev pub place_from : ℕ → List ℕ → List Named → Option Found
place_from at name [] = None
place_from at name (e ∷ es) = elim (same_word e.name name) [ true ↦ Some (record { entry = at; kind = e.kind }) | false ↦ place_from (at + 1) name es ]

-- the first entry of a name
abbrev pub place_of : List ℕ → List Named → Option Found
place_of name es = place_from 0 name es

-- device#N or deltas#N, where `kind` stands before the # and `number` after it
abbrev pub raw_reference : List ℕ → List ℕ → Result Reference Fault
raw_reference kind number =
    cond (same_word kind (codes "device")) (wanted (option_map DeviceNumber (unsigned_up_to 65535 number)) fault.Reference)
    (cond (same_word kind (codes "deltas")) (wanted (option_map DeltasNumber (unsigned_up_to 65535 number)) fault.Reference) (Err fault.Reference))

-- a name that stands for a device or a delta list
abbrev pub entered : Option Found → Result Reference Fault
entered None = Err fault.UnknownName
entered (Some f) = elim f.kind [ Set ↦ Err fault.NameOfSet | Device ↦ Ok (Entered f.entry) | Deltas ↦ Ok (Entered f.entry) ]

-- a device or a delta list: device#N, deltas#N or a name
abbrev pub reference_of : List Named → List ℕ → Result Reference Fault
reference_of es w = cut_at 35 w raw_reference (entered (place_of w es))

-- a name that stands for a set
abbrev pub entered_set : Option Found → Result SetReference Fault
entered_set None = Err fault.UnknownName
entered_set (Some f) = elim f.kind [ Set ↦ Ok (EnteredSet f.entry) | Device ↦ Err fault.NotSet | Deltas ↦ Err fault.NotSet ]

-- #N, where `number` stands after the #
abbrev pub raw_set : List ℕ → Result SetReference Fault
raw_set number = wanted (option_map SetNumber (unsigned_up_to 65535 number)) fault.NotSet

-- a set: #N or a name
abbrev pub set_reference_of : List Named → List ℕ → Result SetReference Fault
set_reference_of es w = cond (slice_index w 0 == 35) (raw_set (drop 1 w)) (entered_set (place_of w es))
