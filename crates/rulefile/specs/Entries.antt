-- What a statement says, and what the words of `set`, `device` and `deltas` stand for.
use Rattle.std.specs.Prelude.{ℕ, cond, List, drop, ℤ, is_some, Ok, Err, vec_items, Result}
use Rattle.rulefile.specs.declared.fault.Fault.{Fault}
use Rattle.rulefile.specs.declared.fault.Fault.TheVariants as fault
use Rattle.rulefile.specs.declared.rules.Delta.{Delta}
use Rattle.rulefile.specs.declared.rules.EntryKind.{EntryKind}
use Rattle.rulefile.specs.declared.rules.EntryKind.TheVariants as entry
use Rattle.rulefile.specs.declared.rules.Question.{Question}
use Rattle.rulefile.specs.declared.rules.Record.{Record}
use Rattle.rulefile.specs.declared.rules.Records.{Records}
use Rattle.rulefile.specs.declared.rules.SetReference.{SetReference}
use Rattle.rulefile.specs.declared.rules.Statement.{Statement}
use Rattle.rulefile.specs.declared.rules.Statement.TheVariants as statement
use Rattle.rulefile.specs.Lists.{delta_of, device_value_of, each, glyph_of}
use Rattle.rulefile.specs.Names.{Named, place_of}
use Rattle.rulefile.specs.Numbers.{unsigned_up_to}
use Rattle.rulefile.specs.Outcomes.{wanted, then}
use Rattle.rulefile.specs.Words.{is_name, word}

-- what a statement says; an entry is the place of its name among the names of the file
pub data Said : Type 0 where
  a_set : ℕ → List ℕ → Said
  a_device : ℕ → ℕ → ℕ → List ℤ → Said
  a_delta_list : ℕ → List Delta → Said
  a_single : ℕ → Record → Said
  a_pair : ℕ → ℕ → Records → Said
  a_class : SetReference → SetReference → Records → Said
  a_break : Said
  a_build : Said
  a_question : Question → Said

-- what a statement that was read says
abbrev pub said : Statement → Said
said (statement.Set e gs) = a_set e (vec_items gs)
said (statement.Device e first last vs) = a_device e first last (vec_items vs)
said (statement.Deltas e ds) = a_delta_list e (vec_items ds)
said (statement.Single g r) = a_single g r
said (statement.Pair a b r) = a_pair a b r
said (statement.Class a b r) = a_class a b r
said statement.Break = a_break
said statement.Build = a_build
said (statement.Ask q) = a_question q

-- a name that is not given above
abbrev pub fresh_name : List Named → List ℕ → Result (Unit {0}) Fault
fresh_name es w = cond (is_name w) (cond (is_some (place_of w es)) (Err fault.NameTwice) (Ok tt)) (Err fault.Name)

-- set NAME GLYPH…
abbrev pub set_entry : ℕ → List (List ℕ) → Result Said Fault
set_entry e ws = then (each glyph_of (drop 2 ws)) (λ gs. Ok (a_set e gs))

-- a pixel size of a device
abbrev pub device_size : List ℕ → Result ℕ Fault
device_size w = wanted (unsigned_up_to 65535 w) fault.DeviceSize

-- device NAME FIRST LAST VALUE…
abbrev pub device_entry : ℕ → List (List ℕ) → Result Said Fault
device_entry e ws =
    then (device_size (word ws 2)) (λ first.
    then (device_size (word ws 3)) (λ last.
    then (each device_value_of (drop 4 ws)) (λ vs.
    Ok (a_device e first last vs))))

-- deltas NAME [REGION:DELTA…]
abbrev pub deltas_entry : ℕ → List (List ℕ) → Result Said Fault
deltas_entry e ws = then (each delta_of (drop 2 ws)) (λ ds. Ok (a_delta_list e ds))

-- the statement of an entry of a kind
abbrev pub entry_of : EntryKind → ℕ → List (List ℕ) → Result Said Fault
entry_of entry.Set e ws = set_entry e ws
entry_of entry.Device e ws = device_entry e ws
entry_of entry.Deltas e ws = deltas_entry e ws
