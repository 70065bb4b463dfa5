-- What the text of a rule file says.
use Rattle.std.specs.Prelude.{◌≡◌, ℕ, ◌+◌, ◌<◌, ◌≤◌, true, false, List, [], ◌∷◌, ◌++◌, map, length, Some, None, Ok, Err, vec_items, Option, Result, ◌==◌}
use Rattle.std.specs.Option.{unwrap_or}
use Rattle.rulefile.specs.declared.fault.Fault.{Fault}
use Rattle.rulefile.specs.declared.fault.Fault.TheVariants as fault
use Rattle.rulefile.specs.declared.fault.Stop.{Stop}
use Rattle.rulefile.specs.declared.fault.Stop.TheVariants as stop
use Rattle.rulefile.specs.declared.rules.Error.{Error}
use Rattle.rulefile.specs.declared.rules.Error.TheVariants.{Memory, Wrong}
use Rattle.rulefile.specs.declared.rules.Lookup.{Lookup}
use Rattle.rulefile.specs.declared.rules.Mistake.{Mistake}
use Rattle.rulefile.specs.declared.rules.RuleFile.{RuleFile}
use Rattle.rulefile.specs.declared.rules.Storage.{Storage}
use Rattle.rulefile.specs.declared.rules.StoreKind.{StoreKind}
use Rattle.rulefile.specs.declared.rules.StoreKind.TheVariants as store
use Rattle.rulefile.specs.Names.{Named, named}
use Rattle.rulefile.specs.Steps.{State, Told, line_step, told}
use Rattle.rulefile.specs.Storages.{no_keys, storage_from}

-- the lines of a text, where `line` is what has been read of the first; what follows the last line end is a line too
abbrev pub lines_after : List ℕ → List ℕ → List (List ℕ)
lines_after line [] = line ∷ []
lines_after line (b ∷ bs) = elim (b == 10) [ true ↦ line ∷ lines_after [] bs | false ↦ lines_after (line ++ b ∷ []) bs ]

-- the lines of a text
abbrev pub lines_of : List ℕ → List (List ℕ)
lines_of text = lines_after [] text

-- before the first line
abbrev pub nothing : State
nothing = record { storage = None; store = None; lookup = None; entries = []; statements = [] }

-- go on after a line, or stop at the first that is wrong
abbrev pub at_line : {X : Type 0} → ℕ → Result State Fault → (State → Result X Mistake) → Result X Mistake
at_line n (Ok s) f = f s
at_line n (Err e) f = Err (record { line = n; fault = e })

-- what the lines say, the first of which has the number n
abbrev pub lines_from : State → ℕ → List (List ℕ) → Result State Mistake
lines_from s n [] = Ok s
lines_from s n (l ∷ ls) = at_line n (line_step s n l) (λ more. lines_from more (n + 1) ls)

-- what a file says
pub record File : Type 0 where
  pub storage : Storage
  pub store : StoreKind
  pub lookup : Lookup
  pub entries : List Named
  pub statements : List Told

-- what a file that was read says
abbrev pub file_of : RuleFile → File
file_of f = record {
  storage = f.storage;
  store = f.store;
  lookup = f.lookup;
  entries = map named (vec_items f.entries);
  statements = map told (vec_items f.statements);
}

-- a file without `lookup` is wrong at its last line
abbrev pub opened : ℕ → State → Option Lookup → Result File Mistake
opened n s None = Err (record { line = n; fault = fault.NoLookup })
opened n s (Some l) = Ok (record {
  storage = unwrap_or s.storage (storage_from no_keys);
  store = unwrap_or s.store store.TrimSharing;
  lookup = l;
  entries = s.entries;
  statements = s.statements;
})

-- what a file says whose n lines have said s
abbrev pub finished : ℕ → State → Result File Mistake
finished n s = opened n s s.lookup

-- go on after the last line, unless a line is wrong
abbrev pub afterwards : Result State Mistake → (State → Result File Mistake) → Result File Mistake
afterwards (Ok s) f = f s
afterwards (Err m) f = Err m

-- what a text says, or its first mistake
abbrev pub parsed : List ℕ → Result File Mistake
parsed text = afterwards (lines_from nothing 1 (lines_of text)) (finished (length (lines_of text)))

-- What a function answers that may run out of memory: what is due, or the mistake; nothing is said where memory ran out.
abbrev pub Parsed : {X Y : Type 0} → (X → Y) → Result X Error → Result Y Mistake → Type 0
Parsed view (Ok x) due = Ok (view x) ≡ due
Parsed view (Err Memory) due = Unit {0}
Parsed view (Err (Wrong m)) due = Err m ≡ due

-- why a file is not read, where reading stopped at the line n
abbrev pub error_at : ℕ → Stop → Error
error_at n stop.Memory = Memory
error_at n (stop.Wrong f) = Wrong (record { line = n; fault = f })

-- every statement stands on a later line than the one before it, and the first after the line n
abbrev pub Rises : ℕ → List Told → Type 0
Rises n [] = Unit {0}
Rises n (t ∷ ts) = (n < t.line) × Rises t.line ts

-- a mistake is on one of n lines
abbrev pub Within : ℕ → Error → Type 0
Within n Memory = Unit {0}
Within n (Wrong m) = (1 ≤ m.line) × (m.line ≤ n)
