-- What the lines of a file say one after another.
use Rattle.std.specs.Prelude.{ℕ, Bool, cond, List, [], ◌∷◌, ◌++◌, map, length, drop, is_some, Some, None, Ok, Err, vec_items, Option, Result, ◌==◌}
use Rattle.rulefile.specs.declared.fault.Fault.{Fault}
use Rattle.rulefile.specs.declared.fault.Fault.TheVariants as fault
use Rattle.rulefile.specs.declared.keywords.Keyword.{Keyword}
use Rattle.rulefile.specs.declared.keywords.Keyword.TheVariants as keyword
use Rattle.rulefile.specs.declared.keywords.RuleKind.{RuleKind}
use Rattle.rulefile.specs.declared.keywords.RuleKind.TheVariants as rule
use Rattle.rulefile.specs.declared.parser.Parser.{Parser}
use Rattle.rulefile.specs.declared.rules.EntryKind.{EntryKind}
use Rattle.rulefile.specs.declared.rules.Line.{Line}
use Rattle.rulefile.specs.declared.rules.Lookup.{Lookup}
use Rattle.rulefile.specs.declared.rules.LookupKind.{LookupKind}
use Rattle.rulefile.specs.declared.rules.LookupKind.TheVariants as kind
use Rattle.rulefile.specs.declared.rules.Statement.{Statement}
use Rattle.rulefile.specs.declared.rules.Statement.TheVariants as statement
use Rattle.rulefile.specs.declared.rules.Storage.{Storage}
use Rattle.rulefile.specs.declared.rules.StoreKind.{StoreKind}
use Rattle.rulefile.specs.Entries.{Said, entry_of, fresh_name, said}
use Rattle.rulefile.specs.Keywords.{keyword_of}
use Rattle.rulefile.specs.Names.{Named, name_given, names_in}
use Rattle.rulefile.specs.Outcomes.{then}
use Rattle.rulefile.specs.Statements.{class_of, lookup_of, no_more, pair_of, question_of, single_of, store_of}
use Rattle.rulefile.specs.Storages.{storage_of}
use Rattle.rulefile.specs.Words.{word, words_of}

-- what a line says, with its number
pub record Told : Type 0 where
  pub line : ℕ
  pub says : Said

-- what a line that was read says
abbrev pub told : Line → Told
told l = record { line = l.number; says = said l.statement }

-- what the lines so far have said
pub record State : Type 0 where
  pub storage : Option Storage
  pub store : Option StoreKind
  pub lookup : Option Lookup
  pub entries : List Named
  pub statements : List Told

-- what has been read so far
abbrev pub state_of : Parser → State
state_of p = record {
  storage = p.storage;
  store = p.store;
  lookup = p.lookup;
  entries = names_in p.names;
  statements = map told (vec_items p.statements);
}

-- `storage` and `store` stand before `lookup`, each at most once
abbrev pub before_lookup : Bool → Bool → Result (Unit {0}) Fault
before_lookup opened given = cond opened (Err fault.AfterLookup) (cond given (Err fault.Twice) (Ok tt))

-- the state after `storage`
abbrev pub storage_step : State → List (List ℕ) → Result State Fault
storage_step s ws =
    then (before_lookup (is_some s.lookup) (is_some s.storage)) (λ _.
    then (storage_of ws) (λ x.
    Ok (record { storage = Some x; store = s.store; lookup = s.lookup; entries = s.entries; statements = s.statements })))

-- the state after `store`
abbrev pub store_step : State → List (List ℕ) → Result State Fault
store_step s ws =
    then (before_lookup (is_some s.lookup) (is_some s.store)) (λ _.
    then (store_of ws) (λ x.
    Ok (record { storage = s.storage; store = Some x; lookup = s.lookup; entries = s.entries; statements = s.statements })))

-- `lookup` stands once
abbrev pub lookup_step : State → List (List ℕ) → Result State Fault
lookup_step s ws =
    cond (is_some s.lookup) (Err fault.Twice)
    (then (lookup_of ws) (λ x.
    Ok (record { storage = s.storage; store = s.store; lookup = Some x; entries = s.entries; statements = s.statements })))

-- `single` stands in single lookups only, `pair` and `class` in pair lookups only
abbrev pub rule_of : List Named → LookupKind → RuleKind → List (List ℕ) → Result Statement Fault
rule_of es kind.Single rule.Single ws = single_of es ws
rule_of es kind.Pair rule.Single ws = Err fault.SingleOnly
rule_of es kind.Single rule.Pair ws = Err fault.PairOnly
rule_of es kind.Pair rule.Pair ws = pair_of es ws
rule_of es kind.Single rule.Class ws = Err fault.PairOnly
rule_of es kind.Pair rule.Class ws = class_of es ws
rule_of es k rule.Break ws = then (no_more (drop 1 ws)) (λ _. Ok statement.Break)
rule_of es k rule.Build ws = then (no_more (drop 1 ws)) (λ _. Ok statement.Build)
rule_of es k rule.Ask ws = then (question_of k ws) (λ q. Ok (statement.Ask q))

-- the state with one statement more
abbrev pub and_says : State → ℕ → Said → State
and_says s n x = record {
  storage = s.storage;
  store = s.store;
  lookup = s.lookup;
  entries = s.entries;
  statements = s.statements ++ record { line = n; says = x } ∷ [];
}

-- the state with one name more
abbrev pub and_names : State → Named → State
and_names s e = record {
  storage = s.storage;
  store = s.store;
  lookup = s.lookup;
  entries = s.entries ++ e ∷ [];
  statements = s.statements;
}

-- every statement but `storage` and `store` stands after `lookup`
abbrev pub in_lookup : {X : Type 0} → Option Lookup → (LookupKind → Result X Fault) → Result X Fault
in_lookup None f = Err fault.NoLookup
in_lookup (Some l) f = f l.kind

-- a rule, a section, a build or a question, after `lookup`
abbrev pub rule_here : State → RuleKind → List (List ℕ) → Result Statement Fault
rule_here s r ws = in_lookup s.lookup (λ k. rule_of s.entries k r ws)

-- the state after one of these
abbrev pub rule_step : State → ℕ → RuleKind → List (List ℕ) → Result State Fault
rule_step s n r ws = then (rule_here s r ws) (λ x. Ok (and_says s n (said x)))

-- a name may be given after `lookup`, once
abbrev pub may_enter : State → List ℕ → Result (Unit {0}) Fault
may_enter s w = in_lookup s.lookup (λ _. fresh_name s.entries w)

-- an entry's place is how many names were given before it
abbrev pub entry_here : State → EntryKind → List (List ℕ) → Result Said Fault
entry_here s k ws = then (may_enter s (word ws 1)) (λ _. entry_of k (length s.entries) ws)

-- the state after `set`, `device` or `deltas`
abbrev pub enter_step : State → ℕ → EntryKind → List (List ℕ) → Result State Fault
enter_step s n k ws = then (entry_here s k ws) (λ x. Ok (and_says (and_names s (name_given k n (word ws 1))) n x))

-- the state after a line, by the statement that its first word stands for
abbrev pub keyword_step : State → ℕ → List (List ℕ) → Option Keyword → Result State Fault
keyword_step s n ws None = Err fault.Statement
keyword_step s n ws (Some keyword.Storage) = storage_step s ws
keyword_step s n ws (Some keyword.Store) = store_step s ws
keyword_step s n ws (Some keyword.Lookup) = lookup_step s ws
keyword_step s n ws (Some (keyword.Entry k)) = enter_step s n k ws
keyword_step s n ws (Some (keyword.Rule r)) = rule_step s n r ws

-- the state after a line that has words
abbrev pub statement_step : State → ℕ → List (List ℕ) → Result State Fault
statement_step s n ws = keyword_step s n ws (keyword_of (word ws 0))

-- a line with no word says nothing
abbrev pub line_step : State → ℕ → List ℕ → Result State Fault
line_step s n line = cond (length (words_of line) == 0) (Ok s) (statement_step s n (words_of line))
