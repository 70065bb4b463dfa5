-- THE PROMISE of a replay: calls, build, write and reading, over any kind of lookup and any store.
use Rattle.std.specs.Prelude.{◌≡◌, ℕ, ◌<◌, true, false, ◌&&◌, List, [], ◌∷◌, ◌++◌, map, length, drop, replicate, ℤ, pos, Some, None, Ok, Err, Option, Result, ◌==◌, ◌≢◌, nat_eq, slice_index_or}
use Rattle.spec.specs.Lists.{keep, count, sum_of, any, one_if, has, Every}
use Rattle.spec.specs.Denials.{Denial, Answer, number, passed}
use Rattle.spec.specs.Classes.{class_of}
use Rattle.spec.specs.Rules.{Call, RuleList, Capacity, sections, opened, open_denial}
use Rattle.spec.specs.Kinds.{SingleRule, PairRule, glyph_rules, single_rules, pair_rules}
use Rattle.spec.specs.ListAnswer.{Adjustment, single_answer, pair_answer}
use Rattle.spec.specs.Build.{BuiltSingle, PairSubtable, built, built_sections, single_build, pair_build, first_glyphs, pair_set}
use Rattle.spec.specs.Bytes.{lookup_bytes, write_denial, side, single_table, pair_table}
use Rattle.spec.specs.Meaning.{ReadMetric, no_id, single_meaning, pair_meaning}
use Rattle.spec.specs.Stores.{Store}
use Rattle.spec.specs.Runs.{Kind, Run, RunsKeep}

-- ---- what is read agrees with the list's answer: metric by metric, record by record. `DeltaIs k d` says that an id has a delta

module _ (DeltaIs : ℕ → ℤ → Type 0) where
  abbrev pub Metrics : List Adjustment → List ReadMetric → Type 0
  Metrics [] [] = Unit {0}
  Metrics [] (r ∷ rs) = ⊥
  Metrics (a ∷ more) [] = ⊥
  Metrics (a ∷ more) (r ∷ rs) = (r.default ≡ a.default) × (r.device ≡ a.device) × DeltaIs r.id a.delta × Metrics more rs

  abbrev pub Records : List (List Adjustment) → List (List ReadMetric) → Type 0
  Records [] [] = Unit {0}
  Records [] (r ∷ rs) = ⊥
  Records (a ∷ more) [] = ⊥
  Records (a ∷ more) (r ∷ rs) = Metrics a r × Records more rs

-- ---- where the rules of a section stand in its subtables

-- each glyph with a rule stands once, any other not at all
abbrev pub SinglesStand : List (List ℕ) → List SingleRule → List (List BuiltSingle) → Type 0
SinglesStand sets rs subs = (g : ℕ) → sum_of (count (λ e. nat_eq e.glyph g)) subs ≡ one_if (any (λ r. nat_eq r.glyph g) rs)

-- how often a second glyph stands in the pair sets of a first glyph
abbrev pub pair_count : ℕ → ℕ → PairSubtable → ℕ
pair_count g h (PairSubtable.glyph_pairs f1 f2 es) = sum_of (λ x. count (λ e. nat_eq e.second h) (pair_set es x)) (keep (λ x. nat_eq x g) (first_glyphs es))
pair_count g h (PairSubtable.class_pairs es) = 0

-- each glyph pair with a rule stands in exactly one pair set, any other in none
abbrev pub PairsStandOnce : List PairRule → List PairSubtable → Type 0
PairsStandOnce rs subs = (g h : ℕ) → sum_of (pair_count g h) subs ≡ one_if (any (λ r. (r.first == g) && r.second == h) (glyph_rules rs))

-- different sets of one side share no glyph and no class number
abbrev pub SetsApart : List (List ℕ) → ℕ → Type 0
SetsApart sets from = (i j : ℕ) → i < length sets → j < length sets → (i ≢ j)
    → ((g : ℕ) → has g (slice_index_or sets i []) ≡ true → has g (slice_index_or sets j []) ≡ false)
    × ((g h : ℕ) → has g (slice_index_or sets i []) ≡ true → has h (slice_index_or sets j []) ≡ true → class_of sets from g ≢ class_of sets from h)

abbrev pub ClassesApart : PairSubtable → Type 0
ClassesApart (PairSubtable.glyph_pairs f1 f2 es) = Unit {0}
ClassesApart (PairSubtable.class_pairs es) = SetsApart (side (map (λ e. e.first) es)) 0 × SetsApart (side (map (λ e. e.second) es)) 1

abbrev pub PairsStand : List (List ℕ) → List PairRule → List PairSubtable → Type 0
PairsStand sets rs subs = PairsStandOnce rs subs × Every ClassesApart subs

-- section by section
abbrev pub EachSection : {R O : Type 0} → (List R → List O → Type 0) → List (List R) → List (List O) → Type 0
EachSection P [] [] = Unit {0}
EachSection P [] (o ∷ os) = ⊥
EachSection P (r ∷ rs) [] = ⊥
EachSection P (r ∷ rs) (o ∷ os) = P r o × EachSection P rs os

-- ---- the two kinds

abbrev pub single_pos : Kind SingleRule ℕ (List BuiltSingle) (List (List Adjustment)) (List (List ReadMetric))
single_pos = record {
  type = 1;
  rules = single_rules;
  builds = single_build;
  table = single_table;
  answers = single_answer;
  means = single_meaning;
  agrees = Records;
  stands = SinglesStand;
}

abbrev pub pair_pos : Kind PairRule (ℕ × ℕ) PairSubtable (List (List Adjustment)) (List (List ReadMetric))
pair_pos = record {
  type = 2;
  rules = pair_rules;
  builds = pair_build;
  table = pair_table;
  answers = pair_answer;
  means = pair_meaning;
  agrees = Records;
  stands = PairsStand;
}

-- ---- what a replay comes to

pub data Outcome : Type 0 where
  not_opened : Denial → Outcome
  not_built : Outcome
  not_written : Denial → Outcome
  written : ℕ → Outcome

-- the number of an outcome: 0 for a lookup that was written or not built, else that of the denial
abbrev pub outcome_number : Outcome → ℕ
outcome_number (not_opened d) = number d.word
outcome_number not_built = 0
outcome_number (not_written d) = number d.word
outcome_number (written n) = 0

-- answers as the replay passes them up
abbrev pub raised : Answer → Answer
raised Answer.taken = Answer.taken
raised (Answer.entered n) = Answer.entered n
raised (Answer.denied d) = Answer.denied (passed d)

-- what an id adds at a region, by what the store s holds: nothing without an id, else the id is held with this delta
abbrev pub StoreDelta : {S : Type 0} → Store S → S → ℕ → ℕ → ℤ → Type 0
StoreDelta m s region k d = elim (k == no_id) [ true ↦ d ≡ pos 0 | false ↦ m.held s k × (m.value s k region ≡ d) ]

-- no fault; none exactly if the list's answer is none; otherwise the same
abbrev pub Agrees : {A B : Type 0} → (A → B → Type 0) → Option A → Result (Option B) ℕ → Type 0
Agrees same a (Err k) = ⊥
Agrees same None (Ok None) = Unit {0}
Agrees same None (Ok (Some b)) = ⊥
Agrees same (Some a) (Ok None) = ⊥
Agrees same (Some a) (Ok (Some b)) = same a b

-- a replay over a store s, which is t at the end, of the calls cs; `recorded` are the answers recorded, `old` and `new` the output
module _ {R Q O A B S : Type 0} (kind : Kind R Q O A B) (m : Store S) (capacity : Capacity) (flags : ℕ) (mark : Option ℕ) (s t : S) (cs : List (Call R)) (recorded : List Answer) (old new : List ℕ) where
  -- the calls ran on an open lookup, from the empty rule list to l, and were answered as the rules say; every id that the store
  -- held at first or after any of these calls keeps its deltas
  pub record Ran (l : RuleList R) (got : Option (List ℕ)) : Type 0 where
    pub flags_fit : open_denial flags mark ≡ None
    pub answers : List Answer
    pub stores : List S
    pub ran : Run kind m capacity opened s cs answers l t stores got
    pub records : recorded ≡ map raised answers
    pub keeps : RunsKeep kind m capacity opened s cs answers t

  abbrev pub Bytes : RuleList R → List ℕ → List ℕ
  Bytes l ids = lookup_bytes kind.type flags mark (map kind.table (built kind.builds l ids))

  abbrev pub Denied : RuleList R → List ℕ → Option Denial
  Denied l ids = write_denial (length old) kind.type flags mark (map kind.table (built kind.builds l ids))

  -- an accepted write: the bytes of the build of this rule list with the ids that the store answered, and their length; what lies
  -- beyond stays
  pub record Written (n : ℕ) : Type 0 where
    pub list : RuleList R
    pub ids : List ℕ
    pub ran : Ran list (Some ids)
    pub accepted : Denied list ids ≡ None
    pub long : n ≡ length (Bytes list ids)
    pub bytes : new ≡ Bytes list ids ++ drop n old
    -- for every question, pixel size and region the bytes answer as the rule list does, and never fault
    pub reads : (q : Q) (size region : ℕ) → Agrees (kind.agrees (StoreDelta m t region)) (kind.answers list size region q) (kind.means (Bytes list ids) size q)
    -- in each section each rule stands once, and sets are kept apart
    pub stands : EachSection (kind.stands list.sets) (sections list) (built_sections kind.builds list ids)

  -- a denied write zeroes the whole output
  pub record NotWritten (d : Denial) : Type 0 where
    pub list : RuleList R
    pub ids : List ℕ
    pub ran : Ran list (Some ids)
    pub which : (e : Denial) × (Denied list ids ≡ Some e) × (d ≡ passed e)
    pub zeroed : new ≡ replicate (length old) 0

  -- before a write begins the output stays
  abbrev pub Promise : Outcome → Type 0
  Promise (not_opened d) = (e : Denial) × (open_denial flags mark ≡ Some e) × (d ≡ passed e) × (recorded ≡ []) × (t ≡ s) × (new ≡ old)
  Promise not_built = ((l : RuleList R) × Ran l None) × (new ≡ old)
  Promise (not_written d) = NotWritten d
  Promise (written n) = Written n
