-- The whole way from the rule list to the reading of the written bytes, over any kind of lookup and any store.
use Rattle.std.specs.Prelude.{ℕ, List, map, Some, Option}
use Rattle.spec.specs.Lists.{Every}
use Rattle.spec.specs.Denials.{Answer}
use Rattle.spec.specs.Rules.{Call, RuleList, Capacity, opened, sections}
use Rattle.spec.specs.Build.{built, built_sections, lists_to_add}
use Rattle.spec.specs.Bytes.{lookup_bytes}
use Rattle.spec.specs.Stores.{Store, Holds}
use Rattle.spec.specs.Runs.{Kind, Run, RunsKeep}
use Rattle.spec.specs.Promise.{StoreDelta, Agrees, EachSection}
use Rattle.list_laws.specs.Answering.{Matched}
use Rattle.laws.specs.Made.{Made, FitsCall}

module _ {R Q O A B S : Type 0} (kind : Kind R Q O A B) (m : Store S) where
  -- the bytes of the build of l with these ids answer every question at every size and region as the rule list does, by what the
  -- store t holds: no fault, none exactly if the list says none, and otherwise the same default, device value and delta
  abbrev pub AnswersAsList : S → RuleList R → List ℕ → Type 0
  AnswersAsList t l ids = (flags : ℕ) (mark : Option ℕ) (q : Q) (size region : ℕ)
      → Agrees (kind.agrees (StoreDelta m t region)) (kind.answers l size region q) (kind.means (lookup_bytes kind.type flags mark (map kind.table (built kind.builds l ids))) size q)

  -- THE BYTES ANSWER AS THE LIST: for every rule list that calls can make, and all ids under which the store holds the delta lists
  -- that its build hands over. (Numbers that do not fit their fields are no bytes; then the write is denied.)
  abbrev pub BytesAnswer : Type 0
  BytesAnswer = (t : S) (l : RuleList R) (ids : List ℕ) → Made kind.rules l → Matched (Holds m t) ids (lists_to_add kind.builds l) → AnswersAsList t l ids

  -- what a run up to an accepted build comes to: the bytes answer as the list; in each section rules stand once and sets are kept apart;
  -- and every id that the store held at first or after any call keeps its deltas
  pub record OutcomeOfRun (capacity : Capacity) (s t : S) (cs : List (Call R)) (ans : List Answer) (l : RuleList R) (ids : List ℕ) : Type 0 where
    pub reads : AnswersAsList t l ids
    pub stands : EachSection (kind.stands l.sets) (sections l) (built_sections kind.builds l ids)
    pub keeps : RunsKeep kind m capacity opened s cs ans t

  -- THE SAME OF RUNS: any calls in any order on an opened lookup, with arguments as their types allow
  abbrev pub RunsAnswer : Type 0
  RunsAnswer = (capacity : Capacity) (s t : S) (cs : List (Call R)) (ans : List Answer) (l : RuleList R) (us : List S) (ids : List ℕ)
      → Every (FitsCall kind.rules) cs → Run kind m capacity opened s cs ans l t us (Some ids) → OutcomeOfRun capacity s t cs ans l ids
