-- What a list of calls does, over any kind of lookup and any store: a relation between the calls, their answers, the rule list
-- and the store.
use Rattle.std.specs.Prelude.{◌≡◌, ℕ, List, [], ◌∷◌, ℤ, Some, None, Option, Result}
use Rattle.spec.specs.Lists.{Every}
use Rattle.spec.specs.Denials.{Denial, Answer, passed}
use Rattle.spec.specs.Rules.{Call, RuleList, RuleKind, Capacity, answer, after_all}
use Rattle.spec.specs.Build.{BuildKind, lists_to_add}
use Rattle.spec.specs.Bytes.{Table}
use Rattle.spec.specs.Stores.{Store, Keeps, AddedAll, Stopped}

-- a kind of lookup: R its rules, Q its questions, O its sort of subtable, A its list's answer, B what is read
pub record Kind (R Q O A B : Type 0) : Type 1 where
  -- the lookup type
  pub type : ℕ
  pub rules : RuleKind R
  pub builds : BuildKind R O
  pub table : O → Table
  -- the list's answer and the meaning of bytes, for a pixel size, a region and a question
  pub answers : RuleList R → ℕ → ℕ → Q → Option A
  pub means : List ℕ → ℕ → Q → Result (Option B) ℕ
  -- what is read says what the list says, given which id has which delta
  pub agrees : (ℕ → ℤ → Type 0) → A → B → Type 0
  -- where the rules of a section stand in its subtables, given the sets entered
  pub stands : List (List ℕ) → List R → List O → Type 0

-- the lookup passes a store's denial up and tells how many delta lists this build had accepted
abbrev pub at_list : ℕ → Denial → Denial
at_list n d = passed (record { word = d.word; place = n; part = d.part; depth = d.depth })

module _ {R Q O A B S : Type 0} (kind : Kind R Q O A B) (m : Store S) (capacity : Capacity) where
  -- a build hands every standing delta list to the store, once for each metric that names it. It is denied exactly if the store
  -- denies one; then the lookup stays open, and the store has taken the lists before
  abbrev pub AcceptedBuild : RuleList R → S → S → List ℕ → Type 0
  AcceptedBuild l s t ids = AddedAll m s t (lists_to_add kind.builds l) ids

  abbrev pub DeniedBuild : RuleList R → S → S → Denial → Type 0
  DeniedBuild l s t d = (n : ℕ) × (e : Denial) × Stopped m s t (lists_to_add kind.builds l) n e × (d ≡ at_list n e)

  -- entries, insertions and breaks get the answer of the rules and do not touch the store
  abbrev pub Answered : RuleList R → S → S → Call R → Answer → Type 0
  Answered l s t c a = (a ≡ answer kind.rules capacity l c) × (t ≡ s)

  -- what one call may do to the store and answer, but for a build that is accepted
  abbrev pub Does : RuleList R → S → S → Call R → Answer → Type 0
  Does l s t (Call.enter_set gs) a = Answered l s t (Call.enter_set gs) a
  Does l s t (Call.enter_device x y vs) a = Answered l s t (Call.enter_device x y vs) a
  Does l s t (Call.enter_deltas ds) a = Answered l s t (Call.enter_deltas ds) a
  Does l s t (Call.insert r) a = Answered l s t (Call.insert r) a
  Does l s t Call.break a = Answered l s t Call.break a
  Does l s t Call.build a = (d : Denial) × (a ≡ Answer.denied d) × DeniedBuild l s t d

  -- a run from the rule list l and the store s to l' and t, by these calls with these answers. `us` are the store after each
  -- call. A run ends with the calls, or at the first build that is accepted, with the ids that the store answered it
  pub data Run : RuleList R → S → List (Call R) → List Answer → RuleList R → S → List S → Option (List ℕ) → Type 0 where
    ends : {l : RuleList R} {s : S} → Run l s [] [] l s [] None
    builds : {l : RuleList R} {s t : S} {ids : List ℕ} {cs : List (Call R)} → AcceptedBuild l s t ids → Run l s (Call.build ∷ cs) (Answer.taken ∷ []) l t (t ∷ []) (Some ids)
    goes : {l l' : RuleList R} {s t u : S} {c : Call R} {a : Answer} {cs : List (Call R)} {ans : List Answer} {us : List S} {got : Option (List ℕ)}
        → Does l s u c a → Run (after_all l (c ∷ []) (a ∷ [])) u cs ans l' t us got → Run l s (c ∷ cs) (a ∷ ans) l' t (u ∷ us) got

  -- every id held at first, or after any call of a run from s to t with these answers, has the same deltas at the end
  abbrev pub RunsKeep : RuleList R → S → List (Call R) → List Answer → S → Type 0
  RunsKeep l s cs ans t = (l' : RuleList R) (us : List S) (got : Option (List ℕ)) → Run l s cs ans l' t us got → Every (λ u. Keeps m u t) (s ∷ us)
