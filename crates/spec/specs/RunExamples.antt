-- Two whole runs over the flat store: one that ends at its accepted build, and one whose build is denied.
use Rattle.std.specs.Prelude.{List, [], ◌∷◌, pos, negsuc, Some, None}
use Rattle.spec.specs.Denials.{Word, Part, Answer, arises, passed}
use Rattle.spec.specs.Rules.{Call, opened, after_all}
use Rattle.spec.specs.Kinds.{SingleRule, PairRule}
use Rattle.spec.specs.StoreModels.{Rows, flat}
use Rattle.spec.specs.Runs.{Run}
use Rattle.spec.specs.Promise.{single_pos, pair_pos}
use Rattle.spec.specs.Cases.{with_deltas, x_advance, entry, single, kern, ample}

abbrev pub no_place : Rows
no_place = record { rows = []; free = 0 }

-- calls behind an accepted build are not made
abbrev pub kern_calls : List (Call PairRule)
kern_calls = kern 36 57 (negsuc 49) ∷ Call.build ∷ kern 1 2 (pos 5) ∷ []

abbrev pub kern_answers : List Answer
kern_answers = Answer.taken ∷ Answer.taken ∷ []

-- the store has no place for the list of the rule
abbrev pub delta_calls : List (Call SingleRule)
delta_calls = Call.enter_deltas (entry 1 (pos 5) ∷ []) ∷ single 5 (x_advance (with_deltas (pos 10) 0)) ∷ Call.build ∷ []

abbrev pub delta_answers : List Answer
delta_answers = Answer.entered 0 ∷ Answer.taken ∷ Answer.denied (passed (arises Word.store_full 0 Part.store)) ∷ []

pub record WholeRuns : Type 0 where
  pub accepted : Run pair_pos flat ample opened no_place kern_calls kern_answers (after_all opened kern_calls kern_answers) no_place (no_place ∷ no_place ∷ []) (Some [])
  pub denied : Run single_pos flat ample opened no_place delta_calls delta_answers (after_all opened delta_calls delta_answers) no_place (no_place ∷ no_place ∷ no_place ∷ []) None
