-- What a call answers, as the definitions have it, and what it leaves: a denied call alters nothing.
use Rattle.std.specs.Prelude.{ℕ, Some, None, Ok, Err, Option, Result}
use Rattle.spec.specs.Denials.{Denial, Answer}
use Rattle.denials.specs.declared.denial.Denial as code_denial
use Rattle.denials.specs.Denials.{denial_of}

-- the answer to an entry, which has a number if it is accepted
abbrev pub entry_answer : Result ℕ code_denial.Denial → Answer
entry_answer (Ok n) = Answer.entered n
entry_answer (Err d) = Answer.denied (denial_of d)

-- the answer to any other call
abbrev pub call_answer : Result (Unit {0}) code_denial.Denial → Answer
call_answer (Ok u) = Answer.taken
call_answer (Err d) = Answer.denied (denial_of d)

-- the denial if there is one, else the answer
abbrev pub denied_or : Option Denial → Answer → Answer
denied_or None a = a
denied_or (Some d) a = Answer.denied d

-- what was there before if there is a denial, else what comes after
abbrev pub left_by : {A : Type 0} → Option Denial → A → A → A
left_by None before after = after
left_by (Some d) before after = before
