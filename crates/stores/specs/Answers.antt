-- What the answer of a call says in the definitions.
use Rattle.std.specs.Prelude.{List, Some, None, Ok, Err, Result}
use Rattle.spec.specs.Denials.{Denial, Word, Part, arises}
use Rattle.spec.specs.Entries.{Delta, deltas_fault}
use Rattle.denials.specs.declared.denial.Denial as code_denial
use Rattle.denials.specs.Denials.{denial_of}

abbrev pub told : {A : Type 0} → Result A code_denial.Denial → Result A Denial
told (Ok x) = Ok x
told (Err d) = Err (denial_of d)

-- whether a store may hold a list, and the denial of one that it may not
abbrev pub allowed : List Delta → Result (Unit {0}) Denial
allowed l = elim (deltas_fault l) [ None ↦ Ok tt | Some i ↦ Err (arises Word.bad_deltas i Part.store) ]
