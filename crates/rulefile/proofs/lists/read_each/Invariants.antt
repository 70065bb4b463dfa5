use Rattle.std.proofs.Common.{◌≡◌, List, ◌++◌, drop, Ok, Err, Result, vec_items}
use Rattle.rulefile.specs.declared.fault.Fault.{Fault}
use Rattle.rulefile.specs.Lists.{each}
use Rattle.rulefile.specs.Words.{words_in}
use Rattle.rulefile.proofs.lists.read_each.Given as goal

-- what is still to come, after the items that were read
abbrev onto : {X : Type 0} → List X → Result (List X) Fault → Result (List X) Fault
onto front (Ok xs) = Ok (front ++ xs)
onto front (Err f) = Err f

abbrev pub invariant-loop-word : goal.invariant-loop-word
invariant-loop-word g l =
    onto (vec_items l.items) (each g.T.Item.reads (words_in (drop l.word-index l.words)))
    ≡ each g.T.Item.reads (words_in l.words)
