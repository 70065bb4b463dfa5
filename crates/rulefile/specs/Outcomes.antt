-- What comes of reading: a value, or what is wrong.
use Rattle.std.specs.Prelude.{◌≡◌, ℕ, List, [], ◌∷◌, Some, None, Ok, Err, Option, Result}
use Rattle.rulefile.specs.declared.fault.Fault.{Fault}
use Rattle.rulefile.specs.declared.fault.Stop.{Stop}
use Rattle.rulefile.specs.declared.fault.Stop.TheVariants.{Memory, Wrong}

-- a value that has to be there
abbrev pub wanted : {X : Type 0} → Option X → Fault → Result X Fault
wanted None f = Err f
wanted (Some x) f = Ok x

-- go on with a value, or stay with what is wrong
abbrev pub then : {X Y : Type 0} → Result X Fault → (X → Result Y Fault) → Result Y Fault
then (Ok x) f = f x
then (Err e) f = Err e

-- word by word, from what has been read so far
abbrev pub word_by_word : {X : Type 0} → (X → List ℕ → Result X Fault) → X → List (List ℕ) → Result X Fault
word_by_word add x [] = Ok x
word_by_word add x (w ∷ ws) = then (add x w) (λ more. word_by_word add more ws)

-- What a function answers that may run out of memory: the value that is due, or what is wrong; nothing is said where
-- memory ran out.
abbrev pub Answered : {X Y : Type 0} → (X → Y) → Result X Stop → Result Y Fault → Type 0
Answered view (Ok x) due = Ok (view x) ≡ due
Answered view (Err Memory) due = Unit {0}
Answered view (Err (Wrong f)) due = Err f ≡ due
