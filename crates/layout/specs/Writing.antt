-- What a write does to the output.
use Rattle.std.specs.Prelude.{◌≡◌, ℕ, ◌+◌, ◌*◌, ◌<◌, ◌≤◌, List, ◌++◌, length, take, drop, replicate, Some, None, Option, Result, MatchResult}
use Rattle.spec.specs.Denials as fault_of
use Rattle.spec.specs.Denials.{Word, Part}
use Rattle.denials.specs.declared.denial.Denial.{Denial}
use Rattle.denials.specs.Denials.{word_of, part_of, denial_of}
use Rattle.layout.specs.declared.output.Output.{Output}

-- `part` written over `bytes` from place u on
abbrev pub placed : List ℕ → ℕ → List ℕ → List ℕ
placed bytes u part = take u bytes ++ (part ++ drop (u + length part) bytes)

-- the output after `part`
pub record After (o o' : Output) (part : List ℕ) : Type 0 where
  pub used : o'.used ≡ o.used + length part
  pub fits : o.used + length part ≤ length o.bytes.now
  pub bytes : o'.bytes.now ≡ placed o.bytes.now o.used part

-- a part is written behind what was written; or it has no room, and the writer says so. Either way the output is the same slice, as
-- finished as before
pub record Wrote {X : Type 0} (r : Result X Denial) (o o' : Output) (part : List ℕ) : Type 0 where
  pub lent : o'.bytes.ghost_name ≡ o.bytes.ghost_name
  pub len : length o'.bytes.now ≡ length o.bytes.now
  pub finished : o'.finished ≡ o.finished
  pub cases : MatchResult r (λ _. After o o' part) (λ d. (word_of d.word ≡ Word.short_output) × (part_of d.part ≡ Part.writer) × (length o.bytes.now < o.used + length part))

-- a part that cannot be written into any output is refused with its fault, and the output stays
pub record Refused {X : Type 0} (fault : fault_of.Denial) (r : Result X Denial) (o o' : Output) : Type 0 where
  pub same : o' ≡ o
  pub cases : MatchResult r (λ _. ⊥) (λ d. denial_of d ≡ fault)

-- one without a fault is written
abbrev pub Puts : {X : Type 0} → Option fault_of.Denial → Result X Denial → Output → Output → List ℕ → Type 0
Puts None r o o' part = Wrote r o o' part
Puts (Some d) r o o' part = Refused d r o o'

-- the bytes of fields, if they can be written
abbrev pub room : Option fault_of.Denial → List ℕ → ℕ
room None ws = 2 * length ws
room (Some d) ws = 0

-- a part written over the front of the bytes; else all of them are zero, and the denial says why
abbrev pub Written : Option fault_of.Denial → Result ℕ Denial → List ℕ → List ℕ → List ℕ → Type 0
Written None r bs bs' part = MatchResult r
    (λ n. (n ≡ length part) × (bs' ≡ part ++ drop n bs))
    (λ d. (word_of d.word ≡ Word.short_output) × (part_of d.part ≡ Part.writer) × (length bs < length part) × (bs' ≡ replicate (length bs) 0))
Written (Some f) r bs bs' part = MatchResult r (λ _. ⊥) (λ d. (denial_of d ≡ f) × (bs' ≡ replicate (length bs) 0))

-- the answer of a part that was written and read back
abbrev pub Answered : {A : Type 0} → Option fault_of.Denial → Result A Denial → List ℕ → List ℕ → A → Type 0
Answered None r bs part a = MatchResult r (λ x. x ≡ a) (λ d. (word_of d.word ≡ Word.short_output) × (part_of d.part ≡ Part.writer) × (length bs < length part))
Answered (Some f) r bs part a = MatchResult r (λ _. ⊥) (λ d. denial_of d ≡ f)
