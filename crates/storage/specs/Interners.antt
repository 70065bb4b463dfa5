-- What an interner holds, and what entering a list answers and leaves.
use Rattle.std.specs.Prelude.{◌≡◌, ℕ, ◌+◌, ◌≤◌, Bool, true, ◌&&◌, List, [], ◌∷◌, length, take, drop, Option, Result, ◌==◌}
use Rattle.std.specs.Cmp.Lexicographic.{pointwise}
use Rattle.spec.specs.Denials.{Word, Denial, Answer, arises, when}
use Rattle.spec.specs.Lists.{sum_of}
use Rattle.spec.specs.Rules.{interned, number_in, overfull}
use Rattle.denials.specs.declared.denial.Denial as code_denial
use Rattle.denials.specs.declared.denial.Part as code_part
use Rattle.storage.specs.declared.span.Span.{Span}
use Rattle.denials.specs.Answers.{entry_answer, denied_or, left_by}
use Rattle.denials.specs.Denials.{part_of}

-- the spans stand one after another, from one place of the pool up to another
abbrev pub laid : {H : Type 0} → ℕ → List (Span H) → ℕ → Bool
laid at [] end = at == end
laid at (s ∷ ss) end = s.start == at && laid (at + s.len) ss end

-- an interner as its callers see it: its entries by their numbers, each what stands beside a list and the list; how many entries it can
-- hold, and how many elements their lists can have together; and as which part it denies
pub record Interned (T H : Type 0) : Type 0 where
  pub contents : List (H × List T)
  pub places : ℕ
  pub room : ℕ
  pub part : code_part.Part

-- what is true of every interner: its entries are no more than it can hold, and so are their lists together
pub record IsWithin {T H : Type 0} (d : Interned T H) : Type 0 where
  pub entries : length d.contents ≤ d.places
  pub few_places : d.places ≤ 65535
  pub elements : sum_of (λ (e : H × List T). length e.1) d.contents ≤ d.room

module _ {T H : Type 0} where
  -- an entry: what stands beside a list, and the list
  abbrev pub entry : List T → Span H → H × List T
  entry pool s = (s.head, take s.len (drop s.start pool))

  -- the same list, element by element, beside the same
  abbrev pub same_entry : (H → H → Bool) → (T → T → Bool) → H × List T → H × List T → Bool
  same_entry heads elements x y = heads x.0 y.0 && pointwise elements x.1 y.1

  -- the first `used` spans of a table lie one after another in the first `filled` elements of a pool
  pub record IsLaid (pool : List T) (table : List (Span H)) (used filled : ℕ) : Type 0 where
    pub in_table : used ≤ length table
    pub few_places : length table ≤ 65535
    pub in_pool : filled ≤ length pool
    pub in_order : laid 0 (take used table) filled ≡ true

  module _ (same : H × List T → H × List T → Bool) where
    -- `full`, exactly if the entries with this one would take more places than there are
    abbrev pub full_denial : Interned T H → H × List T → Option Denial
    full_denial d x = when (overfull d.places d.room (λ e. e.1) (interned same d.contents x)) (arises Word.full 0 (part_of d.part))

    -- e is what entering x leaves of d, and r is the answer
    pub record Entered (d e : Interned T H) (x : H × List T) (r : Result ℕ code_denial.Denial) : Type 0 where
      pub answer : entry_answer r ≡ denied_or (full_denial d x) (Answer.entered (number_in same (interned same d.contents x) x))
      pub after : e.contents ≡ left_by (full_denial d x) d.contents (interned same d.contents x)
      pub same_places : e.places ≡ d.places
      pub same_room : e.room ≡ d.room
      pub same_part : e.part ≡ d.part
