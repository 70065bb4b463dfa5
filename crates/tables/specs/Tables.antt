-- What an ordered table holds, and what its calls answer and leave.
use Rattle.std.specs.Prelude.{◌≡◌, ℕ, zero, suc, ◌<◌, ◌≤◌, min, Bool, true, false, ◌&&◌, List, [], ◌∷◌, ◌++◌, length, take, drop, Ok, Err, Option, Result, nat_lt, slice_index_or}
use Rattle.std.specs.declared.cmp.Ordering.TheVariants.{Less, Equal, Greater}
use Rattle.std.specs.declared.cmp.Ordering.{Ordering}
use Rattle.std.specs.List.{All}
use Rattle.std.specs.Ordering.{is_eq, is_lt}
use Rattle.spec.specs.Denials.{Word, Part, Denial, Answer, arises, when}
use Rattle.spec.specs.Lists.{first, map_some}
use Rattle.denials.specs.declared.denial.Denial as code_denial
use Rattle.denials.specs.Answers.{call_answer, denied_or, left_by}

-- every number is below m
abbrev pub Below : ℕ → List ℕ → Type 0
Below m ns = All (λ n. n < m) ns

-- the rows of these numbers
abbrev pub picked : {A : Type 0} → List A → List ℕ → List A
picked rows [] = []
picked rows (n ∷ ns) = take 1 (drop n rows) ++ picked rows ns

-- what a table holds: its pairs in the order of their keys, and how many there can be
pub record Contents (K V : Type 0) : Type 0 where
  pub pairs : List (K × V)
  pub most : ℕ

module _ {K V : Type 0} where
  -- the pairs with another value at a place
  abbrev pub with_value : List (K × V) → ℕ → V → List (K × V)
  with_value [] i v = []
  with_value (p ∷ ps) zero v = (p.0, v) ∷ ps
  with_value (p ∷ ps) (suc i) v = p ∷ with_value ps i v

  -- what lies in these rows, of which so many are used, with their numbers in this order
  abbrev pub contents : List (K × V) → List ℕ → ℕ → Contents K V
  contents rows order used = record { pairs = picked rows (take used order); most = min (min (length rows) (length order)) 65535 }

  -- `full`, exactly if these pairs are more than the table can hold
  abbrev pub full_denial : Contents K V → List (K × V) → Option Denial
  full_denial t ps = when (nat_lt t.most (length ps)) (arises Word.full 0 Part.rules)

  -- u is what is left of t when its pairs are to become `ps`, and r is the answer
  pub record Inserted (t u : Contents K V) (ps : List (K × V)) (r : Result (Unit {0}) code_denial.Denial) : Type 0 where
    pub answer : call_answer r ≡ denied_or (full_denial t ps) Answer.taken
    pub after : u.pairs ≡ left_by (full_denial t ps) t.pairs ps
    pub same_most : u.most ≡ t.most

  module _ (cmp : K → K → Ordering) where
    -- by their keys
    abbrev pub before : K × V → K × V → Bool
    before p q = is_lt (cmp p.0 q.0)

    -- every key is after k
    abbrev pub all_after : K → List (K × V) → Bool
    all_after k [] = true
    all_after k (p ∷ ps) = is_lt (cmp k p.0) && all_after k ps

    -- the keys rise
    abbrev pub rises : List (K × V) → Bool
    rises [] = true
    rises (p ∷ ps) = all_after p.0 ps && rises ps

    -- the value of a key
    abbrev pub lookup : List (K × V) → K → Option V
    lookup ps k = map_some (λ p. p.1) (first (λ p. is_eq (cmp k p.0)) ps)

    -- the place of the first key at or above k, and the length if there is none
    abbrev pub at_or_above : List (K × V) → K → ℕ
    at_or_above [] k = 0
    at_or_above (p ∷ ps) k = elim (is_lt (cmp p.0 k)) [ true ↦ suc (at_or_above ps k) | false ↦ 0 ]

    -- k is above the first i keys
    abbrev pub Past : List (K × V) → K → ℕ → Type 0
    Past ps k i = (j : ℕ) (d : K × V) → j < i → cmp k (slice_index_or ps j d).0 ≡ Greater

    -- k is below the keys from place i on
    abbrev pub Ahead : List (K × V) → K → ℕ → Type 0
    Ahead ps k i = (j : ℕ) (d : K × V) → i ≤ j → j < length ps → cmp k (slice_index_or ps j d).0 ≡ Less

    -- where a key stands, or where it would
    abbrev pub Placed : List (K × V) → K → Result ℕ ℕ → Type 0
    Placed ps k (Ok i) = (i < length ps) × Past ps k i × ((d : K × V) → cmp k (slice_index_or ps i d).0 ≡ Equal)
    Placed ps k (Err i) = (i ≤ length ps) × Past ps k i × Ahead ps k i

    -- what is true of every table: its keys rise, and it holds no more than it can
    pub record IsOrdered (t : Contents K V) : Type 0 where
      pub rising : rises t.pairs ≡ true
      pub in_places : length t.pairs ≤ t.most
      pub few_places : t.most ≤ 65535

    -- so many rows are used, and their numbers stand in the order of their keys
    pub record IsStored (rows : List (K × V)) (order : List ℕ) (used : ℕ) : Type 0 where
      pub in_rows : used ≤ length rows
      pub in_order : used ≤ length order
      pub numbers : Below used (take used order)
      pub rising : rises (picked rows (take used order)) ≡ true
