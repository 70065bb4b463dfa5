-- Models of the stores, as functions that compute: the flat store, the sharing store, and the trim layer over any store. They show
-- that what a store means can be met, and give the ids of the examples.
use Rattle.std.specs.Prelude.{◌≡◌, ℕ, zero, suc, ◌+◌, ◌<◌, not, List, [], ◌∷◌, ◌++◌, length, ℤ, pos, Some, None, Ok, Err, Result, slice_index_or}
use Rattle.spec.specs.Lists.{keep, place_of}
use Rattle.spec.specs.Fields.{same_signed}
use Rattle.spec.specs.Denials.{Word, Part, Denial, arises, passed}
use Rattle.spec.specs.Entries.{Delta, delta_at, deltas_fault, is_alike}
use Rattle.spec.specs.Stores.{Store, Added}

-- the lists held, by their ids from 0, and how many places are free; a place is a list, and there are at most 65,535
pub record Rows : Type 0 where
  pub rows : List (List Delta)
  pub free : ℕ

-- the id is a place
abbrev pub Held : Rows → ℕ → Type 0
Held s k = (k < length s.rows) × (k < 65535)

abbrev pub value : Rows → ℕ → ℕ → ℤ
value s k r = delta_at (slice_index_or s.rows k []) r

-- the flat store recognises none, the sharing store all it holds
abbrev pub flat : Store Rows
flat = record { held = Held; value = value; free = λ s. s.free; recognises = λ s l. ⊥; layers = 0 }

abbrev pub sharing : Store Rows
sharing = record { held = Held; value = value; free = λ s. s.free; recognises = λ s l. (k : ℕ) × Held s k × (slice_index_or s.rows k [] ≡ l); layers = 0 }

-- a new list takes the next place, or the store is full
abbrev pub take_place : Rows → List Delta → ℕ → Rows × Result ℕ Denial
take_place s l zero = (s, Err (arises Word.store_full 0 Part.store))
take_place s l (suc n) = (record { rows = s.rows ++ (l ∷ []); free = n }, Ok (length s.rows))

abbrev pub if_good : Rows → List Delta → Rows × Result ℕ Denial → Rows × Result ℕ Denial
if_good s l r = elim (deltas_fault l) [ None ↦ r | Some i ↦ (s, Err (arises Word.bad_deltas i Part.store)) ]

abbrev pub flat_add : Rows → List Delta → Rows × Result ℕ Denial
flat_add s l = if_good s l (take_place s l s.free)

-- the lowest id that holds a list alike to this one, if any
abbrev pub sharing_add : Rows → List Delta → Rows × Result ℕ Denial
sharing_add s l = if_good s l (elim (place_of (is_alike l) 0 s.rows) [ Some k ↦ (s, Ok k) | None ↦ take_place s l s.free ])

-- places never number more than 65,535
abbrev pub Within : Rows → Type 0
Within s = length s.rows + s.free < 65536

-- THE STORES MEET THE MEANING
abbrev pub FlatAdds : Type 0
FlatAdds = (s : Rows) (l : List Delta) → Within s → Added flat s (flat_add s l).0 l (flat_add s l).1

abbrev pub SharingAdds : Type 0
SharingAdds = (s : Rows) (l : List Delta) → Within s → Added sharing s (sharing_add s l).0 l (sharing_add s l).1

-- ---- the trim layer

-- the deltas that are not 0
abbrev pub trimmed : List Delta → List Delta
trimmed ds = keep (λ d. not (same_signed d.delta (pos 0))) ds

-- a layer has the meaning of the store below
abbrev pub layered : {S : Type 0} → Store S → Store S
layered m = record { held = m.held; value = m.value; free = m.free; recognises = m.recognises; layers = m.layers + 1 }

abbrev pub passed_on : Result ℕ Denial → Result ℕ Denial
passed_on (Ok k) = Ok k
passed_on (Err d) = Err (passed d)

-- TRIMMING KEEPS THE MEANING: if the store below took the trimmed list so, the layer took the list
abbrev pub Trims : {S : Type 0} → Store S → Type 0
Trims {S} m = (s t : S) (l : List Delta) (r : Result ℕ Denial) → deltas_fault l ≡ None → Added m s t (trimmed l) r → Added (layered m) s t l (passed_on r)
