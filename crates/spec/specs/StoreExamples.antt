-- Worked examples of the store models, and of a denial that a build passes up.
use Rattle.std.specs.Prelude.{◌≡◌, List, [], ◌∷◌, pos, negsuc, Ok, Err}
use Rattle.spec.specs.Denials.{Word, Part, arises, passed}
use Rattle.spec.specs.Entries.{Delta}
use Rattle.spec.specs.Runs.{at_list}
use Rattle.spec.specs.StoreModels.{Rows, flat_add, sharing_add, trimmed}
use Rattle.spec.specs.Cases.{entry}

-- one list is held, and one place is free
abbrev pub held_one : Rows
held_one = record { rows = (entry 1 (pos 5) ∷ []) ∷ []; free = 1 }

abbrev pub padded : List Delta
padded = entry 1 (pos 5) ∷ entry 2 (pos 0) ∷ []

abbrev pub full_store : Rows
full_store = record { rows = (entry 1 (pos 5) ∷ []) ∷ []; free = 0 }

pub record StoreAdds : Type 0 where
  -- the flat store gives each list a place of its own
  pub flat : flat_add held_one (entry 1 (pos 5) ∷ []) ≡ (record { rows = (entry 1 (pos 5) ∷ []) ∷ (entry 1 (pos 5) ∷ []) ∷ []; free = 0 }, Ok 1)
  -- the sharing store knows a list that has the same delta at every region, also without a free place
  pub shared : (sharing_add held_one padded ≡ (held_one, Ok 0)) × (sharing_add full_store padded ≡ (full_store, Ok 0))
  pub not_alike : sharing_add held_one [] ≡ (record { rows = (entry 1 (pos 5) ∷ []) ∷ [] ∷ []; free = 0 }, Ok 1)
  pub full : (flat_add full_store [] ≡ (full_store, Err (arises Word.store_full 0 Part.store))) × (sharing_add full_store [] ≡ (full_store, Err (arises Word.store_full 0 Part.store)))
  pub bad : flat_add full_store (entry 2 (pos 1) ∷ entry 1 (pos 1) ∷ []) ≡ (full_store, Err (arises Word.bad_deltas 1 Part.store))
  pub trims : trimmed (entry 1 (pos 5) ∷ entry 2 (pos 0) ∷ entry 3 (negsuc 0) ∷ []) ≡ entry 1 (pos 5) ∷ entry 3 (negsuc 0) ∷ []
  -- a build that had four lists accepted tells 4, one layer further up
  pub built : at_list 4 (arises Word.store_full 0 Part.store) ≡ passed (arises Word.store_full 4 Part.store)
