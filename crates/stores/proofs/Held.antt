-- The lists in brought places: the first that passes a test, and what is held after one more.
use Rattle.std.proofs.Common.{◌≡◌, ℕ, suc, ◌+◌, ◌-◌, ◌<◌, Bool, true, false, cond, List, [], ◌∷◌, ◌++◌, map, length, take, set, Ok, Option, Some, Result, sym, refl, ap, ◌∙◌, ap₂, arith}
use Rattle.std.proofs.lemmas.List.{length-map, length-set, length-take-le, map_push, take_more_set}
use Rattle.std.specs.List.{position_from}
use Rattle.spec.specs.Lists.{place_of}
use Rattle.spec.specs.Denials.{Denial}
use Rattle.spec.specs.Entries.{Delta}
use Rattle.spec.specs.StoreModels.{Rows, take_place}
use Rattle.stores.specs.declared.places.Place.{Place}
use Rattle.stores.specs.Places.{list_in}

-- among the images of a list, the place of the first whose image passes
pub place_of-map : {A B : Type 0} (f : A → B) (test : B → Bool) (i : ℕ) (xs : List A) → place_of test i (map f xs) ≡ position_from (λ x. test (f x)) i xs
place_of-map f test i [] = refl
place_of-map f test i (x ∷ xs) = go (test (f x)) (place_of-map f test (i + 1) xs)
  where
    go : (t : Bool) {a b : Option ℕ} → a ≡ b → elim t [ true ↦ Some i | false ↦ a ] ≡ cond t (Some i) b
    go true e = refl
    go false e = e

-- one list more
module _ (ps : List Place) (id : ℕ) (p : Place) (l : List Delta) (h : id < length ps) (e : list_in p ≡ l) where
  abbrev seen : List Place → ℕ → Rows
  seen qs used = record { rows = map list_in (take used qs); free = length qs - used }

  pub placed : take_place (seen ps id) l (seen ps id).free ≡ (seen (set ps id p) (id + 1), Ok id)
  placed =
      let n = length-set ps id p in
      let less : length ps - id ≡ suc (length (set ps id p) - (id + 1)) = omega (arith, n, h) in
      let more : map list_in (take (id + 1) (set ps id p)) ≡ map list_in (take id ps) ++ l ∷ [] =
      ap (map list_in) (take_more_set ps id p h) ∙ map_push list_in (take id ps) p ∙ ap (λ x. map list_in (take id ps) ++ x ∷ []) e in
      let count : length (map list_in (take id ps)) ≡ id = length-map (take id ps) list_in ∙ length-take-le id ps (omega (arith, h)) in
      ap (take_place (seen ps id) l) less
      ∙ ap₂ {C = Rows × Result ℕ Denial} (λ (x : List (List Delta)) (k : ℕ). (record { rows = x; free = length (set ps id p) - (id + 1) }, Ok k)) (sym more) count
