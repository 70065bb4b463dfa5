-- What a good list is.
use Rattle.std.proofs.Common.{◌≡◌, ℕ, ◌≤◌, min, Bool, true, false, ltb, List, length, Some, None, Option, refl, ap, ◌∙◌, subst}
use Rattle.std.proofs.lemmas.Bool.{le-ltb, ltb-false}
use Rattle.spec.specs.Entries as entries
use Rattle.spec.specs.Entries.{not_rising, unsorted, regions, lower, deltas_fault}

abbrev is_some : Option ℕ → Type 0
is_some None = ⊥
is_some (Some k) = Unit {0}

pub some_none : {A : Type 0} (k : ℕ) → Some k ≡ None → A
some_none k e = absurd (subst is_some e tt)

-- what a good list is
pub good : (ds : List entries.Delta) → deltas_fault ds ≡ None → (unsorted (regions ds) ≡ None) × (length ds ≤ 64)
good ds h = go (unsorted (regions ds)) refl (ltb 64 (length ds)) refl h
  where
    go : (o : Option ℕ) → unsorted (regions ds) ≡ o → (t : Bool) → ltb 64 (length ds) ≡ t → lower o t ≡ None → (unsorted (regions ds) ≡ None) × (length ds ≤ 64)
    go None p true q h = some_none 64 h
    go None p false q h = (p, ltb-false 64 (length ds) q)
    go (Some i) p true q h = some_none (min i 64) h
    go (Some i) p false q h = some_none i h

pub good_back : (ds : List entries.Delta) → unsorted (regions ds) ≡ None → length ds ≤ 64 → deltas_fault ds ≡ None
good_back ds p l = ap (λ o. lower o (ltb 64 (length ds))) p ∙ ap (lower None) (le-ltb 64 (length ds) l)
