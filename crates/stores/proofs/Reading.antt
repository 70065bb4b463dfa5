-- What a search in a list of deltas tells.
use Rattle.std.proofs.Common.{◌≡◌, ℕ, Bool, true, false, ◌&&◌, cond, List, [], ◌∷◌, ℤ, pos, Some, None, Option, nat_eq, sym, refl}
use Rattle.std.specs.List.{find, list_all}
use Rattle.std.specs.Ordering.{int_eq}
use Rattle.spec.specs.Lists.{all}
use Rattle.spec.specs.Fields.{same_signed}
use Rattle.spec.specs.Entries as entries
use Rattle.spec.specs.Entries.{delta_at, regions}
use Rattle.storage.specs.declared.delta.Delta.{Delta}
use Rattle.storage.specs.Deltas.{deltas_of}
use Rattle.storage.proofs.Checking.{signs_alike}

-- the delta of an entry that was found, 0 without one
abbrev pub delta_or : Option Delta → ℤ
delta_or None = pos 0
delta_or (Some d) = d.delta

pub delta_at_found : (r : ℕ) (l : List Delta) → delta_at (deltas_of l) r ≡ delta_or (find (λ (d : Delta). nat_eq d.region r) l)
delta_at_found r [] = refl
delta_at_found r (d ∷ l) = go (nat_eq d.region r) (delta_at_found r l)
  where
    go : (t : Bool) → delta_at (deltas_of l) r ≡ delta_or (find (λ (e : Delta). nat_eq e.region r) l)
        → elim t [ true ↦ d.delta | false ↦ delta_at (deltas_of l) r ] ≡ delta_or (cond t (Some d) (find (λ (e : Delta). nat_eq e.region r) l))
    go true e = refl
    go false e = e

-- two lists have the same delta at each region that a third one lists
pub all_same : (a b : List entries.Delta) (l : List Delta)
    → list_all (λ (d : Delta). int_eq (delta_at a d.region) (delta_at b d.region)) l ≡ all (λ k. same_signed (delta_at a k) (delta_at b k)) (regions (deltas_of l))
all_same a b [] = refl
all_same a b (d ∷ l) = (λ i. sym (signs_alike (delta_at a d.region) (delta_at b d.region)) i && all_same a b l i)
