-- A store of the code has the meaning of the rows that it stands for.
use Rattle.std.proofs.Common.{◌≡◌, ℕ, List, Ok, Err, Result, subst, inl, inr}
use Rattle.spec.specs.Denials.{Denial}
use Rattle.spec.specs.Entries.{Delta}
use Rattle.spec.specs.Stores.{Store, Added}
use Rattle.spec.specs.StoreModels.{Rows, Within, flat, sharing, flat_add, sharing_add}
use Rattle.stores.specs.declared.flat.FlatStore.{FlatStore}
use Rattle.stores.specs.declared.sharing.SharingStore.{SharingStore}
use Rattle.stores.specs.Meanings.{through, flat_rows, flat_store, sharing_rows, sharing_store}
use Rattle.stores.proofs.Adding.{flat_adds, sharing_adds}

pub through_added : {S M : Type 0} (f : S → M) (m : Store M) (s t : S) (l : List Delta) (r : Result ℕ Denial) → Added m (f s) (f t) l r → Added (through f m) s t l r
through_added f m s t l (Ok k) h = (
  h.0,
  elim h.1 [
    | inl a ↦ inl a
    | inr n ↦ inr (record { unknown = n.unknown; fresh = n.fresh; holds = n.holds; keeps = n.keeps; only = n.only; falls = n.falls })
  ],
)
through_added f m s t l (Err d) h = h

-- ---- what the models do is what the meaning asks

pub flat_does : (s t : FlatStore) (l : List Delta) (r : Result ℕ Denial) → Within (flat_rows s) → flat_add (flat_rows s) l ≡ (flat_rows t, r) → Added flat_store s t l r
flat_does s t l r w e =
    through_added flat_rows flat s t l r
    (subst (λ (x : Rows × Result ℕ Denial). Added flat (flat_rows s) x.0 l x.1) e (flat_adds (flat_rows s) l w))

pub sharing_does : (s t : SharingStore) (l : List Delta) (r : Result ℕ Denial) → Within (sharing_rows s) → sharing_add (sharing_rows s) l ≡ (sharing_rows t, r) → Added sharing_store s t l r
sharing_does s t l r w e =
    through_added sharing_rows sharing s t l r
    (subst (λ (x : Rows × Result ℕ Denial). Added sharing (sharing_rows s) x.0 l x.1) e (sharing_adds (sharing_rows s) l w))
