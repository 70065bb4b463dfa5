-- The meaning of each store: that of the rows which it stands for.
use Rattle.std.proofs.Common.{ap, arith}
use Rattle.spec.specs.Entries.{delta_at}
use Rattle.spec.specs.Stores.{Store, Laws}
use Rattle.spec.specs.StoreModels.{Rows, flat, sharing, layered}
use Rattle.stores.specs.declared.flat.FlatStore.{FlatStore}
use Rattle.stores.specs.declared.sharing.SharingStore.{SharingStore}
use Rattle.stores.specs.declared.trim.TrimLayer.{TrimLayer}

-- a store of type S that stands for one of type M has its meaning
abbrev pub through : {S M : Type 0} → (S → M) → Store M → Store S
through f m = record {
  held = λ s. m.held (f s);
  value = λ s. m.value (f s);
  free = λ s. m.free (f s);
  recognises = λ s. m.recognises (f s);
  layers = m.layers;
}

pub through_laws : {S M : Type 0} (f : S → M) {m : Store M} → Laws m → Laws (through f m)
through_laws f h = record { known = λ s. h.known (f s); ids = λ s. h.ids (f s) }

pub flat_laws : Laws flat
flat_laws = record { known = λ s l h. absurd h; ids = λ s k h. omega (arith, h.1) }

pub sharing_laws : Laws sharing
sharing_laws = record {
  known = λ s l h. (h.0, (h.1, λ r. ap (λ x. delta_at x r) h.2));
  ids = λ s k h. omega (arith, h.1);
}

abbrev pub flat_rows : FlatStore → Rows
flat_rows s = s.lists

abbrev pub flat_store : Store FlatStore
flat_store = through flat_rows flat

pub flat_store_laws : Laws flat_store
flat_store_laws = through_laws flat_rows flat_laws

abbrev pub sharing_rows : SharingStore → Rows
sharing_rows s = s.lists

abbrev pub sharing_store : Store SharingStore
sharing_store = through sharing_rows sharing

pub sharing_store_laws : Laws sharing_store
sharing_store_laws = through_laws sharing_rows sharing_laws

-- a layer has the meaning of the store below, and passes up what it denies
abbrev pub trim_layer : {S : Type 0} → Store S → Store (TrimLayer S)
trim_layer m = through (λ s. s.below) (layered m)

pub trim_layer_laws : {S : Type 0} {m : Store S} → Laws m → Laws (trim_layer m)
trim_layer_laws h = record { known = λ s. h.known s.below; ids = λ s. h.ids s.below }
