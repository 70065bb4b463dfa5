use Rattle.std.proofs.Common.{◌≡◌, rules}
use Rattle.spec.specs.StoreModels.{flat_add}
use Rattle.storage.specs.Deltas.{deltas_of}
use Rattle.stores.specs.declared.flat.FlatStore.{FlatStore}
use Rattle.stores.specs.Answers.{told}
use Rattle.stores.specs.Meanings.{flat_rows}
use Rattle.stores.proofs.Meant.{flat_does}
use Rattle.stores.proofs.flat.FlatStoreVariationStore.add.Goals as goal

pub returns-clause-added : goal.returns-clause-added
returns-clause-added c =
    let s = c.args.self.now in
    let t : FlatStore = record { lists = c.take_place.new.self } in
    let l = deltas_of c.args.list.now in
    let same : flat_add (flat_rows s) l ≡ (flat_rows t, told c.take_place.result) = search rules in
    flat_does s t l (told c.take_place.result) c.take_place.ensures.within same
