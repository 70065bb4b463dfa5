use Rattle.std.proofs.Common.{◌≡◌, Ok, rules}
use Rattle.spec.specs.StoreModels.{sharing_add}
use Rattle.storage.specs.Deltas.{deltas_of}
use Rattle.stores.specs.declared.sharing.SharingStore.{SharingStore}
use Rattle.stores.specs.Answers.{told}
use Rattle.stores.specs.Meanings.{sharing_rows}
use Rattle.stores.proofs.Meant.{sharing_does}
use Rattle.stores.proofs.sharing.SharingStoreVariationStore.add.Goals as goal

pub returns-in-Some-clause-added : goal.returns-in-Some-clause-added
returns-in-Some-clause-added c =
    let s = c.args.self.now in
    let l = deltas_of c.args.list.now in
    let same : sharing_add (sharing_rows s) l ≡ (sharing_rows s, Ok c.in-Some.id) = search rules in
    sharing_does s s l (Ok c.in-Some.id) c.find.ensures.within same

pub returns-clause-added : goal.returns-clause-added
returns-clause-added c =
    let s = c.args.self.now in
    let t : SharingStore = record { lists = c.take_place.new.self } in
    let l = deltas_of c.args.list.now in
    let same : sharing_add (sharing_rows s) l ≡ (sharing_rows t, told c.take_place.result) = search rules in
    sharing_does s t l (told c.take_place.result) c.take_place.ensures.within same
