use Rattle.std.proofs.Common.{◌≡◌, None, ap, ◌∙◌, rules}
use Rattle.spec.specs.Entries.{deltas_fault}
use Rattle.spec.specs.StoreModels.{passed_on}
use Rattle.storage.specs.Deltas.{deltas_of}
use Rattle.stores.specs.Answers.{told}
use Rattle.stores.proofs.Passing.{layer_adds}
use Rattle.stores.proofs.trim.TrimLayerVariationStore.add.Goals as goal

pub returns : goal.returns
returns g c =
    let l = deltas_of c.args.list.now in
    let good : None ≡ deltas_fault l = search rules in
    let up : told c.map_err.result ≡ passed_on (told c.add.result) = search rules in
    layer_adds g.S.VariationStore.store c.args.self.now (record { below = c.add.new.self }) l _ (told c.add.result) (told c.map_err.result) good (ap deltas_of c.as_slice.ensures.value ∙ c.trim-kept.ensures) up c.add.ensures
