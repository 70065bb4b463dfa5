use Rattle.stores.proofs.Staying.{ids_stay}
use Rattle.stores.proofs.laws.ids_stay.Goals as goal

pub returns : goal.returns
returns g c = ids_stay g.S.VariationStore.store
