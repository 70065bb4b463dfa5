use Rattle.stores.proofs.Passing.{trims}
use Rattle.stores.proofs.laws.trims.Goals as goal

pub returns : goal.returns
returns g c = trims g.S.VariationStore.store
