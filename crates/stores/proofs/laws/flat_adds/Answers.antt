use Rattle.stores.proofs.Adding.{flat_adds}
use Rattle.stores.proofs.laws.flat_adds.Goals as goal

pub returns : goal.returns
returns c = flat_adds
