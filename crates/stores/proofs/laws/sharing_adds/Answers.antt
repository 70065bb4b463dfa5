use Rattle.stores.proofs.Adding.{sharing_adds}
use Rattle.stores.proofs.laws.sharing_adds.Goals as goal

pub returns : goal.returns
returns c = sharing_adds
