use Rattle.list_laws.proofs.SetsApart.{classes_apart}
use Rattle.list_laws.proofs.standing.sets_apart.Goals as goal

pub returns : goal.returns
returns c = classes_apart
