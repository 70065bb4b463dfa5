use Rattle.list_laws.proofs.PairsStand.{pairs_stand}
use Rattle.list_laws.proofs.standing.pairs_stand.Goals as goal

pub returns : goal.returns
returns c = pairs_stand
