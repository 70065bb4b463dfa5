use Rattle.list_laws.proofs.PairsStand.{pairs_stand_once}
use Rattle.list_laws.proofs.standing.pairs_stand_once.Goals as goal

pub returns : goal.returns
returns c = pairs_stand_once
