use Rattle.list_laws.proofs.SinglesStand.{singles_stand}
use Rattle.list_laws.proofs.standing.singles_stand.Goals as goal

pub returns : goal.returns
returns c = singles_stand
