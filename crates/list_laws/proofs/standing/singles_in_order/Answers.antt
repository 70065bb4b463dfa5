use Rattle.list_laws.proofs.InOrder.{singles_in_order}
use Rattle.list_laws.proofs.standing.singles_in_order.Goals as goal

pub returns : goal.returns
returns c = singles_in_order
