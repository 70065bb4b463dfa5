use Rattle.list_laws.proofs.InOrder.{pairs_in_order}
use Rattle.list_laws.proofs.standing.pairs_in_order.Goals as goal

pub returns : goal.returns
returns c = pairs_in_order
