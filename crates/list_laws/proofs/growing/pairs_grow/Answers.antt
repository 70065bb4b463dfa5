use Rattle.list_laws.proofs.Grows.{pairs_grow}
use Rattle.list_laws.proofs.growing.pairs_grow.Goals as goal

pub returns : goal.returns
returns c = pairs_grow
