use Rattle.list_laws.proofs.Grows.{singles_grow}
use Rattle.list_laws.proofs.growing.singles_grow.Goals as goal

pub returns : goal.returns
returns c = singles_grow
