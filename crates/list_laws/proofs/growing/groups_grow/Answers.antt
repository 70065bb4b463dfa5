use Rattle.list_laws.proofs.Grows.{groups_grow}
use Rattle.list_laws.proofs.growing.groups_grow.Goals as goal

pub returns : goal.returns
returns c = groups_grow
