use Rattle.list_laws.proofs.Grows.{cells_grow}
use Rattle.list_laws.proofs.growing.cells_grow.Goals as goal

pub returns : goal.returns
returns c = cells_grow
