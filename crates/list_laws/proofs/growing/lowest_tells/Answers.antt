use Rattle.list_laws.proofs.Grows.{lowest_tells}
use Rattle.list_laws.proofs.growing.lowest_tells.Goals as goal

pub returns : goal.returns
returns c = lowest_tells
