use Rattle.laws.proofs.Standing.{stand}
use Rattle.laws.proofs.fields_stand.Goals as goal

pub returns : goal.returns
returns c = stand
