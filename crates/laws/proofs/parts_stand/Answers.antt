use Rattle.laws.proofs.Standing.{stand_parts}
use Rattle.laws.proofs.parts_stand.Goals as goal

pub returns : goal.returns
returns c = stand_parts
