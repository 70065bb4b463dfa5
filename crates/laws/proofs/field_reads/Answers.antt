use Rattle.laws.proofs.Standing.{stand_at}
use Rattle.laws.proofs.field_reads.Goals as goal

pub returns : goal.returns
returns c = stand_at
