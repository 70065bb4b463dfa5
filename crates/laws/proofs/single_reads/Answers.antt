use Rattle.laws.proofs.Singles.{single_reads}
use Rattle.laws.proofs.single_reads.Goals as goal

pub returns : goal.returns
returns c = single_reads
