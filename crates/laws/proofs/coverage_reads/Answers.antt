use Rattle.laws.proofs.Covering.{coverage_reads}
use Rattle.laws.proofs.coverage_reads.Goals as goal

pub returns : goal.returns
returns c = coverage_reads
