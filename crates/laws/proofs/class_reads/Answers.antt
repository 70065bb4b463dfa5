use Rattle.laws.proofs.Classing.{class_reads}
use Rattle.laws.proofs.class_reads.Goals as goal

pub returns : goal.returns
returns c = class_reads
