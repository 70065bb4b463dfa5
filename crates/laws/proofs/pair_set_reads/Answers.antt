use Rattle.laws.proofs.PairSets.{pair_set_reads}
use Rattle.laws.proofs.pair_set_reads.Goals as goal

pub returns : goal.returns
returns c = pair_set_reads
