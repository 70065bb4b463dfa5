use Rattle.laws.proofs.PairLookups.{pair_lookup_reads}
use Rattle.laws.proofs.pair_lookup_reads.Goals as goal

pub returns : goal.returns
returns c = pair_lookup_reads
