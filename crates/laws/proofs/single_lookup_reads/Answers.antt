use Rattle.laws.proofs.SingleLookups.{single_lookup_reads}
use Rattle.laws.proofs.single_lookup_reads.Goals as goal

pub returns : goal.returns
returns c = single_lookup_reads
