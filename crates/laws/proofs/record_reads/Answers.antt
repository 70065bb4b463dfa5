use Rattle.laws.proofs.Records.{record_reads}
use Rattle.laws.proofs.record_reads.Goals as goal

pub returns : goal.returns
returns c bs size base at k f r t fits has later h = (record_reads bs base size r f k at t fits has later h).0
