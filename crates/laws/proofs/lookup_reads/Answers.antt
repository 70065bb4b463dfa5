use Rattle.laws.proofs.Lookups.{lookup_reads}
use Rattle.laws.proofs.lookup_reads.Goals as goal

pub returns : goal.returns
returns g c bs type flags mark table try says subs = lookup_reads bs table try says type flags mark subs
