use Rattle.laws.proofs.Lying.{lies}
use Rattle.laws.proofs.offsets_lead.Goals as goal

pub returns : goal.returns
returns c = lies
