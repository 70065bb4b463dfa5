use Rattle.stores.proofs.Trimming.{trimming_keeps}
use Rattle.stores.proofs.laws.trimming_keeps.Goals as goal

pub returns : goal.returns
returns c = trimming_keeps
