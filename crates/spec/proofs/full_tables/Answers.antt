use Rattle.std.proofs.Common.{refl}
use Rattle.spec.proofs.full_tables.Goals as goal

pub returns : goal.returns
returns c = record { sets = refl; devices = refl; deltas = refl; rules = refl }
