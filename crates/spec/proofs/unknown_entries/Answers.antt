use Rattle.std.proofs.Common.{refl}
use Rattle.spec.proofs.unknown_entries.Goals as goal

pub returns : goal.returns
returns c = record { places = refl; standing = refl }
