use Rattle.std.proofs.Common.{refl}
use Rattle.spec.proofs.store_adds.Goals as goal

pub returns : goal.returns
returns c = record { flat = refl; shared = (refl, refl); not_alike = refl; full = (refl, refl); bad = refl; trims = refl; built = refl }
