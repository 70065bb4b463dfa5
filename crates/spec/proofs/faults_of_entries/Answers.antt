use Rattle.std.proofs.Common.{refl}
use Rattle.spec.proofs.faults_of_entries.Goals as goal

pub returns : goal.returns
returns c = record { sets = (refl, refl, refl); devices = (refl, refl, refl, refl); deltas = (refl, refl, refl, refl, refl); alike = (refl, refl, refl, refl) }
