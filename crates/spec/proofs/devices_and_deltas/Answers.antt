use Rattle.std.proofs.Common.{refl}
use Rattle.spec.proofs.devices_and_deltas.Goals as goal

pub returns : goal.returns
returns c = record { words = refl; value = (refl, refl, refl, refl); formats = (refl, refl, refl); handed_over = (refl, refl); sizes = (refl, refl, refl); regions = (refl, refl, refl); bytes = refl; read_device = (refl, refl); read_ids = (refl, refl) }
