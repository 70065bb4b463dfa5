use Rattle.std.proofs.Common.{refl}
use Rattle.spec.proofs.device_faults.Goals as goal

pub returns : goal.returns
returns c = record { fields = (refl, refl, refl); format = (refl, refl); outside = refl; word = refl; second_word = (refl, refl); widths = (refl, refl, refl); backwards = refl; null = refl }
