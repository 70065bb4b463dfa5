use Rattle.std.proofs.Common.{refl}
use Rattle.spec.proofs.class_pair_faults.Goals as goal

pub returns : goal.returns
returns c = record { read = (refl, refl); class_1 = refl; class_2 = refl; at_once = refl; counts = (refl, refl); class_format = refl; array_start = (refl, refl, refl, refl); range_start = (refl, refl, refl, refl); overlap = (refl, refl) }
