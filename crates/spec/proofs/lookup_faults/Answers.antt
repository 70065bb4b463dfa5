use Rattle.std.proofs.Common.{refl}
use Rattle.spec.proofs.lookup_faults.Goals as goal

pub returns : goal.returns
returns c = record { nothing = refl; half_a_field = refl; wrong_type = refl; no_count = refl; no_offset = refl; no_subtables = refl; far_offset = refl; offset_zero = refl; format = refl }
