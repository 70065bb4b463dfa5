use Rattle.std.proofs.Common.{refl}
use Rattle.spec.proofs.single_faults.Goals as goal

pub returns : goal.returns
returns c = record { no_coverage_offset = refl; coverage_format = refl; coverage_count = refl; found = refl; sought = refl; not_covered = refl; coverage_outside = refl; record_outside = refl; index = refl; reserved = refl }
