use Rattle.std.proofs.Common.{refl}
use Rattle.spec.proofs.class_defs.Goals as goal

pub returns : goal.returns
returns c = record { none = refl; array = refl; ranges = refl; joins = refl; read_array = (refl, refl, refl); read_ranges = (refl, refl); numbering = refl; unlisted = refl }
