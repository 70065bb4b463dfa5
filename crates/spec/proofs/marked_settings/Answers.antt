use Rattle.std.proofs.Common.{refl}
use Rattle.spec.proofs.marked_settings.Goals as goal

pub returns : goal.returns
returns c = record { ones = refl; two_bits = ((refl, refl), (refl, refl)); more_bits = ((refl, refl), (refl, refl), (refl, refl)); coverage = (refl, refl); classes = (refl, refl); gaps = (refl, refl); set_numbers = (refl, refl, refl, refl); one_pair = refl }
