use Rattle.std.proofs.Common.{refl}
use Rattle.spec.proofs.two_sections.Goals as goal

pub returns : goal.returns
returns c = record { first_section = refl; second_section = refl; neither = refl; bytes = refl; read_first = refl; read_second = refl; read_neither = refl }
