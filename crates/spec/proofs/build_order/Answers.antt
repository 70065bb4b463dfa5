use Rattle.std.proofs.Common.{refl}
use Rattle.spec.proofs.build_order.Goals as goal

pub returns : goal.returns
returns c = refl
