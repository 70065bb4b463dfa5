use Rattle.storage.proofs.Checking.{deltas_checked}
use Rattle.storage.proofs.entries.enter_deltas.Goals as goal

pub returns : goal.returns
returns c = deltas_checked _ _ _ _ c.in_default.ensures c.enter.ensures
