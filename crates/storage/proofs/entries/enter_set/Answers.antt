use Rattle.storage.proofs.Checking.{set_checked}
use Rattle.storage.proofs.entries.enter_set.Goals as goal

pub returns : goal.returns
returns c = set_checked _ _ _ _ c.in_default.ensures c.enter.ensures
