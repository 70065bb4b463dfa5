use Rattle.storage.proofs.Checking.{device_checked}
use Rattle.storage.proofs.entries.enter_device.Goals as goal

pub returns : goal.returns
returns c = device_checked _ _ _ _ _ _ c.in_default.ensures c.enter.ensures
