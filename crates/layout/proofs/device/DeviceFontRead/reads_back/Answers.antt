use Rattle.layout.specs.Described.{described}
use Rattle.layout.proofs.Whole.{device_back}
use Rattle.layout.proofs.device.DeviceFontRead.reads_back.Goals as goal

pub returns : goal.returns
returns c bs at q = device_back (described c.args.self.now) bs at q c.delta_format.ensures.fit
