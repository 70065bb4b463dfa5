use Rattle.spec.specs.Values.{device}
use Rattle.laws.proofs.Devices.{beside_reads}
use Rattle.laws.proofs.device_reads.Goals as goal

pub returns : goal.returns
returns c bs at size d = beside_reads bs at size (device d)
