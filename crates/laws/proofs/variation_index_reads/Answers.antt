use Rattle.spec.specs.Values.{variation_index}
use Rattle.laws.proofs.Devices.{beside_reads}
use Rattle.laws.proofs.variation_index_reads.Goals as goal

pub returns : goal.returns
returns c bs at size n = beside_reads bs at size (variation_index n) tt
