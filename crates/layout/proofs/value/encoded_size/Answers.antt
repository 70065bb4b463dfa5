use Rattle.std.proofs.Common.{◌*◌, ap}
use Rattle.layout.proofs.Values.{digits_ones}
use Rattle.layout.proofs.value.encoded_size.Goals as goal

pub returns-clause-value : goal.returns-clause-value
returns-clause-value c = ap (λ n. 2 * n) (digits_ones 16 c.args.format c.ranges.format.fits)
