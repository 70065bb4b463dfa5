use Rattle.std.proofs.Common.{◌+◌, ◌*◌, ap, ◌∙◌}
use Rattle.layout.specs.Described.{described}
use Rattle.layout.proofs.Whole.{device_size}
use Rattle.layout.proofs.device.DeviceFontWrite.size.Goals as goal

pub returns-clause-value : goal.returns-clause-value
returns-clause-value c = ap (λ n. 6 + 2 * n) c.div_ceil.ensures ∙ device_size (described c.args.self.now) _ c.per_word-per_word.result c.in-Ok.ensures.0 c.delta_format.ensures.value c.per_word-per_word.ensures.value c.per_word-per_word.ensures.some
