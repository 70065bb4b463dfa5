use Rattle.layout.proofs.Whole.{both, puts, device_pieces}
use Rattle.layout.proofs.device.DeviceFontWrite.write_into.Goals as goal

pub returns : goal.returns
returns c = puts _ _ _ _ c.in_ok-last.ensures.0
    (device_pieces c.args.self.now.first_size _ _ _ c.args.self.now.values.now c.in_ok-last.ensures.1 c.number.ensures c.delta_format-format.ensures.value)
    (both _ _ _ c.in_ok-fields.ensures c.write_words.ensures)
