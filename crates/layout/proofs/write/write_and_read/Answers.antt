use Rattle.std.proofs.Common.{◌∙◌}
use Rattle.layout.proofs.Returning.{answered}
use Rattle.layout.proofs.write.write_and_read.Goals as goal

pub returns : goal.returns
returns g c = answered c.args.bytes.now c.write_part.new.bytes (g.T.FontWrite.encoded c.args.part.now) _ _ c.read.result (g.T.FontWrite.fault c.args.part.now) c.map_err.result _ c.in_ok-write_part.ensures
    (λ e s. c.read.ensures ∙ c.reads_back.ensures c.write_part.new.bytes 0 c.args.question e s) c.map_err.ensures.cases
