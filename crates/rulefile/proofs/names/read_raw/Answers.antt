use Rattle.std.proofs.Common.{◌≡◌, codes, ◌∙◌, arith, rules}
use Rattle.rulefile.specs.Names.{raw_reference}
use Rattle.rulefile.proofs.Spelling.{spelled}
use Rattle.rulefile.proofs.names.read_raw.Goals as goal

pub returns-in-device : goal.returns-in-device
returns-in-device c =
    let e : c.map.result ≡ raw_reference (codes "device") c.args.number.now = search rules in
    e ∙ spelled (λ k. raw_reference k c.args.number.now) c.args.kind.now (codes "device") (omega arith) (search arith)

pub returns-in-deltas : goal.returns-in-deltas
returns-in-deltas c =
    let e : c.map-in-deltas.result ≡ raw_reference (codes "deltas") c.args.number.now = search rules in
    e ∙ spelled (λ k. raw_reference k c.args.number.now) c.args.kind.now (codes "deltas") (omega arith) (search arith)
