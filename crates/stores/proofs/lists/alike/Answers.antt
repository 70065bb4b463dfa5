use Rattle.std.proofs.Common.{◌∙◌}
use Rattle.storage.specs.Deltas.{deltas_of}
use Rattle.stores.proofs.Alikes.{is_alike_decides, both_tested, one_tested}
use Rattle.stores.proofs.lists.alike.Goals as goal

pub returns-then-same_at : goal.returns-then-same_at
returns-then-same_at c =
    let a = deltas_of c.args.a.now in
    let b = deltas_of c.args.b.now in
    let e = both_tested a b c.same_at-then-same_at.result c.if-same_at.ensures c.same_at-then-same_at.ensures in
    record { value = e; decides = is_alike_decides a b c.same_at-then-same_at.result e }

pub returns-else-same_at : goal.returns-else-same_at
returns-else-same_at c =
    let a = deltas_of c.args.a.now in
    let b = deltas_of c.args.b.now in
    let e = c.if-same_at.false ∙ one_tested a b c.if-same_at.ensures in
    record { value = e; decides = is_alike_decides a b c.same_at.result e }
