use Rattle.std.proofs.Common.{◌≡◌, Ok, Err, rules, ◌∙◌}
use Rattle.tables.proofs.Inserting.{above}
use Rattle.tables.proofs.table.OrderedTable.first_at_or_above.Goals as goal

pub returns : goal.returns
returns g c =
    let e : c.unwrap_or_else.result ≡ elim c.place.result [ Ok i ↦ i | Err i ↦ i ] = search rules in
    e ∙ above g.met.K.Ord.total c.args.self.now.pairs c.args.key.now c.place.result c.place.ensures.placed
