use Rattle.std.proofs.Common.{◌≡◌, rules, sym, ap, ◌∙◌}
use Rattle.spec.specs.Lists.{map_some}
use Rattle.tables.proofs.Inserting.{lookup_found, lookup_missing}
use Rattle.tables.proofs.table.OrderedTable.get.Goals as goal

pub returns-in_err-i : goal.returns-in_err-i
returns-in_err-i g c = c.from_residual.ensures ∙ lookup_missing g.K.Ord.cmp c.args.self.now.pairs c.args.key.now c.place.result c.place.ensures.placed (sym c.in_err-i.ensures.value)

pub returns : goal.returns
returns g c =
    let m : c.map.result ≡ map_some (λ p. p.1) c.at.result = search rules in
    m ∙ ap (map_some (λ p. p.1)) c.at.ensures ∙ lookup_found g.K.Ord.cmp c.args.self.now.pairs c.args.key.now c.place.result c.in_ok-i.i c.place.ensures.placed (sym c.in_ok-i.ensures.value)
