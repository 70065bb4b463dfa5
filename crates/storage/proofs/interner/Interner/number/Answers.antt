use Rattle.std.proofs.Common.{◌≡◌, Bool, List, take, sym, ap, ◌∙◌, rules}
use borrow.Author.Tests.{tests}
use Rattle.std.specs.List.{position}
use Rattle.std.proofs.lemmas.Iterator.{YieldsList-from_slice}
use Rattle.std.proofs.lemmas.Iterator.Search.{position_from_yields_List}
use Rattle.storage.specs.Interners.{same_entry, entry}
use Rattle.storage.proofs.Numbers.{position-map}
use Rattle.storage.proofs.interner.Interner.number.Goals as goal

pub returns : goal.returns
returns g c =
    let d = c.self.inside in
    let same : g.row.H.Denot × List g.row.T.Denot → Bool = λ e. same_entry g.H.PartialEq.eq g.T.PartialEq.eq e (c.args.head, c.args.list.now) in
    let found = position_from_yields_List (λ s. same (entry d.pool.now s)) _ _ c.position.result c.position.ensures.ran (YieldsList-from_slice (take d.used d.table.now) c.iter.ensures.rest) (λ x b q k. search (rules, tests)) in
    let kept = position-map (entry d.pool.now) same (take d.used d.table.now) in
    let cast : c.map.result ≡ c.position.result = search rules in
    cast ∙ found ∙ sym kept ∙ ap (λ v. position same v.contents) c.self.view_is
