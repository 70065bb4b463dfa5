use Rattle.std.proofs.Common.{◌≡◌, nat_eq, sym, ap, ◌∙◌, w16, SFits, rules}
use borrow.Author.Tests.{tests}
use Rattle.std.specs.Option.{option_map}
use Rattle.std.proofs.lemmas.Int.{to_z-of_z}
use Rattle.std.proofs.lemmas.Iterator.{YieldsList-from_slice}
use Rattle.std.proofs.lemmas.Iterator.Search.{find_from_yields_List}
use Rattle.storage.specs.declared.delta.Delta.{Delta}
use Rattle.stores.proofs.Reading.{delta_or, delta_at_found}
use Rattle.stores.proofs.lists.delta_at.Goals as goal

pub returns : goal.returns
returns c =
    let l = c.args.list.now in
    let found = find_from_yields_List (λ (d : Delta). nat_eq d.region c.args.region) _ _ c.find.result c.find.ensures.ran (YieldsList-from_slice l c.iter.ensures.rest) (λ x b q k. search (rules, tests)) in
    let told : c.map_or.result ≡ delta_or (option_map (λ x. x.now) c.find.result) = search rules in
    let fits : SFits w16 c.map_or.result = search rules in
    to_z-of_z w16 _ fits ∙ told ∙ ap delta_or found ∙ sym (delta_at_found c.args.region l)
