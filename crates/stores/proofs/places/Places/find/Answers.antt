use Rattle.std.proofs.Common.{◌≡◌, sym, ap, ◌∙◌, rules}
use borrow.Author.Tests.{tests}
use Rattle.std.proofs.lemmas.Iterator.{YieldsList-from_slice}
use Rattle.std.proofs.lemmas.Iterator.Adapters.{position_from-zero}
use Rattle.std.proofs.lemmas.Iterator.Search.{position_from_yields_List}
use Rattle.spec.specs.Entries.{is_alike}
use Rattle.spec.specs.Lists.{place_of}
use Rattle.storage.specs.Deltas.{deltas_of}
use Rattle.stores.specs.declared.places.Place.{Place}
use Rattle.stores.specs.Places.{list_in}
use Rattle.stores.proofs.Held.{place_of-map}
use Rattle.stores.proofs.places.Places.find.Goals as goal

pub returns : goal.returns
returns c =
    let alike = is_alike (deltas_of c.args.list.now) in
    let held = c.held.result.now in
    let found = position_from_yields_List (λ (p : Place). alike (list_in p)) _ _ c.position.result c.position.ensures.ran (YieldsList-from_slice held c.iter.ensures.rest) (λ x b q k. search (rules, tests)) in
    let cast : c.map.result ≡ c.position.result = search rules in
    record {
      found = cast ∙ found ∙ position_from-zero (λ (p : Place). alike (list_in p)) held ∙ sym (place_of-map list_in alike 0 held) ∙ ap (place_of alike 0) c.held.ensures.lists;
      within = c.held.ensures.within;
    }
