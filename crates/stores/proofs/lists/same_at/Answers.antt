use Rattle.std.proofs.Common.{◌∙◌, rules}
use borrow.Author.Tests.{tests}
use Rattle.std.specs.Ordering.{int_eq}
use Rattle.std.proofs.lemmas.Iterator.{YieldsList-from_slice}
use Rattle.std.proofs.lemmas.Iterator.Search.{all_from_yields_List}
use Rattle.spec.specs.Entries.{delta_at}
use Rattle.storage.specs.declared.delta.Delta.{Delta}
use Rattle.storage.specs.Deltas.{deltas_of}
use Rattle.stores.proofs.Reading.{all_same}
use Rattle.stores.proofs.lists.same_at.Goals as goal

pub returns : goal.returns
returns c =
    let a = deltas_of c.args.a.now in
    let b = deltas_of c.args.b.now in
    all_from_yields_List (λ (d : Delta). int_eq (delta_at a d.region) (delta_at b d.region)) _ _ c.all.result c.all.ensures.ran (YieldsList-from_slice c.args.places.now c.iter.ensures.rest) (λ x b q k. search (rules, tests))
    ∙ all_same a b c.args.places.now
