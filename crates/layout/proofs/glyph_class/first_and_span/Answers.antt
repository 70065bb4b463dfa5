use Rattle.std.proofs.Common.{arith}
use Rattle.layout.proofs.Listing.{ends_at}
use Rattle.layout.proofs.glyph_class.first_and_span.Goals as goal

pub returns-clause-span : goal.returns-clause-span
returns-clause-span c = let e = ends_at c.args.classes.now _ _ c.in-Some-Some.ensures'.item.1 c.in-Some-Some.ensures.item.1 c.in-Some-Some.ensures.item.3.0 in omega arith
