use Rattle.layout.specs.Listing.{listed}
use Rattle.layout.proofs.Whole.{both, puts}
use Rattle.layout.proofs.ClassDefs.{class_rises, array_pieces, range_pieces}
use Rattle.layout.proofs.class_def.ClassDefFontWrite.write_into.Goals as goal

pub write_array-requires-clause-rises : goal.write_array-requires-clause-rises
write_array-requires-clause-rises c = class_rises (listed c.args.self.now.classes.now) c.in_ok-count.ensures.shaped.0

pub returns-in_ok-fields-in-Array : goal.returns-in_ok-fields-in-Array
returns-in_ok-fields-in-Array c =
    let h = rw c.in-Array.is at c.in_ok-count.ensures.shaped in
    puts _ _ _ _ h.0 (array_pieces (listed c.args.self.now.classes.now) _ h.2 h.1 _ c.first_and_span-first.ensures.first) (both _ _ _ c.in_ok-fields-in-Array.ensures c.write_array.ensures)

pub returns-in_ok-fields-in-Ranges : goal.returns-in_ok-fields-in-Ranges
returns-in_ok-fields-in-Ranges c =
    let h = rw c.in-Ranges.is at c.in_ok-count.ensures.shaped in
    puts _ _ _ _ h.0 (range_pieces (listed c.args.self.now.classes.now) _ h.2 h.1) (both _ _ _ c.in_ok-fields-in-Ranges.ensures c.write_ranges.ensures)
