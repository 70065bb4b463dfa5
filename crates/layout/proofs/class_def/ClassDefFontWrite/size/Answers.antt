use Rattle.std.proofs.Common.{◌+◌, ◌*◌, ap, ◌∙◌}
use Rattle.layout.specs.Listing.{listed}
use Rattle.layout.proofs.ClassDefs.{array_size, range_size}
use Rattle.layout.proofs.class_def.ClassDefFontWrite.size.Goals as goal

pub returns-in-Ok-Array-clause-value : goal.returns-in-Ok-Array-clause-value
returns-in-Ok-Array-clause-value c =
    let h = rw c.in-Ok-Array.field-0-is at c.in-Ok-Array.ensures.shaped in
    ap (λ n. 6 + 2 * n) c.from.ensures ∙ array_size (listed c.args.self.now.classes.now) _ h.2 h.1 h.0

pub returns-in-Ok-Ranges-clause-value : goal.returns-in-Ok-Ranges-clause-value
returns-in-Ok-Ranges-clause-value c =
    let h = rw c.in-Ok-Ranges.field-0-is at c.in-Ok-Ranges.ensures.shaped in
    ap (λ n. 4 + 6 * n) c.from-in-Ok-Ranges.ensures ∙ range_size (listed c.args.self.now.classes.now) _ h.2 h.1 h.0
