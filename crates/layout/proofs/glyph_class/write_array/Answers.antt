use Rattle.std.proofs.lemmas.Result.{err_from_is_err_and}
use Rattle.layout.specs.Listing.{listed}
use Rattle.layout.proofs.Places.{more, fails}
use Rattle.layout.proofs.ClassArrays.{classes_next, class_next, onward_next}
use Rattle.layout.proofs.glyph_class.write_array.Goals as goal

pub loop-glyph-preserved : goal.loop-glyph-preserved
loop-glyph-preserved c =
    let i = c.loop-glyph.invariant in
    let e = c.class_here-class.ensures in (
      more i.0 _ _ (classes_next (listed c.args.classes.now) c.loop-glyph.glyph _ _ c.loop-glyph-test.true (class_next _ _ c.class_here-class.result.1.now _ i.1 _ e.class)) c.in_ok-field.ensures,
      onward_next _ _ _ _ i.1 e.behind,
    )

pub returns-in_err-field : goal.returns-in_err-field
returns-in_err-field c =
    let i = c.loop-glyph.invariant in
    let p = err_from_is_err_and c.from_residual.result c.from_residual.ensures.1 in
    fails i.0 c.from_residual.result _ _ (classes_next (listed c.args.classes.now) c.loop-glyph.glyph _ _ c.loop-glyph-test.true (class_next _ _ c.class_here-class.result.1.now _ i.1 _ c.class_here-class.ensures.class)) c.in_err-field.ensures _ p.1 p.2
