use Rattle.std.proofs.Common.{inl, inr, rules}
use Rattle.std.proofs.lemmas.Result.{err_from_is_err_and}
use Rattle.layout.proofs.Places.{begin, again, more, fails, ends}
use Rattle.layout.proofs.Values.{picked_all, picked_yes, picked_end}
use Rattle.layout.proofs.value.write_value.Goals as goal

pub loop-bit-init : goal.loop-bit-init
loop-bit-init c = again (begin c.args.out.now _ (search rules)) _ (picked_all c.args.format c.args.fields.now _ _ c.told-fields (search rules) (search rules))

pub loop-bit-preserved-in-Continue-branch-2 : goal.loop-bit-preserved-in-Continue-branch-2
loop-bit-preserved-in-Continue-branch-2 c = let s = c.in-Some.ensures.steps in
    more c.loop-bit.invariant _ _ (picked_yes c.args.format _ _ _ _ _ _ s.0 s.1 c.if-format-bit-ne0.true) c.in_ok-field.ensures

pub returns-in_err-field : goal.returns-in_err-field
returns-in_err-field c =
    let s = c.in-Some.ensures.steps in
    let p = err_from_is_err_and c.from_residual-in_err-field.result c.from_residual-in_err-field.ensures.1 in
    fails c.loop-bit.invariant c.from_residual-in_err-field.result _ _ (picked_yes c.args.format _ _ _ _ _ _ s.0 s.1 c.if-format-bit-ne0.true) c.in_err-field.ensures _ p.1 p.2

pub returns : goal.returns
returns c = ends c.loop-bit.invariant (picked_end c.args.format _ _ (elim c.in-None.ensures.steps [ inl x ↦ inl x.1.0 | inr x ↦ inr x.1.0 ]))
