use Rattle.std.proofs.Common.{◌≡◌, get_or, pos, ap, ◌∙◌, arith, w8, SFits, rules}
use Rattle.std.proofs.lemmas.Int.{to_z-of_z}
use Rattle.spec.specs.Devices.{needed_format}
use Rattle.layout.specs.DeltaFormats.{number}
use Rattle.layout.proofs.Packing.{format_bounds, format_more, one_within}
use Rattle.layout.proofs.delta_words.delta_format.Goals as goal

pub loop-value-init : goal.loop-value-init
loop-value-init c = let b = format_bounds c.args.values.now in (omega arith, λ e. e)

pub loop-value-preserved : goal.loop-value-preserved
loop-value-preserved c =
    let f : SFits w8 (get_or c.args.values.now c.loop-value.value-index (pos 0)) = search rules in
    let e : number c.for_value.result ≡ needed_format (get_or c.args.values.now c.loop-value.value-index (pos 0)) = c.for_value.ensures ∙ ap needed_format (to_z-of_z w8 _ f) in
    let w = c.wider-format.ensures in
    let m = format_more c.args.values.now c.loop-value.value-index c.loop-value-test.true in
    let i = c.loop-value.invariant in
    (omega arith, λ e. i.1 (one_within c.args.values.now c.loop-value.value-index c.loop-value-test.true f e))
