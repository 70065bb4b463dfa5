use Rattle.std.proofs.Common.{◌≡◌, ◌-◌, ◌*◌, ◌^◌, ◌<◌, ◌≤◌, get_or, pos, sym, ap, ◌∙◌, subst, mul-add, arith, w8, SFits, rules}
use Rattle.std.proofs.lemmas.Int.{to_z-of_z}
use Rattle.std.proofs.lemmas.Nat.{pow_pos}
use Rattle.spec.specs.Fields.{bits_of}
use Rattle.spec.specs.Devices.{width}
use Rattle.layout.specs.DeltaFormats.{number}
use Rattle.layout.proofs.Packing.{low_below, add_step, word_more}
use Rattle.layout.proofs.delta_words.DeltaFormat.pack.Goals as goal

is_low : (c : goal.After-low_bits) → c.low_bits.result ≡ bits_of c.bits-width.result (get_or c.args.values.now c.loop-value.value-index (pos 0))
is_low c =
    let f : SFits w8 (get_or c.args.values.now c.loop-value.value-index (pos 0)) = search rules in
    c.low_bits.ensures ∙ ap (bits_of (width (number c.args.self))) (to_z-of_z w8 _ f) ∙ ap (λ w. bits_of w (get_or c.args.values.now c.loop-value.value-index (pos 0))) (sym c.bits-width.ensures.value)

low_lt : (c : goal.After-low_bits) → c.low_bits.result < 2 ^ c.bits-width.result
low_lt c = subst (λ x. x < 2 ^ c.bits-width.result) (sym (is_low c)) (low_below c.bits-width.result (get_or c.args.values.now c.loop-value.value-index (pos 0)))

within : (c : goal.After-low_bits) → c.bits-width.result ≤ c.loop-value.shift
within c = search rules

pub overflow_add-word : goal.overflow_add-word
overflow_add-word c =
    let i = c.loop-value.invariant in
    let s : c.loop-value.shift ≤ 16 = omega arith in
    let a = add_step c.bits-width.result c.loop-value.shift c.loop-value.word c.low_bits.result (within c) s (low_lt c) i.1 in
    omega (arith, pow_pos (c.loop-value.shift - c.bits-width.result))

pub loop-value-preserved : goal.loop-value-preserved
loop-value-preserved c =
    let i = c.loop-value.invariant in
    let s : c.loop-value.shift ≤ 16 = omega arith in
    let x = within c in
    let a = add_step c.bits-width.result c.loop-value.shift c.loop-value.word c.low_bits.result x s (low_lt c) i.1 in
    let m = word_more c.bits-width.result c.loop-value.shift c.args.values.now c.loop-value.value-index c.loop-value-test.true i.0 in
    let e = ap (λ n. n * 2 ^ (c.loop-value.shift - c.bits-width.result)) (is_low c) in
    (omega (arith, mul-add c.bits-width.result c.loop-value.value-index 1), a.1, omega arith)
