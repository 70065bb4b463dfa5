use Rattle.std.proofs.Common.{◌≡◌, ◌+◌, ◌-◌, length, subst, arith, rules}
use Rattle.layout.specs.Gathering.{coming}
use Rattle.layout.proofs.Places.{begin, again, more}
use Rattle.layout.proofs.RangeWriting.{Covers, covers_all, fields_all, covers_next, fields_next}
use Rattle.layout.proofs.ranges.write_ranges.Goals as goal

pub loop-range-init : goal.loop-range-init
loop-range-init g c = record {
  written = again (begin c.args.out.now _ (search rules)) _ (fields_all g.T.Listed.listed c.args.entries.now c.into_iter-range-iterator.result (search rules) (search rules) g.T.Listed.third);
  covers = covers_all g.T.Listed.listed c.args.entries.now c.into_iter-range-iterator.result (search rules) (search rules);
}

pub overflow_cast-index : goal.overflow_cast-index
overflow_cast-index g c = let n = covers_next c.loop-range.index _ _ _ c.in-Some.ensures.steps _ c.loop-range.invariant.covers in omega (arith, n.fits)

pub overflow_add-index-in-loop-range : goal.overflow_add-index-in-loop-range
overflow_add-index-in-loop-range g c = let n = covers_next c.loop-range.index _ _ _ c.in-Some.ensures.steps _ c.loop-range.invariant.covers in omega (arith, n.fits)

pub loop-range-preserved : goal.loop-range-preserved
loop-range-preserved g c =
    let i = c.loop-range.invariant in
    let n = covers_next c.loop-range.index _ _ _ c.in-Some.ensures.steps _ i.covers in
    let k : c.loop-range.index + (c.in-Some.range.end - c.in-Some.range.start) + 1 ≡ c.loop-range.index + (c.from.result + 1) = omega arith in
    record {
      written = more i.written _ _ (fields_next c.loop-range.index c.in-Some.range _ _ c.in-Some.ensures.steps g.T.Listed.third _ _ c.third_field-third.ensures k) c.in_ok-fields.ensures;
      covers = subst (λ j. Covers j (length c.args.entries.now) (coming g.T.Listed.listed c.next.new.self)) k n.covers;
    }
