use Rattle.std.proofs.Common.{◌≡◌, ◌+◌, ◌≤◌, map, length, drop, arith, rules}
use Rattle.layout.specs.Gathering.{gathered}
use Rattle.layout.proofs.Gathering.{few_all, count_none, count_next, count_last}
use Rattle.layout.proofs.ranges.count_ranges.Goals as goal
use Rattle.layout.proofs.ranges.count_ranges.Goals.{After-from-count, After-from}

pub loop-entry-init : goal.loop-entry-init
loop-entry-init g c = omega (arith, count_none g.T.Listed.listed c.args.entries.now)

next : (g : _) (c : After-from-count g) → length (gathered c.loop-entry.gatherer.open (map g.T.Listed.listed (drop c.loop-entry.entry-index c.args.entries.now))) ≡ c.from-count.result + length (gathered c.next-closed.new.self.open (map g.T.Listed.listed (drop (c.loop-entry.entry-index + 1) c.args.entries.now)))
next g c =
    let l = c.glyph_class-listed.ensures in
    let n = count_next g.T.Listed.listed c.args.entries.now c.loop-entry.entry-index c.entry-item.result c.loop-entry-test.true c.entry-item.is _ _ l.glyph l.class _ _ _ c.next-closed.ensures.open c.next-closed.ensures.closed in
    cc

pub overflow_add-count : goal.overflow_add-count
overflow_add-count g c =
    let n = next g c in
    let f = few_all g.T.Listed.listed c.args.entries.now in
    let i = c.loop-entry.invariant in
    let h : c.loop-entry.count + c.from-count.result ≤ length c.args.entries.now = omega arith in
    search rules

pub loop-entry-preserved : goal.loop-entry-preserved
loop-entry-preserved g c = let n = next g c in let i = c.loop-entry.invariant in omega arith

last : (g : _) (c : After-from g) → length (gathered c.loop-entry.gatherer.open (map g.T.Listed.listed (drop c.loop-entry.entry-index c.args.entries.now))) ≡ c.from.result
last g c = let n = count_last g.T.Listed.listed c.args.entries.now c.loop-entry.entry-index c.loop-entry.gatherer.open c.loop-entry-test.false in cc

pub overflow_add-result : goal.overflow_add-result
overflow_add-result g c =
    let n = last g c in
    let f = few_all g.T.Listed.listed c.args.entries.now in
    let i = c.loop-entry.invariant in
    let h : c.loop-entry.count + c.from.result ≤ length c.args.entries.now = omega arith in
    search rules

pub returns : goal.returns
returns g c =
    let n = last g c in
    let f = few_all g.T.Listed.listed c.args.entries.now in
    let i = c.loop-entry.invariant in
    record { value = omega arith; bound = omega arith }
