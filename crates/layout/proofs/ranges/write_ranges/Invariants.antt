use Rattle.std.proofs.Common.{map, length}
use Rattle.spec.specs.Fields.{big_endian}
use Rattle.spec.specs.Coverage.{ranges}
use Rattle.layout.specs.Gathering.{coming, ranged, record_fields}
use Rattle.layout.proofs.Places.{Midway}
use Rattle.layout.proofs.RangeWriting.{Covers}
use Rattle.layout.proofs.ranges.write_ranges.Given as goal

abbrev pub invariant-loop-range : goal.invariant-loop-range
invariant-loop-range g l = record {
  written : Midway l.initial.out l.out (big_endian (record_fields g.T.Listed.third l.index (map ranged (coming g.T.Listed.listed l.range-iterator)))) (big_endian (record_fields g.T.Listed.third 0 (ranges (map g.T.Listed.listed l.entries))));
  covers : Covers l.index (length l.entries) (coming g.T.Listed.listed l.range-iterator);
}
