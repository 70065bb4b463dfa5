-- Ranges gathered one glyph after the other.
use Rattle.std.specs.Prelude.{ℕ, ◌+◌, ◌-◌, Bool, true, false, ◌&&◌, List, [], ◌∷◌, map, Some, None, Option, ◌==◌}
use Rattle.spec.specs.Coverage.{Range}
use Rattle.layout.specs.declared.gather.RangeRecord.{RangeRecord}
use Rattle.layout.specs.declared.ranges.Ranges.{Ranges}

-- a glyph extends the open range if it is the next glyph and has its class; else it closes it
abbrev pub step_if : Bool → RangeRecord → ℕ → ℕ → Option RangeRecord × Option RangeRecord
step_if true r g c = (Some (record { start = r.start; end = g; class = c }), None)
step_if false r g c = (Some (record { start = g; end = g; class = c }), Some r)

-- the open range after a glyph, and the range that it closed
abbrev pub step : Option RangeRecord → ℕ → ℕ → Option RangeRecord × Option RangeRecord
step None g c = (Some (record { start = g; end = g; class = c }), None)
step (Some r) g c = step_if (g == r.end + 1 && c == r.class) r g c

-- the ranges of glyphs with their classes behind those gathered
abbrev pub emitted : Option RangeRecord → List RangeRecord → List RangeRecord
emitted None rs = rs
emitted (Some r) rs = r ∷ rs

abbrev pub gathered : Option RangeRecord → List (ℕ × ℕ) → List RangeRecord
gathered o [] = emitted o []
gathered o (p ∷ ps) = emitted (step o p.0 p.1).1 (gathered (step o p.0 p.1).0 ps)

-- the ranges that are to come, f being the glyph and the class of an entry
abbrev pub coming : {E : Type 0} → (E → ℕ × ℕ) → Ranges E → List RangeRecord
coming f s = gathered s.gatherer.open (map f s.entries.now)

-- a range of the code in the definitions
abbrev pub ranged : RangeRecord → Range
ranged r = record { start = r.start; end = r.end; class = r.class }

-- start, end and third field of each range; the coverage index of the first start is i
abbrev pub record_fields : (Range → ℕ → ℕ) → ℕ → List Range → List ℕ
record_fields third i [] = []
record_fields third i (r ∷ rs) = r.start ∷ r.end ∷ third r i ∷ record_fields third (i + (r.end - r.start) + 1) rs
