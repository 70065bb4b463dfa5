-- Ranges of glyphs, and coverage tables. Glyphs come in rising order.
use Rattle.std.specs.Prelude.{ℕ, ◌+◌, ◌-◌, ◌*◌, Bool, true, false, cond, ◌&&◌, List, [], ◌∷◌, map, length, Option, ◌==◌, nat_eq, nat_lt}
use Rattle.spec.specs.Lists.{place_of}

-- glyphs without a gap, all of one class
pub record Range : Type 0 where
  pub start : ℕ
  pub end : ℕ
  pub class : ℕ

-- a glyph before the ranges of the glyphs behind it: it is part of the next range if that begins one higher with its class
abbrev pub joined : ℕ → ℕ → List Range → List Range
joined g c [] = record { start = g; end = g; class = c } ∷ []
joined g c (r ∷ rs) = elim (r.start == g + 1 && r.class == c) [ true ↦ record { start = g; end = r.end; class = c } ∷ rs | false ↦ record { start = g; end = g; class = c } ∷ r ∷ rs ]

-- the ranges of glyphs with their classes
abbrev pub ranges : List (ℕ × ℕ) → List Range
ranges [] = []
ranges (p ∷ ps) = joined p.0 p.1 (ranges ps)

-- coverage knows no classes
abbrev pub glyph_ranges : List ℕ → List Range
glyph_ranges gs = ranges (map (λ g. (g, 0)) gs)

-- start, end, and the coverage index of the start, which is i for the first range
abbrev pub range_fields : ℕ → List Range → List ℕ
range_fields i [] = []
range_fields i (r ∷ rs) = r.start ∷ r.end ∷ i ∷ range_fields (i + (r.end - r.start) + 1) rs

-- the ranges are shorter than the glyphs themselves: then, and only then, the format is 2
abbrev pub shorter_as_ranges : List ℕ → Bool
shorter_as_ranges gs = nat_lt (4 + 6 * length (glyph_ranges gs)) (4 + 2 * length gs)

abbrev pub coverage_format : List ℕ → ℕ
coverage_format gs = cond (shorter_as_ranges gs) 2 1

-- the count, and the fields behind it
abbrev pub coverage_count : List ℕ → ℕ
coverage_count gs = cond (shorter_as_ranges gs) (length (glyph_ranges gs)) (length gs)

abbrev pub coverage_entries : List ℕ → List ℕ
coverage_entries gs = cond (shorter_as_ranges gs) (range_fields 0 (glyph_ranges gs)) gs

-- the coverage index of a glyph: its place among the covered glyphs
abbrev pub coverage_index : List ℕ → ℕ → Option ℕ
coverage_index gs g = place_of (λ x. nat_eq x g) 0 gs
