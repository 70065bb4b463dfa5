-- The class numbers of glyph sets, and class definition tables.
use Rattle.std.specs.Prelude.{ℕ, ◌+◌, ◌-◌, ◌*◌, Bool, true, false, cond, not, ◌&&◌, ◌||◌, List, [], ◌∷◌, map, length, ◌==◌, nat_lt, slice_index}
use Rattle.spec.specs.Lists.{keep, count, has, concat, rising, numbers}
use Rattle.spec.specs.Coverage.{Range, ranges}

-- s is numbered before t: it is larger, or as large with a lower first glyph
abbrev pub set_before : List ℕ → List ℕ → Bool
set_before s t = nat_lt (length t) (length s) || (length s == length t && nat_lt (slice_index s 0) (slice_index t 0))

-- the number of a set: how many of the sets come before it
abbrev pub rank : List (List ℕ) → List ℕ → ℕ
rank sets s = count (λ t. set_before t s) sets

-- the class of a glyph by the set that holds it, `from` being the lowest class; 0 for a glyph of no set
abbrev pub class_among : List (List ℕ) → ℕ → List (List ℕ) → ℕ → ℕ
class_among sets from [] g = 0
class_among sets from (s ∷ ss) g = elim (has g s) [ true ↦ from + rank sets s | false ↦ class_among sets from ss g ]

abbrev pub class_of : List (List ℕ) → ℕ → ℕ → ℕ
class_of sets from g = class_among sets from sets g

-- all glyphs of the sets, rising
abbrev pub glyphs_of : List (List ℕ) → List ℕ
glyphs_of sets = rising (concat sets)

-- what a class definition lists: glyphs with their classes, rising, class 0 left out
abbrev pub classed : List (List ℕ) → ℕ → List (ℕ × ℕ)
classed sets from = keep (λ p. not (p.1 == 0)) (map (λ g. (g, class_of sets from g)) (glyphs_of sets))

-- the class listed for a glyph: 0 if it is not listed
abbrev pub class_at : List (ℕ × ℕ) → ℕ → ℕ
class_at [] g = 0
class_at (p ∷ ps) g = elim (p.0 == g) [ true ↦ p.1 | false ↦ class_at ps g ]

abbrev pub first_listed : List (ℕ × ℕ) → ℕ
first_listed [] = 0
first_listed (p ∷ ps) = p.0

abbrev pub last_from : ℕ → List (ℕ × ℕ) → ℕ
last_from g [] = g
last_from g (p ∷ ps) = last_from p.0 ps

-- last − first + 1
abbrev pub span : List (ℕ × ℕ) → ℕ
span [] = 0
span (p ∷ ps) = last_from p.0 ps - p.0 + 1

-- a glyph is listed, and the classes of the span are shorter than the ranges: then, and only then, the format is 1
abbrev pub shorter_as_array : List (ℕ × ℕ) → Bool
shorter_as_array [] = false
shorter_as_array (p ∷ ps) = nat_lt (6 + 2 * span (p ∷ ps)) (4 + 6 * length (ranges (p ∷ ps)))

abbrev pub class_format : List (ℕ × ℕ) → ℕ
class_format ps = cond (shorter_as_array ps) 1 2

-- format 1: the class of each glyph of the span
abbrev pub class_array : List (ℕ × ℕ) → List ℕ
class_array ps = map (class_at ps) (numbers (first_listed ps) (span ps))

-- format 2: start, end and class of each range
abbrev pub class_range_fields : List Range → List ℕ
class_range_fields [] = []
class_range_fields (r ∷ rs) = r.start ∷ r.end ∷ r.class ∷ class_range_fields rs
