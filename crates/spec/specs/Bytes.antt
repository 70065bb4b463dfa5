-- The bytes of a lookup. A table is its fields in order; where an offset is written stands the child that it leads to.
use Rattle.std.specs.Prelude.{ℕ, ◌+◌, ◌/◌, ◌%◌, Bool, true, false, cond, ◌&&◌, ◌||◌, List, [], ◌∷◌, ◌++◌, map, length, Some, None, Option, ◌==◌, bit_or, nat_lt}
use Rattle.spec.specs.Lists.{first, all, list_before, sorted, numbers}
use Rattle.spec.specs.Fields.{big_endian, bits_of, Stand}
use Rattle.spec.specs.Denials.{Word, Part, Denial, arises, at_place, when, prevailing}
use Rattle.spec.specs.Values.{Metric, ValueRecord, DeviceOrVariationIndex, empty, format, writing_order, same_record}
use Rattle.spec.specs.Devices.{device_fields, variation_fields}
use Rattle.spec.specs.Coverage.{ranges, coverage_format, coverage_count, coverage_entries}
use Rattle.spec.specs.Classes.{rank, classed, glyphs_of, shorter_as_array, span, first_listed, class_array, class_range_fields}
use Rattle.spec.specs.Build.{BuiltSingle, BuiltPair, Cell, PairSubtable, first_glyphs, pair_set}

pub data Table : Type 0 where
  end : Table
  -- a field, a field that is a count, and the offset of a child
  field : ℕ → Table → Table
  count : ℕ → Table → Table
  child : Table → Table → Table

abbrev pub fields : List ℕ → Table → Table
fields [] t = t
fields (n ∷ ns) t = field n (fields ns t)

abbrev pub children : List Table → Table → Table
children [] t = t
children (c ∷ cs) t = child c (children cs t)

-- ---- the layout

-- the bytes of a table's own fields
abbrev pub own : Table → ℕ
own end = 0
own (field n t) = 2 + own t
own (count n t) = 2 + own t
own (child c t) = 2 + own t

-- the bytes of a table with all below it
abbrev pub size : Table → ℕ
size end = 0
size (field n t) = 2 + size t
size (count n t) = 2 + size t
size (child c t) = 2 + size c + size t

-- the numbers in the fields, if the next child stands at offset `at`
abbrev pub head : ℕ → Table → List ℕ
head at end = []
head at (field n t) = n ∷ head at t
head at (count n t) = n ∷ head at t
head at (child c t) = at ∷ head (at + size c) t

-- the children in offset order, each with its own children before the next
abbrev pub below : Table → List ℕ
below end = []
below (field n t) = below t
below (count n t) = below t
below (child c t) = (big_endian (head (own c) c) ++ below c) ++ below t

-- a table's fields come first, then its children
abbrev pub bytes : Table → List ℕ
bytes t = big_endian (head (own t) t) ++ below t

-- a table lies in the bytes at a position: its fields stand there, and each child lies at its offset; `at` is the next offset
abbrev pub Below : List ℕ → ℕ → ℕ → Table → Type 0
Below bs base at end = Unit {0}
Below bs base at (field n t) = Below bs base at t
Below bs base at (count n t) = Below bs base at t
Below bs base at (child c t) = Stand bs (base + at) (head (own c) c) × Below bs (base + at) (own c) c × Below bs base (at + size c) t

abbrev pub Lies : List ℕ → ℕ → Table → Type 0
Lies bs base t = Stand bs base (head (own t) t) × Below bs base (own t) t

-- a count above 65,535 somewhere in it
abbrev pub too_many : Table → Bool
too_many end = false
too_many (field n t) = too_many t
too_many (count n t) = nat_lt 65535 n || too_many t
too_many (child c t) = too_many c || too_many t

-- the highest offset that a field can hold
abbrev pub ceiling : ℕ
ceiling = 65535

-- an offset above that somewhere in it, if the next child stands at offset `at`
abbrev pub far : ℕ → Table → Bool
far at end = false
far at (field n t) = far at t
far at (count n t) = far at t
far at (child c t) = nat_lt ceiling at || far (own c) c || far (at + size c) t

abbrev pub too_far : Table → Bool
too_far t = far (own t) t

-- ---- coverage, class definitions, records

-- rising glyphs
abbrev pub coverage : List ℕ → Table
coverage gs = field (coverage_format gs) (count (coverage_count gs) (fields (coverage_entries gs) end))

-- rising glyphs with their classes
abbrev pub class_def : List (ℕ × ℕ) → Table
class_def ps = cond (shorter_as_array ps)
    (field 1 (field (first_listed ps) (count (span ps) (fields (class_array ps) end))))
    (field 2 (count (length (ranges ps)) (fields (class_range_fields (ranges ps)) end)))

-- a device table, or a variation index table in its place
abbrev pub beside_table : DeviceOrVariationIndex → Table
beside_table (DeviceOrVariationIndex.device d) = fields (device_fields d) end
beside_table (DeviceOrVariationIndex.variation_index n) = fields (variation_fields n) end

-- an absent metric is default 0 with nothing beside it; nothing beside it is offset 0
abbrev pub default_of : Option (Metric DeviceOrVariationIndex) → ℕ
default_of None = 0
default_of (Some m) = bits_of 16 m.default

abbrev pub offset_of : Option DeviceOrVariationIndex → Table → Table
offset_of None t = field 0 t
offset_of (Some b) t = child (beside_table b) t

abbrev pub device_of : Option (Metric DeviceOrVariationIndex) → Table → Table
device_of None t = field 0 t
device_of (Some m) t = offset_of m.beside t

-- the lowest bit of f says whether the first metric has the field
abbrev pub defaults : ℕ → List (Option (Metric DeviceOrVariationIndex)) → Table → Table
defaults f [] t = t
defaults f (m ∷ ms) t = elim (f % 2 == 1) [ true ↦ field (default_of m) (defaults (f / 2) ms t) | false ↦ defaults (f / 2) ms t ]

abbrev pub devices : ℕ → List (Option (Metric DeviceOrVariationIndex)) → Table → Table
devices f [] t = t
devices f (m ∷ ms) t = elim (f % 2 == 1) [ true ↦ device_of m (devices (f / 2) ms t) | false ↦ devices (f / 2) ms t ]

-- a record in a value format, before the rest of its table
abbrev pub values : ℕ → ValueRecord DeviceOrVariationIndex → Table → Table
values f r t = defaults f (writing_order r) (devices (f / 16) (writing_order r) t)

-- ---- SinglePos: format 1 if the value format is empty or all records are the same, else format 2

abbrev pub single_values : ℕ → List BuiltSingle → Table
single_values f [] = end
single_values f (e ∷ es) = values f e.values (single_values f es)

abbrev pub single_table : List BuiltSingle → Table
single_table [] = end
single_table (e ∷ es) = let f = format e.values in let cover = coverage (map (λ x. x.glyph) (e ∷ es)) in
    elim (f == 0 || all (λ x. same_record x.values e.values) es) [
      | true ↦ field 1 (child cover (field f (values f e.values end)))
      | false ↦ field 2 (child cover (field f (count (length (e ∷ es)) (single_values f (e ∷ es)))))
    ]

-- ---- PairPos format 1: glyph pairs

-- second glyphs, each with its two records
abbrev pub pair_values : ℕ → ℕ → List BuiltPair → Table
pair_values f1 f2 [] = end
pair_values f1 f2 (e ∷ es) = field e.second (values f1 e.values1 (values f2 e.values2 (pair_values f1 f2 es)))

abbrev pub pair_set_table : ℕ → ℕ → List BuiltPair → Table
pair_set_table f1 f2 es = count (length es) (pair_values f1 f2 es)

abbrev pub glyph_pair_table : ℕ → ℕ → List BuiltPair → Table
glyph_pair_table f1 f2 es = let firsts = first_glyphs es in
    field 1 (child (coverage firsts) (field f1 (field f2 (count (length firsts) (children (map (λ g. pair_set_table f1 f2 (pair_set es g)) firsts) end)))))

-- ---- PairPos format 2: class pairs

-- the different sets of one side
abbrev pub side : List (List ℕ) → List (List ℕ)
side sets = sorted list_before sets

-- the union of value formats
abbrev pub union : List ℕ → ℕ
union [] = 0
union (f ∷ fs) = bit_or f (union fs)

-- all numbers of two classes, row by row
abbrev pub row : ℕ → List ℕ → List (ℕ × ℕ)
row i js = map (λ j. (i, j)) js

abbrev pub rows : List ℕ → List ℕ → List (ℕ × ℕ)
rows [] js = []
rows (i ∷ is) js = row i js ++ rows is js

-- the cell of two classes: they are numbered from 0 on the first side, from 1 on the second
abbrev pub cell_at : List (List ℕ) → List (List ℕ) → List Cell → ℕ × ℕ → Option Cell
cell_at s1 s2 es k = first (λ e. (rank s1 e.first == k.0) && 1 + rank s2 e.second == k.1) es

-- its records, or zeros without one
abbrev pub cell_values : ℕ → ℕ → Option Cell → Table → Table
cell_values f1 f2 None t = values f1 empty (values f2 empty t)
cell_values f1 f2 (Some e) t = values f1 e.values1 (values f2 e.values2 t)

abbrev pub matrix : ℕ → ℕ → List (Option Cell) → Table
matrix f1 f2 [] = end
matrix f1 f2 (c ∷ cs) = cell_values f1 f2 c (matrix f1 f2 cs)

abbrev pub class_pair_table : List Cell → Table
class_pair_table es =
    let s1 = side (map (λ e. e.first) es) in let s2 = side (map (λ e. e.second) es) in
    let n1 = length s1 in let n2 = length s2 + 1 in
    let f1 = union (map (λ e. format e.values1) es) in let f2 = union (map (λ e. format e.values2) es) in
    field 2 (child (coverage (glyphs_of s1)) (field f1 (field f2 (child (class_def (classed s1 0)) (child (class_def (classed s2 1))
    (count n1 (count n2 (matrix f1 f2 (map (cell_at s1 s2 es) (rows (numbers 0 n1) (numbers 0 n2)))))))))))

abbrev pub pair_table : PairSubtable → Table
pair_table (PairSubtable.glyph_pairs f1 f2 es) = glyph_pair_table f1 f2 es
pair_table (PairSubtable.class_pairs es) = class_pair_table es

-- ---- the lookup

abbrev pub mark_field : Option ℕ → Table
mark_field None = end
mark_field (Some m) = field m end

-- type, flags, the subtables, and the mark filtering set if there is one
abbrev pub lookup_table : ℕ → ℕ → Option ℕ → List Table → Table
lookup_table type flags mark subs = field type (field flags (count (length subs) (children subs (mark_field mark))))

-- THE BYTES of a lookup with these subtables
abbrev pub lookup_bytes : ℕ → ℕ → Option ℕ → List Table → List ℕ
lookup_bytes type flags mark subs = bytes (lookup_table type flags mark subs)

-- the first subtable, the first being k, with too many in it; and with an offset too far in it or to it
abbrev pub first_too_many : ℕ → List Table → Option ℕ
first_too_many k [] = None
first_too_many k (t ∷ ts) = elim (too_many t) [ true ↦ Some k | false ↦ first_too_many (k + 1) ts ]

abbrev pub first_too_far : ℕ → ℕ → List Table → Option ℕ
first_too_far k at [] = None
first_too_far k at (t ∷ ts) = elim (nat_lt ceiling at || too_far t) [ true ↦ Some k | false ↦ first_too_far (k + 1) (at + size t) ts ]

-- THE DENIAL of a write into so many bytes, or none: too many anywhere, then too far, then an output that is too short
abbrev pub write_denial : ℕ → ℕ → ℕ → Option ℕ → List Table → Option Denial
write_denial room type flags mark subs = let t = lookup_table type flags mark subs in
    prevailing (at_place Word.too_many Part.writer (first_too_many 0 subs))
    (prevailing (at_place Word.too_far Part.writer (first_too_far 0 (own t) subs)) (when (nat_lt room (size t)) (arises Word.short_output (size t) Part.writer)))
