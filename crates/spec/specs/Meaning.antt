-- What OpenType says that bytes mean, whoever made them. Every field is named by its byte position from the lookup's first byte.
-- Fields are read in one fixed order, only those that are needed, and the first fault ends the reading with its position: a field
-- that lies outside, a wrong lookup type, an unknown format, or the count that an index or a class is not below.
use Rattle.std.specs.Prelude.{ℕ, zero, suc, ◌+◌, ◌-◌, ◌*◌, ◌/◌, ◌%◌, true, false, ◌&&◌, ◌||◌, List, [], ◌∷◌, get_or, ℤ, pos, Some, None, Ok, Err, Option, Result, ◌==◌, nat_le, nat_lt, slice_index_or}
use Rattle.spec.specs.Fields.{field, and_then, signed}
use Rattle.spec.specs.Values.{ones, encoded_size}
use Rattle.spec.specs.Devices.{per_word, unpack}

-- one metric as read: its default, its device value at the pixel size, its store id
pub record ReadMetric : Type 0 where
  pub default : ℤ
  pub device : ℤ
  pub id : ℕ

-- a metric without an id has this one
abbrev pub no_id : ℕ
no_id = 0xFFFF_FFFF

-- what a reading of a lookup or a subtable gives: the metrics of each record, or none
abbrev pub Reading : Type 0
Reading = Result (Option (List (List ReadMetric))) ℕ

-- goes on with a coverage index; a glyph that is not covered is for the next subtable
abbrev pub if_covered : {A : Type 0} → Option ℕ → (ℕ → Result (Option A) ℕ) → Result (Option A) ℕ
if_covered None f = Ok None
if_covered (Some i) f = f i

module _ (bs : List ℕ) where
  -- ---- searches take the first match in written order

  -- n glyphs are left, the next at `at` and of index i
  abbrev pub glyph_search : ℕ → ℕ → ℕ → ℕ → Result (Option ℕ) ℕ
  glyph_search g at i zero = Ok None
  glyph_search g at i (suc n) = and_then (field bs at) (λ x. elim (x == g) [ true ↦ Ok (Some i) | false ↦ glyph_search g (at + 2) (i + 1) n ])

  -- n ranges are left, the next at `at`: the start and the third field of the first that holds the glyph. A range's end is read
  -- only if its start is not above the glyph
  abbrev pub range_search : ℕ → ℕ → ℕ → Result (Option (ℕ × ℕ)) ℕ
  range_search g at zero = Ok None
  range_search g at (suc n) = and_then (field bs at) (λ s. elim (nat_le s g) [
    | true ↦ and_then (field bs (at + 2)) (λ e. elim (nat_le g e) [
      | true ↦ and_then (field bs (at + 4)) (λ x. Ok (Some (s, x)))
      | false ↦ range_search g (at + 6) n
    ])
    | false ↦ range_search g (at + 6) n
  ])

-- ---- coverage: the index of a glyph, or none

-- the third field of a range is the coverage index of its start
abbrev pub index_in : ℕ → Option (ℕ × ℕ) → Option ℕ
index_in g None = None
index_in g (Some r) = Some (r.1 + (g - r.0))

abbrev pub covered_by_glyphs : List ℕ → ℕ → ℕ → Result (Option ℕ) ℕ
covered_by_glyphs bs at g = and_then (field bs (at + 2)) (λ n. glyph_search bs g (at + 4) 0 n)

abbrev pub covered_by_ranges : List ℕ → ℕ → ℕ → Result (Option ℕ) ℕ
covered_by_ranges bs at g = and_then (field bs (at + 2)) (λ n. and_then (range_search bs g (at + 4) n) (λ r. Ok (index_in g r)))

abbrev pub covered : List ℕ → ℕ → ℕ → Result (Option ℕ) ℕ
covered bs at g = and_then (field bs at) (λ f. elim (f == 1) [
  | true ↦ covered_by_glyphs bs at g
  | false ↦ elim (f == 2) [ true ↦ covered_by_ranges bs at g | false ↦ Err at ]
])

-- ---- class definitions: the class of a glyph, 0 if it is not listed

-- the third field of a range is its class
abbrev pub class_in : Option (ℕ × ℕ) → ℕ
class_in None = 0
class_in (Some r) = r.1

-- the count is read only if the start is not above the glyph
abbrev pub class_by_array : List ℕ → ℕ → ℕ → Result ℕ ℕ
class_by_array bs at g = and_then (field bs (at + 2)) (λ s. elim (nat_le s g) [
  | false ↦ Ok 0
  | true ↦ and_then (field bs (at + 4)) (λ n. elim (nat_lt (g - s) n) [
    | false ↦ Ok 0
    | true ↦ field bs (at + 6 + 2 * (g - s))
  ])
])

abbrev pub class_by_ranges : List ℕ → ℕ → ℕ → Result ℕ ℕ
class_by_ranges bs at g = and_then (field bs (at + 2)) (λ n. and_then (range_search bs g (at + 4) n) (λ r. Ok (class_in r)))

abbrev pub class : List ℕ → ℕ → ℕ → Result ℕ ℕ
class bs at g = and_then (field bs at) (λ f. elim (f == 1) [
  | true ↦ class_by_array bs at g
  | false ↦ elim (f == 2) [ true ↦ class_by_ranges bs at g | false ↦ Err at ]
])

-- ---- devices and variation indices: a device value and a store id

abbrev pub nothing : ℤ × ℕ
nothing = (pos 0, no_id)

-- the word that holds the value at a pixel size within the range; outside it the value is 0
abbrev pub device_value : List ℕ → ℕ → ℕ → ℕ → ℕ → ℕ → Result (ℤ × ℕ) ℕ
device_value bs size at start end f = elim (nat_le start size && nat_le size end) [
  | false ↦ Ok nothing
  | true ↦ and_then (field bs (at + 6 + 2 * ((size - start) / per_word f))) (λ w. Ok (unpack f w ((size - start) % per_word f), no_id))
]

-- its three fields, then its word if the size is in range; of a variation index they are outer index, inner index and 0x8000
abbrev pub beside : List ℕ → ℕ → ℕ → Result (ℤ × ℕ) ℕ
beside bs size at = and_then (field bs at) (λ a. and_then (field bs (at + 2)) (λ b. and_then (field bs (at + 4)) (λ f. elim (f == 0x8000) [
  | true ↦ Ok (pos 0, a * 65536 + b)
  | false ↦ elim (nat_le 1 f && nat_le f 3) [ true ↦ device_value bs size at a b f | false ↦ Err (at + 4) ]
])))

-- ---- value records

module _ (bs : List ℕ) where
  -- n metrics are left in writing order; the lowest bit of f says whether the next has its field, which then is at `at`
  abbrev pub defaults : ℕ → ℕ → ℕ → Result (List ℤ) ℕ
  defaults at f zero = Ok []
  defaults at f (suc n) = elim (f % 2 == 1) [
    | true ↦ and_then (field bs at) (λ x. and_then (defaults (at + 2) (f / 2) n) (λ xs. Ok (signed 16 x ∷ xs)))
    | false ↦ and_then (defaults at (f / 2) n) (λ xs. Ok (pos 0 ∷ xs))
  ]

  -- likewise for device offsets, each device read right after its offset; offset 0 is no device, others count from `base`
  abbrev pub devices : ℕ → ℕ → ℕ → ℕ → ℕ → Result (List (ℤ × ℕ)) ℕ
  devices size base at f zero = Ok []
  devices size base at f (suc n) = elim (f % 2 == 1) [
    | true ↦ and_then (field bs at) (λ o. and_then (elim (o == 0) [ true ↦ Ok nothing | false ↦ beside bs size (base + o) ])
        (λ x. and_then (devices size base (at + 2) (f / 2) n) (λ xs. Ok (x ∷ xs))))
    | false ↦ and_then (devices size base at (f / 2) n) (λ xs. Ok (nothing ∷ xs))
  ]

-- metric i of writing order
abbrev pub metric : List ℤ → List (ℤ × ℕ) → ℕ → ReadMetric
metric ds xs i = record { default = slice_index_or ds i (pos 0); device = (get_or xs i nothing).0; id = (get_or xs i nothing).1 }

-- x and y placement are written first; x and y advance are answered first
abbrev pub values : List ℕ → ℕ → ℕ → ℕ → ℕ → Result (List ReadMetric) ℕ
values bs size base at f = and_then (defaults bs at f 4) (λ ds. and_then (devices bs size base (at + 2 * ones 4 f) (f / 16) 4) (λ xs.
    Ok (metric ds xs 2 ∷ metric ds xs 3 ∷ metric ds xs 0 ∷ metric ds xs 1 ∷ [])))

abbrev pub one_record : List ℕ → ℕ → ℕ → ℕ → ℕ → Reading
one_record bs size base at f = and_then (values bs size base at f) (λ r. Ok (Some (r ∷ [])))

-- all ones of the first format count for where the second record stands
abbrev pub two_records : List ℕ → ℕ → ℕ → ℕ → ℕ → ℕ → Reading
two_records bs size base at f1 f2 = and_then (values bs size base at f1) (λ r. and_then (values bs size base (at + encoded_size f1) f2) (λ s. Ok (Some (r ∷ s ∷ []))))

-- ---- SinglePos at `at`

abbrev pub single_2 : List ℕ → ℕ → ℕ → ℕ → ℕ → Reading
single_2 bs size at i f = and_then (field bs (at + 6)) (λ n. elim (nat_lt i n) [
  | true ↦ one_record bs size at (at + 8 + i * encoded_size f) f
  | false ↦ Err (at + 6)
])

abbrev pub single : List ℕ → ℕ → ℕ → ℕ → Reading
single bs size g at = and_then (field bs at) (λ kind. elim (kind == 1 || kind == 2) [
  | false ↦ Err at
  | true ↦ and_then (field bs (at + 2)) (λ o. and_then (covered bs (at + o) g) (λ c. if_covered c (λ i. and_then (field bs (at + 4)) (λ f. elim (kind == 1) [
    | true ↦ one_record bs size at (at + 6) f
    | false ↦ single_2 bs size at i f
  ]))))
])

-- ---- PairPos at `at`

module _ (bs : List ℕ) where
  -- n pairs are left in the pair set at `base`, the next at `at`
  abbrev pub pair_search : ℕ → ℕ → ℕ → ℕ → ℕ → ℕ → ℕ → Reading
  pair_search size h f1 f2 base at zero = Ok None
  pair_search size h f1 f2 base at (suc n) = and_then (field bs at) (λ x. elim (x == h) [
    | true ↦ two_records bs size base (at + 2) f1 f2
    | false ↦ pair_search size h f1 f2 base (at + 2 + encoded_size f1 + encoded_size f2) n
  ])

-- without the second glyph in the pair set it is for the next subtable
abbrev pub glyph_pair : List ℕ → ℕ → ℕ → ℕ → ℕ → ℕ → ℕ → Reading
glyph_pair bs size h at i f1 f2 = and_then (field bs (at + 8)) (λ n. elim (nat_lt i n) [
  | false ↦ Err (at + 8)
  | true ↦ and_then (field bs (at + 10 + 2 * i)) (λ o. and_then (field bs (at + o)) (λ m. pair_search bs size h f1 f2 (at + o) (at + o + 2) m))
])

-- a class definition's class, checked at once against its count, which stands at `from`
abbrev pub class_below : List ℕ → ℕ → ℕ → ℕ → ℕ → Result ℕ ℕ
class_below bs at g n from = and_then (class bs at g) (λ c. elim (nat_lt c n) [ true ↦ Ok c | false ↦ Err from ])

-- it applies as soon as the first glyph is covered
abbrev pub class_pair : List ℕ → ℕ → ℕ → ℕ → ℕ → ℕ → ℕ → Reading
class_pair bs size g h at f1 f2 = and_then (field bs (at + 12)) (λ n1. and_then (field bs (at + 14)) (λ n2.
    and_then (field bs (at + 8)) (λ o1. and_then (class_below bs (at + o1) g n1 (at + 12)) (λ c1.
    and_then (field bs (at + 10)) (λ o2. and_then (class_below bs (at + o2) h n2 (at + 14)) (λ c2.
    two_records bs size at (at + 16 + (c1 * n2 + c2) * (encoded_size f1 + encoded_size f2)) f1 f2))))))

abbrev pub pair : List ℕ → ℕ → ℕ × ℕ → ℕ → Reading
pair bs size q at = and_then (field bs at) (λ kind. elim (kind == 1 || kind == 2) [
  | false ↦ Err at
  | true ↦ and_then (field bs (at + 2)) (λ o. and_then (covered bs (at + o) q.0) (λ c. if_covered c (λ i.
      and_then (field bs (at + 4)) (λ f1. and_then (field bs (at + 6)) (λ f2. elim (kind == 1) [
        | true ↦ glyph_pair bs size q.1 at i f1 f2
        | false ↦ class_pair bs size q.0 q.1 at f1 f2
      ])))))
])

-- ---- the lookup: subtables are tried in order

module _ (bs : List ℕ) where
  -- n subtables are left, the next offset at `at`; none from a subtable means the next
  abbrev pub tried : {A : Type 0} → (ℕ → Result (Option A) ℕ) → ℕ → ℕ → Result (Option A) ℕ
  tried try at zero = Ok None
  tried try at (suc n) = and_then (field bs at) (λ o. and_then (try o) (elim [ Some x ↦ Ok (Some x) | None ↦ tried try (at + 2) n ]))

abbrev pub lookup : {A : Type 0} → List ℕ → ℕ → (ℕ → Result (Option A) ℕ) → Result (Option A) ℕ
lookup bs type try = and_then (field bs 0) (λ t. elim (t == type) [
  | false ↦ Err 0
  | true ↦ and_then (field bs 4) (λ n. tried bs try 6 n)
])

-- THE MEANING of bytes for a question at a pixel size: the records, none, or the position of the first fault
abbrev pub single_meaning : List ℕ → ℕ → ℕ → Reading
single_meaning bs size g = lookup bs 1 (single bs size g)

abbrev pub pair_meaning : List ℕ → ℕ → ℕ × ℕ → Reading
pair_meaning bs size q = lookup bs 2 (pair bs size q)
