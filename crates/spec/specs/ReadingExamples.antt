-- Each fault of reading, on the smallest table that has it, and what reading does not need. Fields are from OpenType's tables.
use Rattle.std.specs.Prelude.{◌≡◌, ℕ, List, [], ◌∷◌, ℤ, pos, negsuc, Some, None, Ok, Err}
use Rattle.spec.specs.Fields.{big_endian}
use Rattle.spec.specs.Meaning.{Reading, no_id, covered, class, single_meaning, pair_meaning}
use Rattle.spec.specs.Cases.{reads, read, read_advance}

abbrev pub reads_single : List ℕ → ℕ → ℕ → Reading
reads_single ws size g = single_meaning (big_endian ws) size g

abbrev pub reads_pair : List ℕ → ℕ → ℕ → Reading
reads_pair ws g h = pair_meaning (big_endian ws) 0 (g, h)

-- lookup type 1, one subtable at 8; coverage stands behind the fields given
abbrev pub single_lookup : List ℕ → List ℕ
single_lookup ws = 1 ∷ 0 ∷ 1 ∷ 8 ∷ ws

abbrev pub pair_lookup : List ℕ → List ℕ
pair_lookup ws = 2 ∷ 0 ∷ 1 ∷ 8 ∷ ws

-- the lookup itself
pub record LookupFaults : Type 0 where
  pub nothing : single_meaning [] 0 5 ≡ Err 0
  pub half_a_field : single_meaning (0 ∷ []) 0 5 ≡ Err 0
  pub wrong_type : reads_single (2 ∷ 0 ∷ 0 ∷ []) 0 5 ≡ Err 0
  -- the flags are not needed, the count at 4 is, and the offset at 6
  pub no_count : reads_single (1 ∷ 0 ∷ []) 0 5 ≡ Err 4
  pub no_offset : reads_single (1 ∷ 0 ∷ 1 ∷ []) 0 5 ≡ Err 6
  pub no_subtables : reads_single (1 ∷ 0 ∷ 0 ∷ []) 0 5 ≡ Ok None
  -- an offset beyond the bytes is told as computed; offset 0 is followed like any other: the type is taken for a format
  pub far_offset : reads_single (1 ∷ 0 ∷ 1 ∷ 1000 ∷ []) 0 5 ≡ Err 1000
  pub offset_zero : reads_single (1 ∷ 6 ∷ 1 ∷ 0 ∷ 0 ∷ []) 0 5 ≡ Err 6
  pub format : reads_single (single_lookup (3 ∷ [])) 0 5 ≡ Err 8

-- SinglePos: 1, coverage offset 8, value format, value; the coverage
pub record SingleFaults : Type 0 where
  pub no_coverage_offset : reads_single (single_lookup (1 ∷ [])) 0 5 ≡ Err 10
  pub coverage_format : reads_single (single_lookup (1 ∷ 8 ∷ 4 ∷ 7 ∷ 3 ∷ [])) 0 5 ≡ Err 16
  pub coverage_count : reads_single (single_lookup (1 ∷ 8 ∷ 4 ∷ 7 ∷ 1 ∷ [])) 0 5 ≡ Err 18
  -- entries are read until the first match: 5 is found, 6 is looked for beyond the end
  pub found : reads_single (single_lookup (1 ∷ 8 ∷ 4 ∷ 7 ∷ 1 ∷ 9 ∷ 5 ∷ [])) 0 5 ≡ Ok (Some (read_advance (pos 7) ∷ []))
  pub sought : reads_single (single_lookup (1 ∷ 8 ∷ 4 ∷ 7 ∷ 1 ∷ 9 ∷ 5 ∷ [])) 0 6 ≡ Err 22
  -- a glyph that is not covered needs neither value format nor record
  pub not_covered : reads_single (single_lookup (1 ∷ 4 ∷ 1 ∷ 0 ∷ [])) 0 5 ≡ Ok None
  pub coverage_outside : reads_single (single_lookup (1 ∷ 0xFFF8 ∷ [])) 0 5 ≡ Err 65536
  -- a table whose fields serve as its coverage too (offset 2: format 2, 15 ranges, the first from 5 to 5): the fourth value is missing
  pub record_outside : reads_single (single_lookup (1 ∷ 2 ∷ 0x0F ∷ 5 ∷ 5 ∷ 0 ∷ [])) 0 5 ≡ Err 20
  -- SinglePos 2: a second glyph is covered, but there is one record
  pub index : reads_single (single_lookup (2 ∷ 10 ∷ 4 ∷ 1 ∷ 7 ∷ 1 ∷ 2 ∷ 5 ∷ 6 ∷ [])) 0 6 ≡ Err 14
  -- reserved bits of a value format count for the size of a record and are not read: record 1 is 4 bytes on
  pub reserved : reads_single (single_lookup (2 ∷ 16 ∷ 0x104 ∷ 2 ∷ 7 ∷ 0 ∷ 8 ∷ 0 ∷ 1 ∷ 2 ∷ 5 ∷ 6 ∷ [])) 0 6 ≡ Ok (Some (read_advance (pos 8) ∷ []))

-- devices: x advance 7 with a device at offset 16 from the subtable
abbrev pub device_lookup : List ℕ → List ℕ
device_lookup ws = single_lookup (1 ∷ 10 ∷ 0x44 ∷ 7 ∷ 16 ∷ 1 ∷ 1 ∷ 5 ∷ ws)

abbrev pub with_value : ℤ → Reading
with_value v = Ok (Some ((reads (pos 7) v no_id ∷ read (pos 0) ∷ read (pos 0) ∷ read (pos 0) ∷ []) ∷ []))

pub record DeviceFaults : Type 0 where
  -- the three fields are needed at every size, the word only in the range
  pub fields : (reads_single (device_lookup []) 0 5 ≡ Err 24) × (reads_single (device_lookup (12 ∷ [])) 0 5 ≡ Err 26) × (reads_single (device_lookup (12 ∷ 13 ∷ [])) 0 5 ≡ Err 28)
  pub format : (reads_single (device_lookup (12 ∷ 13 ∷ 0 ∷ [])) 0 5 ≡ Err 28) × (reads_single (device_lookup (12 ∷ 13 ∷ 4 ∷ [])) 12 5 ≡ Err 28)
  pub outside : reads_single (device_lookup (12 ∷ 13 ∷ 1 ∷ [])) 14 5 ≡ with_value (pos 0)
  pub word : reads_single (device_lookup (12 ∷ 13 ∷ 1 ∷ [])) 13 5 ≡ Err 30
  -- the ninth value of two bits stands in the second word
  pub second_word : (reads_single (device_lookup (12 ∷ 20 ∷ 1 ∷ 0x4000 ∷ [])) 12 5 ≡ with_value (pos 1)) × (reads_single (device_lookup (12 ∷ 20 ∷ 1 ∷ 0x4000 ∷ [])) 20 5 ≡ Err 32)
  -- widths: −1 is 3, 15 and 255 in two, four and eight bits; a range that runs backwards holds no size
  pub widths : (reads_single (device_lookup (12 ∷ 13 ∷ 1 ∷ 0x7000 ∷ [])) 13 5 ≡ with_value (negsuc 0)) × (reads_single (device_lookup (12 ∷ 13 ∷ 2 ∷ 0x1F00 ∷ [])) 13 5 ≡ with_value (negsuc 0))
      × (reads_single (device_lookup (12 ∷ 13 ∷ 3 ∷ 0x01FF ∷ [])) 13 5 ≡ with_value (negsuc 0))
  pub backwards : reads_single (device_lookup (13 ∷ 12 ∷ 1 ∷ [])) 12 5 ≡ with_value (pos 0)
  -- offset 0 is no device
  pub null : reads_single (single_lookup (1 ∷ 10 ∷ 0x44 ∷ 7 ∷ 0 ∷ 1 ∷ 1 ∷ 5 ∷ [])) 12 5 ≡ with_value (pos 0)

-- PairPos 1, with glyph 5 covered
pub record GlyphPairFaults : Type 0 where
  -- 5 is covered, but there is no pair set
  pub index : reads_pair (pair_lookup (1 ∷ 10 ∷ 4 ∷ 0 ∷ 0 ∷ 1 ∷ 1 ∷ 5 ∷ [])) 5 6 ≡ Err 16
  -- index 100 of 200 pair sets, whose offset is not there; a pair set that is not there
  pub offset : reads_pair (pair_lookup (1 ∷ 10 ∷ 4 ∷ 0 ∷ 200 ∷ 2 ∷ 1 ∷ 5 ∷ 5 ∷ 100 ∷ [])) 5 6 ≡ Err 218
  pub pair_set : reads_pair (pair_lookup (1 ∷ 12 ∷ 4 ∷ 0 ∷ 1 ∷ 500 ∷ 1 ∷ 1 ∷ 5 ∷ [])) 5 6 ≡ Err 508
  -- second glyphs are read until the match, 6 bytes on for a value and a value
  pub search : (reads_pair (pair_lookup (1 ∷ 12 ∷ 4 ∷ 4 ∷ 1 ∷ 18 ∷ 1 ∷ 1 ∷ 5 ∷ 2 ∷ 6 ∷ 1 ∷ 2 ∷ [])) 5 6 ≡ Ok (Some (read_advance (pos 1) ∷ read_advance (pos 2) ∷ []))) × (reads_pair (pair_lookup (1 ∷ 12 ∷ 4 ∷ 4 ∷ 1 ∷ 18 ∷ 1 ∷ 1 ∷ 5 ∷ 2 ∷ 6 ∷ 1 ∷ 2 ∷ [])) 5 7 ≡ Err 34)
  pub none : reads_pair (pair_lookup (1 ∷ 12 ∷ 4 ∷ 4 ∷ 1 ∷ 18 ∷ 1 ∷ 1 ∷ 5 ∷ 1 ∷ 6 ∷ 1 ∷ 2 ∷ [])) 5 7 ≡ Ok None

-- PairPos 2: 2, coverage 20, format 4, format 0, class definition 1 at 26, class definition 2 at 34, counts n1 and n2, two records,
-- coverage of 5, classes of 5 and of 6
abbrev pub class_lookup : ℕ → ℕ → ℕ → ℕ → List ℕ
class_lookup n1 n2 c1 c2 = pair_lookup (2 ∷ 20 ∷ 4 ∷ 0 ∷ 26 ∷ 34 ∷ n1 ∷ n2 ∷ 1 ∷ 2 ∷ 1 ∷ 1 ∷ 5 ∷ 1 ∷ 5 ∷ 1 ∷ c1 ∷ 1 ∷ 6 ∷ 1 ∷ c2 ∷ [])

pub record ClassPairFaults : Type 0 where
  pub read : (reads_pair (class_lookup 1 2 0 1) 5 6 ≡ Ok (Some (read_advance (pos 2) ∷ read_advance (pos 0) ∷ []))) × (reads_pair (class_lookup 1 2 0 1) 5 7 ≡ Ok (Some (read_advance (pos 1) ∷ read_advance (pos 0) ∷ [])))
  pub class_1 : reads_pair (class_lookup 1 2 1 1) 5 6 ≡ Err 20
  pub class_2 : reads_pair (class_lookup 1 2 0 2) 5 6 ≡ Err 22
  -- class 1 is checked before the second class definition is looked at
  pub at_once : reads_pair (pair_lookup (2 ∷ 20 ∷ 4 ∷ 0 ∷ 26 ∷ 999 ∷ 0 ∷ 0 ∷ 1 ∷ 2 ∷ 1 ∷ 1 ∷ 5 ∷ 1 ∷ 6 ∷ 1 ∷ 0 ∷ [])) 5 6 ≡ Err 20
  -- a table whose fields serve as its coverage too: the class counts are missing
  pub counts : (reads_pair (pair_lookup (2 ∷ 2 ∷ 1 ∷ 5 ∷ 5 ∷ 0 ∷ [])) 5 6 ≡ Err 20) × (reads_pair (pair_lookup (2 ∷ 2 ∷ 1 ∷ 5 ∷ 5 ∷ 0 ∷ 1 ∷ [])) 5 6 ≡ Err 22)
  pub class_format : class (big_endian (3 ∷ [])) 0 5 ≡ Err 0
  -- the count of an array is needed only if its start is not above the glyph, a range's end likewise, its class if it holds it
  pub array_start : (class (big_endian (1 ∷ 9 ∷ [])) 0 5 ≡ Ok 0) × (class (big_endian (1 ∷ 5 ∷ [])) 0 5 ≡ Err 4) × (class (big_endian (1 ∷ 4 ∷ 1 ∷ [])) 0 5 ≡ Ok 0) × (class (big_endian (1 ∷ 4 ∷ 2 ∷ 3 ∷ [])) 0 5 ≡ Err 8)
  pub range_start : (class (big_endian (2 ∷ 1 ∷ 9 ∷ [])) 0 5 ≡ Ok 0) × (class (big_endian (2 ∷ 1 ∷ 4 ∷ [])) 0 5 ≡ Err 6) × (class (big_endian (2 ∷ 1 ∷ 4 ∷ 4 ∷ [])) 0 5 ≡ Ok 0) × (class (big_endian (2 ∷ 1 ∷ 4 ∷ 5 ∷ [])) 0 5 ≡ Err 8)
  -- of ranges that overlap the first match wins
  pub overlap : (class (big_endian (2 ∷ 2 ∷ 1 ∷ 9 ∷ 3 ∷ 5 ∷ 5 ∷ 4 ∷ [])) 0 5 ≡ Ok 3) × (covered (big_endian (2 ∷ 2 ∷ 7 ∷ 4 ∷ 0 ∷ 4 ∷ 6 ∷ 8 ∷ [])) 0 5 ≡ Ok (Some 9))
