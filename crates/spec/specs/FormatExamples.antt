-- Worked examples of the parts of a table: coverage, class definitions, devices, variation indices, marks, ceilings. Expected fields
-- are worked out by hand from the formats.
use Rattle.std.specs.Prelude.{◌≡◌, ℕ, ◌+◌, true, false, List, [], ◌∷◌, ◌++◌, map, replicate, pos, negsuc, Some, None, Ok}
use Rattle.spec.specs.Lists.{numbers}
use Rattle.spec.specs.Fields.{big_endian}
use Rattle.spec.specs.Denials.{Word, Part, arises}
use Rattle.spec.specs.Entries.{Device, value_at}
use Rattle.spec.specs.Values.{ValueRecord, DeviceOrDeltas, format, encoded_size}
use Rattle.spec.specs.Coverage.{coverage_index}
use Rattle.spec.specs.Classes.{span, class_of, classed}
use Rattle.spec.specs.Devices.{device_fields}
use Rattle.spec.specs.Rules.{Call}
use Rattle.spec.specs.Kinds.{SingleRule, PairRule}
use Rattle.spec.specs.ListAnswer.{single_answer}
use Rattle.spec.specs.Build.{single_build, pair_build, numbers_to_add, lists_to_add}
use Rattle.spec.specs.Bytes.{Table, end, field, count, child, fields, bytes, too_many, too_far, coverage, class_def, write_denial}
use Rattle.spec.specs.Meaning.{no_id, covered, class, single_meaning, pair_meaning}
use Rattle.spec.specs.Cases.{with_device, with_deltas, x_advance, y_placement, entry, single, glyphs, kern, single_list, pair_list, single_bytes, pair_bytes, says, plain, reads, read, read_advance}

-- ---- coverage and class definitions at the bounds of their formats

abbrev pub six : List ℕ
six = 1 ∷ 2 ∷ 3 ∷ 10 ∷ 11 ∷ 12 ∷ []

pub record Coverages : Type 0 where
  -- two ranges take 16 bytes: as many as six glyphs, and fewer than seven
  pub at_tie : bytes (coverage six) ≡ big_endian (1 ∷ 6 ∷ six)
  pub ranges : bytes (coverage (six ++ (13 ∷ []))) ≡ big_endian (2 ∷ 2 ∷ 1 ∷ 3 ∷ 0 ∷ 10 ∷ 13 ∷ 3 ∷ [])
  pub indices : (coverage_index six 10 ≡ Some 3) × (coverage_index six 9 ≡ None)
  pub read_glyphs : (covered (bytes (coverage six)) 0 12 ≡ Ok (Some 5)) × (covered (bytes (coverage six)) 0 4 ≡ Ok None)
  pub read_ranges : (covered (bytes (coverage (six ++ (13 ∷ [])))) 0 13 ≡ Ok (Some 6)) × (covered (bytes (coverage (six ++ (13 ∷ [])))) 0 14 ≡ Ok None)

pub record ClassDefs : Type 0 where
  -- no glyph: format 2 without ranges
  pub none : bytes (class_def []) ≡ big_endian (2 ∷ 0 ∷ [])
  -- classes 1 and 1 on 5 and 8: a span of 4 takes 14 bytes, two ranges 16; on 5 and 9 the span takes 16
  pub array : bytes (class_def ((5, 1) ∷ (8, 1) ∷ [])) ≡ big_endian (1 ∷ 5 ∷ 4 ∷ 1 ∷ 0 ∷ 0 ∷ 1 ∷ [])
  pub ranges : bytes (class_def ((5, 1) ∷ (9, 1) ∷ [])) ≡ big_endian (2 ∷ 2 ∷ 5 ∷ 5 ∷ 1 ∷ 9 ∷ 9 ∷ 1 ∷ [])
  -- a range goes on over a glyph one higher of the same class only
  pub joins : bytes (class_def ((5, 1) ∷ (6, 1) ∷ (7, 2) ∷ (20, 2) ∷ [])) ≡ big_endian (2 ∷ 3 ∷ 5 ∷ 6 ∷ 1 ∷ 7 ∷ 7 ∷ 2 ∷ 20 ∷ 20 ∷ 2 ∷ [])
  pub read_array : (class (bytes (class_def ((5, 1) ∷ (8, 1) ∷ []))) 0 8 ≡ Ok 1) × (class (bytes (class_def ((5, 1) ∷ (8, 1) ∷ []))) 0 7 ≡ Ok 0) × (class (bytes (class_def ((5, 1) ∷ (8, 1) ∷ []))) 0 9 ≡ Ok 0)
  pub read_ranges : (class (bytes (class_def ((5, 1) ∷ (9, 1) ∷ []))) 0 9 ≡ Ok 1) × (class (bytes (class_def ((5, 1) ∷ (9, 1) ∷ []))) 0 7 ≡ Ok 0)
  -- the larger set has class 0 on the first side and is not listed; equal sizes go by the first glyph
  pub numbering : classed ((8 ∷ []) ∷ (5 ∷ 9 ∷ []) ∷ (6 ∷ []) ∷ []) 0 ≡ (6, 1) ∷ (8, 2) ∷ []
  -- a glyph of no set has class 0
  pub unlisted : class_of ((8 ∷ []) ∷ (5 ∷ 9 ∷ []) ∷ []) 1 7 ≡ 0

-- ---- a device beside an x advance, deltas beside a y placement, an empty delta list

abbrev pub nine : Device
nine = record { first_size = 10; values = pos 1 ∷ negsuc 0 ∷ pos 0 ∷ negsuc 1 ∷ pos 0 ∷ pos 0 ∷ pos 0 ∷ pos 0 ∷ pos 1 ∷ [] }

abbrev pub with_entries : List (Call SingleRule)
with_entries = Call.enter_device 12 13 (pos 1 ∷ negsuc 0 ∷ []) ∷ Call.enter_deltas (entry 0 (pos 5) ∷ entry 2 (negsuc 6) ∷ []) ∷ Call.enter_deltas []
    ∷ single 6 (y_placement (with_deltas (negsuc 2) 0)) ∷ single 5 (x_advance (with_device (pos 10) 0)) ∷ single 7 (y_placement (with_deltas (pos 4) 1)) ∷ []

-- the store answered 0 and 0x20001
abbrev pub entries_bytes : List ℕ
entries_bytes = single_bytes with_entries 0 None (0 ∷ 0x20001 ∷ [])

pub record Devices : Type 0 where
  -- two bits a value, eight values a word, the rest 0: 01 11 00 10 00 00 00 00, 01
  pub words : device_fields nine ≡ 10 ∷ 18 ∷ 1 ∷ 0x7200 ∷ 0x4000 ∷ []
  pub value : (value_at nine 9 ≡ pos 0) × (value_at nine 11 ≡ negsuc 0) × (value_at nine 18 ≡ pos 1) × (value_at nine 19 ≡ pos 0)
  -- x advance 0x04 with its device bit 0x40, two fields
  pub formats : (format (x_advance (with_device (pos 10) 0)) ≡ 0x44) × (encoded_size 0x44 ≡ 4) × (format (y_placement (with_deltas (pos 0) 0)) ≡ 0x22)
  -- glyphs rise, so the list of 6 goes to the store before that of 7
  pub handed_over : (numbers_to_add single_build (single_list with_entries) ≡ 0 ∷ 1 ∷ []) × (lists_to_add single_build (single_list with_entries) ≡ (entry 0 (pos 5) ∷ entry 2 (negsuc 6) ∷ []) ∷ [] ∷ [])
  -- what the list says of 5 at sizes 12, 13 and 14, of 6 at regions 2 and 1, and of 7, whose list is empty
  pub sizes : (single_answer (single_list with_entries) 12 0 5 ≡ Some ((says (pos 10) (pos 1) (pos 0) ∷ plain (pos 0) ∷ plain (pos 0) ∷ plain (pos 0) ∷ []) ∷ []))
      × (single_answer (single_list with_entries) 13 0 5 ≡ Some ((says (pos 10) (negsuc 0) (pos 0) ∷ plain (pos 0) ∷ plain (pos 0) ∷ plain (pos 0) ∷ []) ∷ []))
      × (single_answer (single_list with_entries) 14 0 5 ≡ Some ((plain (pos 10) ∷ plain (pos 0) ∷ plain (pos 0) ∷ plain (pos 0) ∷ []) ∷ []))
  pub regions : (single_answer (single_list with_entries) 12 2 6 ≡ Some ((plain (pos 0) ∷ plain (pos 0) ∷ plain (pos 0) ∷ says (negsuc 2) (pos 0) (negsuc 6) ∷ []) ∷ []))
      × (single_answer (single_list with_entries) 12 1 6 ≡ Some ((plain (pos 0) ∷ plain (pos 0) ∷ plain (pos 0) ∷ plain (negsuc 2) ∷ []) ∷ []))
      × (single_answer (single_list with_entries) 12 0 7 ≡ Some ((plain (pos 0) ∷ plain (pos 0) ∷ plain (pos 0) ∷ plain (pos 4) ∷ []) ∷ []))
  -- 6 and 7 share a SinglePos 2, 5 has a SinglePos 1; device and variation index tables follow the coverage
  pub bytes : entries_bytes ≡ big_endian (1 ∷ 0 ∷ 2 ∷ 10 ∷ 46
      ∷ 2 ∷ 16 ∷ 0x22 ∷ 2 ∷ 0xFFFD ∷ 24 ∷ 4 ∷ 30 ∷ 1 ∷ 2 ∷ 6 ∷ 7 ∷ 0 ∷ 0 ∷ 0x8000 ∷ 2 ∷ 1 ∷ 0x8000
      ∷ 1 ∷ 10 ∷ 0x44 ∷ 10 ∷ 16 ∷ 1 ∷ 1 ∷ 5 ∷ 12 ∷ 13 ∷ 1 ∷ 0x7000 ∷ [])
  pub read_device : (single_meaning entries_bytes 13 5 ≡ Ok (Some ((reads (pos 10) (negsuc 0) no_id ∷ read (pos 0) ∷ read (pos 0) ∷ read (pos 0) ∷ []) ∷ [])))
      × (single_meaning entries_bytes 14 5 ≡ Ok (Some (read_advance (pos 10) ∷ [])))
  pub read_ids : (single_meaning entries_bytes 13 6 ≡ Ok (Some ((read (pos 0) ∷ read (pos 0) ∷ read (pos 0) ∷ reads (negsuc 2) (pos 0) 0 ∷ []) ∷ [])))
      × (single_meaning entries_bytes 13 7 ≡ Ok (Some ((read (pos 0) ∷ read (pos 0) ∷ read (pos 0) ∷ reads (pos 4) (pos 0) 0x20001 ∷ []) ∷ [])))

-- two records of four metrics, each with deltas of its own number
abbrev pub all_deltas : ℕ → ValueRecord DeviceOrDeltas
all_deltas n = record { x_advance = with_deltas (pos 0) n; y_advance = with_deltas (pos 0) (n + 1); x_placement = with_deltas (pos 0) (n + 2); y_placement = with_deltas (pos 0) (n + 3) }

abbrev pub eight_lists : List (Call PairRule)
eight_lists = map (λ n. Call.enter_deltas (entry n (pos 1) ∷ [])) (numbers 0 8) ++ (glyphs 3 4 (all_deltas 0) (all_deltas 4) ∷ glyphs 3 2 (x_advance (with_deltas (pos 0) 7)) (y_placement (with_deltas (pos 0) 7)) ∷ [])

-- lists go to the store pair by pair rising, record one first, x advance, y advance, x placement, y placement, once a metric
abbrev pub BuildOrder : Type 0
BuildOrder = numbers_to_add pair_build (pair_list eight_lists) ≡ 7 ∷ 7 ∷ 0 ∷ 1 ∷ 2 ∷ 3 ∷ 4 ∷ 5 ∷ 6 ∷ 7 ∷ []

-- ---- a mark filtering set stands behind the offsets, and reading does not heed it
abbrev pub one_kern : List (Call PairRule)
one_kern = kern 36 57 (negsuc 49) ∷ []

pub record Marks : Type 0 where
  pub bytes : pair_bytes one_kern 0x10 (Some 3) [] ≡ big_endian (2 ∷ 16 ∷ 1 ∷ 10 ∷ 3 ∷ 1 ∷ 12 ∷ 4 ∷ 0 ∷ 1 ∷ 18 ∷ 1 ∷ 1 ∷ 36 ∷ 1 ∷ 57 ∷ 0xFFCE ∷ [])
  pub marked : pair_meaning (pair_bytes one_kern 0x10 (Some 3) []) 0 (36, 57) ≡ Ok (Some (read_advance (negsuc 49) ∷ read_advance (pos 0) ∷ []))
  pub unmarked : (pair_meaning (pair_bytes one_kern 0 None []) 0 (36, 57) ≡ Ok (Some (read_advance (negsuc 49) ∷ read_advance (pos 0) ∷ []))) × (pair_meaning (pair_bytes one_kern 0 None []) 0 (36, 58) ≡ Ok None) × (pair_meaning (pair_bytes one_kern 0 None []) 0 (57, 36) ≡ Ok None)

-- ---- ceilings

-- a table of so many fields, and one that leads to a child of 65,536 bytes and then to another
abbrev pub long : ℕ → Table
long n = fields (replicate n 0) end

abbrev pub too_long : Table
too_long = child (long 32768) (child end end)

abbrev pub crowded : Table
crowded = field 1 (field 0 (count 65536 end))

pub record Ceilings : Type 0 where
  -- a class definition of format 1 that spans all 65,536 glyphs counts too many
  pub spans : (span ((0, 1) ∷ (65535, 1) ∷ []) ≡ 65536) × (too_many crowded ≡ true) × (too_many (field 1 (field 0 (count 65535 end))) ≡ false)
  -- the second child stands at 65,540; one field fewer in the first and it still does not fit; at 65,534 it does
  pub offsets : (too_far too_long ≡ true) × (too_far (child (long 32766) (child end end)) ≡ true) × (too_far (child (long 32765) (child end end)) ≡ false)
  -- too many is sought in the whole lookup before too far; then the lowest subtable is told; an offset to a subtable counts as its
  pub order : (write_denial 9 2 0 None (too_long ∷ end ∷ crowded ∷ crowded ∷ []) ≡ Some (arises Word.too_many 2 Part.writer))
      × (write_denial 9 2 0 None (end ∷ too_long ∷ []) ≡ Some (arises Word.too_far 1 Part.writer))
      × (write_denial 9 2 0 None (end ∷ long 32768 ∷ end ∷ []) ≡ Some (arises Word.too_far 2 Part.writer))
  -- the length needed
  pub short : (write_denial 9 2 0 None (end ∷ []) ≡ None) × (write_denial 7 2 0 None (end ∷ []) ≡ Some (arises Word.short_output 8 Part.writer)) × (write_denial 8 2 0 None (end ∷ []) ≡ None)
