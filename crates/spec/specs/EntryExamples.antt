-- Worked examples of entries, insertions and breaks, and of the denials that they get. All are equations that compute.
use Rattle.std.specs.Prelude.{◌≡◌, ℕ, true, false, [], ◌∷◌, ◌++◌, map, length, replicate, pos, negsuc, Some, None, codes}
use Rattle.spec.specs.Lists.{numbers}
use Rattle.spec.specs.Denials.{Word, Part, Answer, arises, passed, passed_by, prevailing, answer_number, answer_text, broken}
use Rattle.spec.specs.Entries.{set_fault, device_fault, deltas_fault, delta_at, is_alike}
use Rattle.spec.specs.Values.{empty}
use Rattle.spec.specs.Rules.{Call, Capacity, opened, answers, open_denial, sections}
use Rattle.spec.specs.Kinds.{PairRule, single_rules, pair_rules}
use Rattle.spec.specs.Cases.{alone, with_device, with_deltas, x_advance, y_placement, entry, single, glyphs, classes, kern, ample, single_list}

abbrev pub below_lookup : Word → ℕ → Part → Answer
below_lookup w k p = Answer.denied (passed (arises w k p))

abbrev pub in_lookup : Word → ℕ → Answer
in_lookup w k = Answer.denied (arises w k Part.lookup)

-- the place that offends, or none
pub record Faults : Type 0 where
  -- an empty set; a number that is not above the one before
  pub sets : (set_fault [] ≡ Some 0) × (set_fault (7 ∷ []) ≡ None) × (set_fault (3 ∷ 5 ∷ 5 ∷ 4 ∷ []) ≡ Some 2)
  -- sizes 5 to 4; 65 sizes; 64 sizes; 2 sizes with 1 value
  pub devices : (device_fault 5 4 0 ≡ Some 0) × (device_fault 0 64 65 ≡ Some 1) × (device_fault 0 63 64 ≡ None) × (device_fault 8 9 1 ≡ Some 2)
  -- an empty list is good; regions 1, 1; 65 entries; 65 entries whose last does not rise, and one whose second does not
  pub deltas : (deltas_fault [] ≡ None) × (deltas_fault (entry 1 (pos 5) ∷ entry 1 (pos 6) ∷ []) ≡ Some 1)
      × (deltas_fault (map (λ r. entry r (pos 0)) (numbers 0 65)) ≡ Some 64)
      × (deltas_fault (map (λ r. entry r (pos 0)) (numbers 0 64 ++ (9 ∷ []))) ≡ Some 64)
      × (deltas_fault (map (λ r. entry r (pos 0)) (9 ∷ numbers 0 64)) ≡ Some 1)
  -- an unlisted region has delta 0, so a list of zeros is alike to the empty one
  pub alike : (delta_at (entry 3 (negsuc 6) ∷ []) 3 ≡ negsuc 6) × (delta_at (entry 3 (negsuc 6) ∷ []) 4 ≡ pos 0)
      × (is_alike [] (entry 3 (pos 0) ∷ []) ≡ true) × (is_alike (entry 3 (pos 1) ∷ []) (entry 4 (pos 1) ∷ []) ≡ false)

-- one place in each table, and a pool of two
abbrev pub small : Capacity
small = record { sets = 1; set_pool = 2; devices = 1; device_pool = 2; deltas = 0; delta_pool = 9; rules = 1 }

-- `full` comes exactly if a list or a key is not there yet and the places run out; a list that is there gets its number
pub record Fills : Type 0 where
  -- a set of three glyphs does not fit the pool; of two it does; it is there; another finds no place
  pub sets : answers single_rules small opened (Call.enter_set (1 ∷ 2 ∷ 3 ∷ []) ∷ Call.enter_set (1 ∷ 2 ∷ []) ∷ Call.enter_set (1 ∷ 2 ∷ []) ∷ Call.enter_set (1 ∷ []) ∷ [])
      ≡ below_lookup Word.full 0 Part.sets ∷ Answer.entered 0 ∷ Answer.entered 0 ∷ below_lookup Word.full 0 Part.sets ∷ []
  -- the same values from another first size are another device; a bad device is told before `full`
  pub devices : answers single_rules small opened (Call.enter_device 8 8 (pos 1 ∷ []) ∷ Call.enter_device 8 8 (pos 1 ∷ []) ∷ Call.enter_device 9 9 (pos 1 ∷ []) ∷ Call.enter_device 9 8 [] ∷ [])
      ≡ Answer.entered 0 ∷ Answer.entered 0 ∷ below_lookup Word.full 0 Part.devices ∷ below_lookup Word.bad_device 0 Part.devices ∷ []
  -- an empty list takes a place of its table and none of its pool
  pub deltas : answers single_rules small opened (Call.enter_deltas [] ∷ []) ≡ below_lookup Word.full 0 Part.deltas ∷ []
  -- a glyph that has a rule needs no place, in the section that has it
  pub rules : answers single_rules small opened (single 5 empty ∷ single 5 (x_advance (alone (pos 3))) ∷ single 6 empty ∷ Call.break ∷ single 5 empty ∷ [])
      ≡ Answer.taken ∷ Answer.taken ∷ below_lookup Word.full 0 Part.rules ∷ Answer.taken ∷ below_lookup Word.full 0 Part.rules ∷ []

abbrev pub bad_everywhere : Call PairRule
bad_everywhere = classes 0 1 (x_advance (alone (pos 1))) (y_placement (with_deltas (pos 1) 0))

-- an absent entry is told by the lowest place: metrics 0 to 7 in build order, then sets 8 and 9
pub record Unknowns : Type 0 where
  -- y placement of record two is 7, before set one; then set one, before set two; then set two
  pub places : answers pair_rules ample opened (bad_everywhere ∷ classes 0 1 empty empty ∷ Call.enter_set (4 ∷ []) ∷ classes 0 1 empty empty ∷ [])
      ≡ in_lookup Word.unknown_entry 7 ∷ in_lookup Word.unknown_entry 8 ∷ Answer.entered 0 ∷ in_lookup Word.unknown_entry 9 ∷ []
  -- it is told even where the pair has its rule
  pub standing : answers pair_rules ample opened (kern 1 2 (pos 5) ∷ glyphs 1 2 (x_advance (with_device (pos 5) 0)) empty ∷ kern 1 2 (pos 6) ∷ [])
      ≡ Answer.taken ∷ in_lookup Word.unknown_entry 0 ∷ Answer.taken ∷ []

-- sections and flags
pub record Openings : Type 0 where
  -- with 31 breaks there are 32 sections, and one more break is denied
  pub breaks : answers single_rules ample opened (replicate 32 Call.break) ≡ replicate 31 Answer.taken ++ (in_lookup Word.no_section 32 ∷ [])
  pub sections : length (sections (single_list (replicate 40 Call.break))) ≡ 32
  -- flag 0x10 goes with a mark filtering set; 0x20, 0x40, 0x80 and what has more than 16 bits are refused
  pub flags : (open_denial 0xFF0F None ≡ None) × (open_denial 0x10 (Some 3) ≡ None) × (open_denial 0x10 None ≡ Some (arises Word.bad_flags 0 Part.lookup))
      × (open_denial 0 (Some 3) ≡ Some (arises Word.bad_flags 0 Part.lookup)) × (open_denial 0x20 None ≡ Some (arises Word.bad_flags 0 Part.lookup))
      × (open_denial 0x1_0000 None ≡ Some (arises Word.bad_flags 0 Part.lookup))
  -- depth stays at 65,535; of two denials the lower word is told, then the lower place
  pub depths : ((passed (passed_by 65535 (arises Word.full 0 Part.sets))).depth ≡ 65535) × ((passed (arises Word.full 0 Part.sets)).depth ≡ 1)
  pub winner : (prevailing (Some (arises Word.too_far 0 Part.writer)) (Some (arises Word.too_many 9 Part.writer)) ≡ Some (arises Word.too_many 9 Part.writer))
      × (prevailing (Some (arises Word.too_many 3 Part.writer)) (Some (arises Word.too_many 2 Part.writer)) ≡ Some (arises Word.too_many 2 Part.writer))
  pub numbers_of : (answer_number Answer.taken ≡ 0) × (answer_number (in_lookup Word.no_section 32) ≡ 6) × (answer_number (Answer.denied (broken 7)) ≡ 12)
  pub texts : (answer_text (Answer.entered 3) ≡ codes "taken") × (answer_text (in_lookup Word.bad_flags 0) ≡ codes "bad flags")
