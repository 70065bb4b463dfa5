-- The marked settings in one table, and three readings that are inviting and wrong. All are equations that compute.
use Rattle.std.specs.Prelude.{◌≡◌, ℕ, List, [], ◌∷◌, ◌++◌, length, ℤ, pos, negsuc, Some, None, Ok}
use Rattle.spec.specs.Fields.{big_endian}
use Rattle.spec.specs.Devices.{delta_format, words, device_fields}
use Rattle.spec.specs.Coverage.{coverage_format}
use Rattle.spec.specs.Classes.{class_format, class_of}
use Rattle.spec.specs.Rules.{Call}
use Rattle.spec.specs.Kinds.{PairRule, groups, class_rules}
use Rattle.spec.specs.ListAnswer.{pair_answer}
use Rattle.spec.specs.Meaning.{pair_meaning}
use Rattle.spec.specs.Cases.{kern, class_kern, pair_list, pair_bytes, says_advance, read_advance}

-- values, their delta format and their one word
abbrev pub Packed : List ℤ → ℕ → ℕ → Type 0
Packed vs f w = (delta_format vs ≡ f) × (words vs ≡ w ∷ [])

abbrev pub two_first_sets : List (List ℕ)
two_first_sets = (3 ∷ []) ∷ (1 ∷ 2 ∷ []) ∷ []

abbrev pub two_second_sets : List (List ℕ)
two_second_sets = (10 ∷ []) ∷ (11 ∷ []) ∷ []

-- THE TABLE OF MARKED SETTINGS
pub record Settings : Type 0 where
  -- device 11 to 15, all 1: format 1, 0x5540
  pub ones : device_fields (record { first_size = 11; values = pos 1 ∷ pos 1 ∷ pos 1 ∷ pos 1 ∷ pos 1 ∷ [] }) ≡ 11 ∷ 15 ∷ 1 ∷ 0x5540 ∷ []
  -- values −2, 1: 0x9000; value 2: format 2, 0x2000
  pub two_bits : Packed (negsuc 1 ∷ pos 1 ∷ []) 1 0x9000 × Packed (pos 2 ∷ []) 2 0x2000
  -- −8, 7: 0x8700; 8: format 3, 0x0800; −128, 127: 0x807F
  pub more_bits : Packed (negsuc 7 ∷ pos 7 ∷ []) 2 0x8700 × Packed (pos 8 ∷ []) 3 0x0800 × Packed (negsuc 127 ∷ pos 127 ∷ []) 3 0x807F
  -- coverage 3,4,5: format 1; 3,4,5,6: format 2
  pub coverage : (coverage_format (3 ∷ 4 ∷ 5 ∷ []) ≡ 1) × (coverage_format (3 ∷ 4 ∷ 5 ∷ 6 ∷ []) ≡ 2)
  -- class 1 on 5,6: format 2; classes 1,2 on 5,6: format 1
  pub classes : (class_format ((5, 1) ∷ (6, 1) ∷ []) ≡ 2) × (class_format ((5, 1) ∷ (6, 2) ∷ []) ≡ 1)
  -- class 1 on 5,8: format 1; on 5,9: format 2
  pub gaps : (class_format ((5, 1) ∷ (8, 1) ∷ []) ≡ 1) × (class_format ((5, 1) ∷ (9, 1) ∷ []) ≡ 2)
  -- sets {3}, {1,2} on the first side: numbers 1, 0; {10}, {11} on the second: 1, 2
  pub set_numbers : (class_of two_first_sets 0 3 ≡ 1) × (class_of two_first_sets 0 2 ≡ 0) × (class_of two_second_sets 1 10 ≡ 1) × (class_of two_second_sets 1 11 ≡ 2)
  -- pair 36, 57, x advance −50, no second metric, flags 0
  pub one_pair : pair_bytes (kern 36 57 (negsuc 49) ∷ []) 0 None [] ≡ big_endian (2 ∷ 0 ∷ 1 ∷ 8 ∷ 1 ∷ 12 ∷ 4 ∷ 0 ∷ 1 ∷ 18 ∷ 1 ∷ 1 ∷ 36 ∷ 1 ∷ 57 ∷ 0xFFCE ∷ [])

-- the list's answer to a pair, and the meaning of the written bytes, are this x advance and zeros
abbrev pub Both : List (Call PairRule) → ℕ → ℕ → ℤ → Type 0
Both cs g h v = (pair_answer (pair_list cs) 0 0 (g, h) ≡ Some (says_advance v ∷ says_advance (pos 0) ∷ []))
    × (pair_meaning (pair_bytes cs 0 None []) 0 (g, h) ≡ Ok (Some (read_advance v ∷ read_advance (pos 0) ∷ [])))

-- the rules ({1},{10}) and ({1,2},{11})
abbrev pub two_groups : List (Call PairRule)
two_groups = Call.enter_set (1 ∷ []) ∷ Call.enter_set (10 ∷ []) ∷ Call.enter_set (1 ∷ 2 ∷ []) ∷ Call.enter_set (11 ∷ []) ∷ class_kern 0 1 (pos 1) ∷ class_kern 2 3 (pos 2) ∷ []

abbrev pub three_groups : List (Call PairRule)
three_groups = two_groups ++ (class_kern 0 1 (pos 3) ∷ [])

abbrev pub group_count : List (Call PairRule) → ℕ
group_count cs = length (groups (pair_list cs).sets (class_rules (pair_list cs).latest))

pub record InvitingMistakes : Type 0 where
  -- pair 36, 57 at 100 and then at −50 reads 100: the first rule for a pair stands
  pub later_pair : Both (kern 36 57 (pos 100) ∷ kern 36 57 (negsuc 49) ∷ []) 36 57 (pos 100)
  -- (1, 11) reads zeros from the first group, which has 1 in a first set, and (2, 11) reads the second group
  pub earlier_group : (group_count two_groups ≡ 2) × Both two_groups 1 11 (pos 0) × Both two_groups 2 11 (pos 2)
  -- ({1},{10}) again does not alter the first group: {1} overlaps {1,2}, so a third group opens
  pub third_group : (group_count three_groups ≡ 3) × Both three_groups 1 10 (pos 1)
