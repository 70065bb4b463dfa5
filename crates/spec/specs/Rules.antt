-- The rule list: what was entered and inserted, known from the calls' arguments and from which calls were denied; and the exact
-- answer to each entry, insertion and break. R is the sort of rule of a kind of lookup.
use Rattle.std.specs.Prelude.{ℕ, suc, ◌/◌, ◌%◌, min, Bool, true, false, not, ◌&&◌, ◌||◌, leb, List, [], ◌∷◌, ◌++◌, map, length, ℤ, Some, None, Option, ◌==◌, nat_le, nat_lt}
use Rattle.spec.specs.Lists.{any, sum_of, or_else, place_of, same_list, concat}
use Rattle.spec.specs.Denials.{Word, Part, Denial, Answer, arises, when, at_place, passed_up, prevailing, is_denied}
use Rattle.spec.specs.Entries.{Device, Delta, set_fault, device_fault, deltas_fault, same_device, same_deltas}
use Rattle.spec.specs.Values.{Metric, ValueRecord, DeviceOrDeltas, build_order}

-- a device is entered by its first size, its last size and its values
pub data Call (R : Type 0) : Type 0 where
  enter_set : List ℕ → Call R
  enter_device : ℕ → ℕ → List ℤ → Call R
  enter_deltas : List Delta → Call R
  insert : R → Call R
  break build : Call R

-- the lists entered, by their numbers from 0, and the accepted rules of each section in the order of their calls; rules go to
-- the latest section
pub record RuleList (R : Type 0) : Type 0 where
  pub sets : List (List ℕ)
  pub devices : List Device
  pub deltas : List (List Delta)
  pub earlier : List (List R)
  pub latest : List R

-- a lookup opens with nothing entered and one section
abbrev pub opened : {R : Type 0} → RuleList R
opened = record { sets = []; devices = []; deltas = []; earlier = []; latest = [] }

abbrev pub sections : {R : Type 0} → RuleList R → List (List R)
sections l = l.earlier ++ (l.latest ∷ [])

-- what a kind says of its rules: the value records, the numbers of the sets and the glyphs that a rule names, and how many rules
-- of a section stand, given the sets entered
pub record RuleKind (R : Type 0) : Type 0 where
  pub values : R → List (ValueRecord DeviceOrDeltas)
  pub set_numbers : R → List ℕ
  pub glyphs : R → List ℕ
  pub standing : List (List ℕ) → List R → ℕ

-- ---- accepted calls act

-- each different list is kept once: a list that is not there comes to the end
abbrev pub interned : {A : Type 0} → (A → A → Bool) → List A → A → List A
interned eq xs x = elim (any (λ y. eq y x) xs) [ true ↦ xs | false ↦ xs ++ (x ∷ []) ]

-- the number of a list: its place
abbrev pub number_in : {A : Type 0} → (A → A → Bool) → List A → A → ℕ
number_in eq [] x = 0
number_in eq (y ∷ ys) x = elim (eq y x) [ true ↦ 0 | false ↦ suc (number_in eq ys x) ]

-- the rule list after an accepted call
abbrev pub after : {R : Type 0} → RuleList R → Call R → RuleList R
after l (enter_set gs) = record { sets = interned same_list l.sets gs; devices = l.devices; deltas = l.deltas; earlier = l.earlier; latest = l.latest }
after l (enter_device start end vs) = record { sets = l.sets; devices = interned same_device l.devices (record { first_size = start; values = vs }); deltas = l.deltas; earlier = l.earlier; latest = l.latest }
after l (enter_deltas ds) = record { sets = l.sets; devices = l.devices; deltas = interned same_deltas l.deltas ds; earlier = l.earlier; latest = l.latest }
after l (insert r) = record { sets = l.sets; devices = l.devices; deltas = l.deltas; earlier = l.earlier; latest = l.latest ++ (r ∷ []) }
after l break = record { sets = l.sets; devices = l.devices; deltas = l.deltas; earlier = sections l; latest = [] }
after l build = l

-- THE RULE LIST of calls and their answers: accepted calls act, all else alters nothing
abbrev pub after_all : {R : Type 0} → RuleList R → List (Call R) → List Answer → RuleList R
after_all l [] ans = l
after_all l (c ∷ cs) [] = l
after_all l (c ∷ cs) (a ∷ ans) = elim (is_denied a) [ true ↦ after_all l cs ans | false ↦ after_all (after l c) cs ans ]

-- ---- the answers

-- how many places are brought: for the table and the pool of each interner, and for the table of rules
pub record Capacity : Type 0 where
  pub sets : ℕ
  pub set_pool : ℕ
  pub devices : ℕ
  pub device_pool : ℕ
  pub deltas : ℕ
  pub delta_pool : ℕ
  pub rules : ℕ

-- a list takes one place of its table, and one of its pool for each element: these lists would take more than there are
abbrev pub overfull : {A B : Type 0} → ℕ → ℕ → (A → List B) → List A → Bool
overfull places pool f xs = nat_lt places (length xs) || nat_lt pool (sum_of (λ x. length (f x)) xs)

-- whether a metric names an entry that is absent
abbrev pub unknown : {R : Type 0} → RuleList R → Option (Metric DeviceOrDeltas) → Bool
unknown l None = false
unknown l (Some m) = elim m.beside [ None ↦ false | Some b ↦ elim b [ DeviceOrDeltas.device# n ↦ leb (length l.devices) n | DeviceOrDeltas.deltas# n ↦ leb (length l.deltas) n ] ]

module _ {R : Type 0} (kind : RuleKind R) where
  -- how many places of the table of rules a rule list takes
  abbrev pub used : RuleList R → ℕ
  used l = sum_of (kind.standing l.sets) (sections l)

  -- the first entry that a rule names and that is absent: metrics have the places 0 to 7 in build order, sets 8 and 9
  abbrev pub unknown_place : RuleList R → R → Option ℕ
  unknown_place l r = or_else (place_of (unknown l) 0 (concat (map build_order (kind.values r)))) (place_of (leb (length l.sets)) 8 (kind.set_numbers r))

module _ {R : Type 0} (kind : RuleKind R) (capacity : Capacity) where
  -- the denial of a call, or none. `full` is told exactly if the rule list with this call would take more places than are
  -- brought and may be used: 65,534 for sets, 65,535 for other tables. Interners and the table of rules are parts below the
  -- lookup, which passes their denials up
  abbrev pub denial : RuleList R → Call R → Option Denial
  denial l (enter_set gs) = passed_up (prevailing (at_place Word.bad_set Part.sets (set_fault gs))
      (when (overfull (min capacity.sets 65534) capacity.set_pool (λ s. s) (after l (enter_set gs)).sets) (arises Word.full 0 Part.sets)))
  denial l (enter_device start end vs) = passed_up (prevailing (at_place Word.bad_device Part.devices (device_fault start end (length vs)))
      (when (overfull (min capacity.devices 65535) capacity.device_pool (λ d. d.values) (after l (enter_device start end vs)).devices) (arises Word.full 0 Part.devices)))
  denial l (enter_deltas ds) = passed_up (prevailing (at_place Word.bad_deltas Part.deltas (deltas_fault ds))
      (when (overfull (min capacity.deltas 65535) capacity.delta_pool (λ d. d) (after l (enter_deltas ds)).deltas) (arises Word.full 0 Part.deltas)))
  denial l (insert r) = prevailing (at_place Word.unknown_entry Part.lookup (unknown_place kind l r))
      (passed_up (when (nat_lt (min capacity.rules 65535) (used kind (after l (insert r)))) (arises Word.full 0 Part.rules)))
  denial l break = when (nat_le 32 (length (sections l))) (arises Word.no_section 32 Part.lookup)
  denial l build = None

  abbrev pub accepted : RuleList R → Call R → Answer
  accepted l (enter_set gs) = Answer.entered (number_in same_list (after l (enter_set gs)).sets gs)
  accepted l (enter_device start end vs) = Answer.entered (number_in same_device (after l (enter_device start end vs)).devices (record { first_size = start; values = vs }))
  accepted l (enter_deltas ds) = Answer.entered (number_in same_deltas (after l (enter_deltas ds)).deltas ds)
  accepted l (insert r) = Answer.taken
  accepted l break = Answer.taken
  accepted l build = Answer.taken

  -- THE ANSWER to each entry, insertion and break; whether a build is accepted is for the store to say
  abbrev pub answer : RuleList R → Call R → Answer
  answer l c = elim (denial l c) [ None ↦ accepted l c | Some d ↦ Answer.denied d ]

  -- the answers to entries, insertions and breaks in a row
  abbrev pub answers : RuleList R → List (Call R) → List Answer
  answers l [] = []
  answers l (c ∷ cs) = let a = answer l c in a ∷ answers (after_all l (c ∷ []) (a ∷ [])) cs

-- ---- opening

-- flags have 16 bits, none of 0x20, 0x40 and 0x80, and 0x10 exactly if there is a mark filtering set
abbrev pub mark_bit : Option ℕ → ℕ
mark_bit None = 0
mark_bit (Some m) = 1

abbrev pub flags_fit : ℕ → Option ℕ → Bool
flags_fit f mark = nat_lt f 65536 && f / 32 % 8 == 0 && f / 16 % 2 == mark_bit mark

abbrev pub open_denial : ℕ → Option ℕ → Option Denial
open_denial f mark = when (not (flags_fit f mark)) (arises Word.bad_flags 0 Part.lookup)
