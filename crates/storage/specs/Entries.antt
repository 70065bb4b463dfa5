-- Checked entries: glyph sets, devices and delta lists as the definitions have them, in an interner.
use Rattle.std.specs.Prelude.{◌≡◌, ℕ, Bool, List, map, length, ℤ, Option, Result}
use Rattle.spec.specs.Denials.{Word, Part, Denial, Answer, arises, when, at_place, prevailing}
use Rattle.spec.specs.Entries.{Device, Delta, set_fault, device_fault, deltas_fault, same_device, same_deltas}
use Rattle.spec.specs.Lists.{same_list}
use Rattle.spec.specs.Rules.{interned, number_in, overfull}
use Rattle.storage.specs.declared.delta.Delta as code_delta
use Rattle.denials.specs.declared.denial.Denial as code_denial
use Rattle.denials.specs.Answers.{entry_answer, denied_or, left_by}
use Rattle.storage.specs.Deltas.{delta_of}
use Rattle.denials.specs.Denials.{part_of}
use Rattle.storage.specs.Interners.{Interned}

-- the entries of an interner as the definitions have them
abbrev pub held : {T H A : Type 0} → (H × List T → A) → Interned T H → List A
held as_defined d = map as_defined d.contents

-- entries that are told apart by `same`, each with the list that takes places of the pool
module _ {T H A B : Type 0} (part : Part) (as_defined : H × List T → A) (same : A → A → Bool) (list : A → List B) where
  -- the fault of the entry, or `full`
  abbrev pub entry_denial : Option Denial → Interned T H → A → Option Denial
  entry_denial fault d x = prevailing fault (when (overfull d.places d.room list (interned same (held as_defined d) x)) (arises Word.full 0 part))

  -- e is what entering x leaves of d, an interner that denies as this part, and r is the answer
  pub record Checked (fault : Option Denial) (d e : Interned T H) (x : A) (r : Result ℕ code_denial.Denial) : Type 0 where
    pub answer : part_of d.part ≡ part → entry_answer r ≡ denied_or (entry_denial fault d x) (Answer.entered (number_in same (interned same (held as_defined d) x) x))
    pub after : part_of d.part ≡ part → held as_defined e ≡ left_by (entry_denial fault d x) (held as_defined d) (interned same (held as_defined d) x)
    pub same_part : e.part ≡ d.part
    pub same_places : e.places ≡ d.places
    pub same_room : e.room ≡ d.room

-- ---- glyph sets

abbrev pub set_in : Unit {0} × List ℕ → List ℕ
set_in e = e.1

abbrev pub SetEntered : (d e : Interned ℕ (Unit {0})) → List ℕ → Result ℕ code_denial.Denial → Type 0
SetEntered d e gs r = Checked Part.sets set_in same_list (λ s. s) (at_place Word.bad_set Part.sets (set_fault gs)) d e gs r

-- ---- devices

abbrev pub device_in : ℕ × List ℤ → Device
device_in e = record { first_size = e.0; values = e.1 }

abbrev pub DeviceEntered : (d e : Interned ℤ ℕ) → ℕ → ℕ → List ℤ → Result ℕ code_denial.Denial → Type 0
DeviceEntered d e start end vs r =
    Checked Part.devices device_in same_device (λ x. x.values) (at_place Word.bad_device Part.devices (device_fault start end (length vs))) d e (record { first_size = start; values = vs }) r

-- ---- delta lists

abbrev pub deltas_in : Unit {0} × List code_delta.Delta → List Delta
deltas_in e = map delta_of e.1

abbrev pub DeltasEntered : (d e : Interned code_delta.Delta (Unit {0})) → List code_delta.Delta → Result ℕ code_denial.Denial → Type 0
DeltasEntered d e ds r =
    Checked Part.deltas deltas_in same_deltas (λ x. x) (at_place Word.bad_deltas Part.deltas (deltas_fault (map delta_of ds))) d e (map delta_of ds) r
