-- What the words of a list stand for, one item a word.
use Rattle.std.specs.Prelude.{ℕ, List, [], ◌∷◌, ℤ, Ok, Err, Result}
use Rattle.rulefile.specs.declared.fault.Fault.{Fault}
use Rattle.rulefile.specs.declared.fault.Fault.TheVariants as fault
use Rattle.rulefile.specs.declared.rules.Delta.{Delta}
use Rattle.rulefile.specs.Numbers.{unsigned_up_to, signed_up_to}
use Rattle.rulefile.specs.Outcomes.{wanted, then}
use Rattle.rulefile.specs.Words.{cut_at}

-- a glyph of a set
abbrev pub glyph_of : List ℕ → Result ℕ Fault
glyph_of w = wanted (unsigned_up_to 65535 w) fault.Glyph

-- a value of a device
abbrev pub device_value_of : List ℕ → Result ℤ Fault
device_value_of w = wanted (signed_up_to 127 w) fault.DeviceValue

-- a delta from its region and its value
abbrev pub delta_from : List ℕ → List ℕ → Result Delta Fault
delta_from region value =
    then (wanted (unsigned_up_to 65535 region) fault.Delta) (λ r.
    then (wanted (signed_up_to 32767 value) fault.Delta) (λ v.
    Ok (record { region = r; delta = v })))

-- REGION:DELTA
abbrev pub delta_of : List ℕ → Result Delta Fault
delta_of w = cut_at 58 w delta_from (Err fault.Delta)

-- every item of a list, or the first that is wrong
abbrev pub each : {X : Type 0} → (List ℕ → Result X Fault) → List (List ℕ) → Result (List X) Fault
each read [] = Ok []
each read (w ∷ ws) = then (read w) (λ x. then (each read ws) (λ xs. Ok (x ∷ xs)))
