-- Why a part cannot be written into any output.
use Rattle.std.specs.Prelude.{◌≡◌, ℕ, ◌+◌, ◌-◌, ◌/◌, cond, ◌||◌, List, map, length, ℤ, Some, None, Option, Result, MatchResult, ◌==◌, nat_lt}
use Rattle.denials.specs.declared.denial.Denial.{Denial as code_denial}
use Rattle.denials.specs.Denials.{denial_of}
use Rattle.spec.specs.Denials.{Word, Part, Denial, arises}
use Rattle.spec.specs.Lists.{numbers}
use Rattle.spec.specs.Coverage.{ranges, coverage_count}
use Rattle.spec.specs.Classes.{span, shorter_as_array}
use Rattle.spec.specs.Entries.{unsorted}
use Rattle.spec.specs.Devices.{per_word, word}
use Rattle.layout.specs.declared.shape.Shape.{Shape}
use Rattle.layout.specs.declared.shape.Shape.TheVariants.{Array, Ranges}

-- a device without a value, and one whose last size is above 65,535
abbrev pub device_fault : ℕ → ℕ → Option Denial
device_fault first n = cond (n == 0) (Some (arises Word.bad_device 0 Part.writer)) (cond (nat_lt 65535 (first + n - 1)) (Some (arises Word.bad_device 1 Part.writer)) None)

-- how many words the values take in a delta format, and the words
abbrev pub word_count : ℕ → List ℤ → ℕ
word_count f vs = (length vs + per_word f - 1) / per_word f

abbrev pub words_in : ℕ → List ℤ → List ℕ
words_in f vs = map (word f vs) (numbers 0 (word_count f vs))

-- a number that a part without a fault has, else its fault
abbrev pub Allows : Result ℕ code_denial → Option Denial → ℕ → Type 0
Allows r fault n = MatchResult r (λ x. (fault ≡ None) × (x ≡ n)) (λ d. fault ≡ Some (denial_of d))

-- a coverage table with more glyphs than there are, or with a count above 65,535
abbrev pub coverage_fault : List ℕ → Option Denial
coverage_fault gs = cond (nat_lt 65536 (length gs) || nat_lt 65535 (coverage_count gs)) (Some (arises Word.too_many (length gs) Part.writer)) None

-- a shape as its format and its count
abbrev pub shaped : Shape → ℕ × ℕ
shaped (Array n) = (1, n)
shaped (Ranges n) = (2, n)

-- the format and the count of a part without a fault, else its fault
abbrev pub Shaped : Result Shape code_denial → Option Denial → ℕ → ℕ → Type 0
Shaped r fault format count = MatchResult r (λ s. (fault ≡ None) × ((shaped s).0 ≡ format) × ((shaped s).1 ≡ count)) (λ d. fault ≡ Some (denial_of d))

-- the count of a class definition
abbrev pub class_count : List (ℕ × ℕ) → ℕ
class_count ps = cond (shorter_as_array ps) (span ps) (length (ranges ps))

-- a count above 65,535
abbrev pub count_fault : ℕ → Option Denial
count_fault n = cond (nat_lt 65535 n) (Some (arises Word.too_many n Part.writer)) None

abbrev pub class_fault_by : Option ℕ → ℕ → Option Denial
class_fault_by (Some i) n = Some (arises Word.bad_set i Part.writer)
class_fault_by None n = count_fault n

-- a class definition whose glyphs do not rise, or with a count above 65,535
abbrev pub class_fault : List (ℕ × ℕ) → Option Denial
class_fault ps = class_fault_by (unsorted (map (λ p. p.0) ps)) (class_count ps)
