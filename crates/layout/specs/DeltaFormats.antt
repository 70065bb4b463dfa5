-- The numbers of the delta formats.
use Rattle.std.specs.Prelude.{◌≡◌, ℕ, ◌<◌, ◌⊎◌, List, ◌++◌, Result, MatchResult, codes}
use Rattle.std.specs.Fmt.{decimal}
use Rattle.layout.specs.declared.delta_words.DeltaFormat.{DeltaFormat}
use Rattle.layout.specs.declared.delta_words.DeltaFormat.TheVariants.{Local2BitDeltas, Local4BitDeltas, Local8BitDeltas}
use Rattle.layout.specs.declared.delta_words.UnknownDeltaFormat.{UnknownDeltaFormat}

-- what stands for a format in a device table
abbrev pub number : DeltaFormat → ℕ
number Local2BitDeltas = 1
number Local4BitDeltas = 2
number Local8BitDeltas = 3

-- the format of a number, or the number if no format has it
abbrev pub Decodes : ℕ → Result DeltaFormat UnknownDeltaFormat → Type 0
Decodes n r = MatchResult r (λ f. number f ≡ n) (λ e. (e.0 ≡ n) × ((n < 1) ⊎ (3 < n)))

-- what is said of a number that no format has
abbrev pub unknown_text : ℕ → List ℕ
unknown_text n = codes "no delta format has number " ++ decimal n
