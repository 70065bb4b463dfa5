use Rattle.std.proofs.Common.{◌≡◌, max, drop}
use Rattle.spec.specs.Lists.{Every}
use Rattle.spec.specs.Devices.{delta_format}
use Rattle.laws.specs.Conditions.{Within}
use Rattle.layout.specs.DeltaFormats.{number}
use Rattle.layout.proofs.delta_words.delta_format.Given as goal

abbrev pub invariant-loop-value : goal.invariant-loop-value
invariant-loop-value l = (max (number l.format) (delta_format (drop l.value-index l.values)) ≡ delta_format l.values)
    × (Every (Within 128) (drop l.value-index l.values) → Every (Within 128) l.values)
