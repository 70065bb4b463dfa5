use Rattle.std.proofs.Common.{◌≡◌, ◌+◌, ◌*◌, ◌^◌, ◌≤◌, drop}
use Rattle.spec.specs.Devices.{pack}
use Rattle.layout.proofs.delta_words.DeltaFormat.pack.Given as goal

abbrev pub invariant-loop-value : goal.invariant-loop-value
invariant-loop-value l = (l.shift + l.width * l.value-index ≡ 16) × (l.word + 2 ^ l.shift ≤ 2 ^ 16)
    × (l.word + pack l.width l.value-index (drop l.value-index l.values) ≡ pack l.width 0 l.values)
