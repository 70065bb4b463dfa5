use Rattle.std.proofs.Common.{◌≡◌, ◌≤◌, drop}
use Rattle.rulefile.specs.Numbers.{read_on}
use Rattle.rulefile.proofs.numbers.digits.Given as goal

abbrev pub invariant-loop-byte : goal.invariant-loop-byte
invariant-loop-byte l = (l.value ≤ l.limit) × (read_on l.base l.value (drop l.byte-index l.word) ≡ read_on l.base 0 l.word)
