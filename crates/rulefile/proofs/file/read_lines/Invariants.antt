use Rattle.std.proofs.Common.{◌≡◌, ◌+◌, drop}
use Rattle.rulefile.specs.Files.{lines_from, nothing}
use Rattle.rulefile.specs.Steps.{state_of}
use Rattle.rulefile.specs.Words.{words_in}
use Rattle.rulefile.proofs.file.read_lines.Given as goal

abbrev pub invariant-loop-at : goal.invariant-loop-at
invariant-loop-at l = lines_from (state_of l.parser) (l.at + 1) (words_in (drop l.at l.lines)) ≡ lines_from nothing 1 (words_in l.lines)
