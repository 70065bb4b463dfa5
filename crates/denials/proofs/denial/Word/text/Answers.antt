use Rattle.std.proofs.Common.{sym, ap}
use Rattle.spec.specs.Denials.{text}
use Rattle.denials.specs.Denials.{word_of}
use Rattle.denials.proofs.denial.Word.text.Goals as goal

pub returns-in-BrokenTable : goal.returns-in-BrokenTable
returns-in-BrokenTable c = sym (ap (λ w. text (word_of w)) c.in-BrokenTable.is)
