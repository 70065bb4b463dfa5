use Rattle.std.proofs.Common.{codes, arith}
use Rattle.rulefile.specs.Keywords.{entry_word}
use Rattle.rulefile.proofs.Spelling.{spelled}
use Rattle.rulefile.proofs.keywords.entry_word.Goals as goal

pub returns-in-device : goal.returns-in-device
returns-in-device c = spelled entry_word c.args.word.now (codes "device") (omega arith) (search arith)

pub returns-in-deltas : goal.returns-in-deltas
returns-in-deltas c = spelled entry_word c.args.word.now (codes "deltas") (omega arith) (search arith)
