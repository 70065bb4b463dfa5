use Rattle.std.proofs.Common.{codes, arith}
use Rattle.rulefile.specs.Keywords.{opening_word}
use Rattle.rulefile.proofs.Spelling.{spelled}
use Rattle.rulefile.proofs.keywords.opening_word.Goals as goal

pub returns-in-lookup : goal.returns-in-lookup
returns-in-lookup c = spelled opening_word c.args.word.now (codes "lookup") (omega arith) (search arith)

pub returns-in-storage : goal.returns-in-storage
returns-in-storage c = spelled opening_word c.args.word.now (codes "storage") (omega arith) (search arith)

pub returns-in-store : goal.returns-in-store
returns-in-store c = spelled opening_word c.args.word.now (codes "store") (omega arith) (search arith)
