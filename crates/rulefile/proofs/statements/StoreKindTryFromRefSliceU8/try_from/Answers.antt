use Rattle.std.proofs.Common.{codes, arith}
use Rattle.rulefile.specs.Statements.{store_kind_of}
use Rattle.rulefile.proofs.Spelling.{spelled}
use Rattle.rulefile.proofs.statements.StoreKindTryFromRefSliceU8.try_from.Goals as goal

pub returns-in-sharing : goal.returns-in-sharing
returns-in-sharing c = spelled store_kind_of c.args.word.now (codes "sharing") (omega arith) (search arith)

pub returns-in-116 : goal.returns-in-116
returns-in-116 c = spelled store_kind_of c.args.word.now (codes "trim+flat") (omega arith) (search arith)

pub returns-in-116-2 : goal.returns-in-116-2
returns-in-116-2 c = spelled store_kind_of c.args.word.now (codes "trim+sharing") (omega arith) (search arith)
