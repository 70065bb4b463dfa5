use Rattle.std.proofs.Common.{codes, arith}
use Rattle.rulefile.specs.Statements.{lookup_kind_of}
use Rattle.rulefile.proofs.Spelling.{spelled}
use Rattle.rulefile.proofs.statements.LookupKindTryFromRefSliceU8.try_from.Goals as goal

pub returns-in-single : goal.returns-in-single
returns-in-single c = spelled lookup_kind_of c.args.word.now (codes "single") (omega arith) (search arith)
