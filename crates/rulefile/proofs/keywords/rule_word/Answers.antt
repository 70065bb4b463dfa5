use Rattle.std.proofs.Common.{codes, arith}
use Rattle.rulefile.specs.Keywords.{rule_word}
use Rattle.rulefile.proofs.Spelling.{spelled}
use Rattle.rulefile.proofs.keywords.rule_word.Goals as goal

pub returns-in-single : goal.returns-in-single
returns-in-single c = spelled rule_word c.args.word.now (codes "single") (omega arith) (search arith)

pub returns-in-pair : goal.returns-in-pair
returns-in-pair c = spelled rule_word c.args.word.now (codes "pair") (omega arith) (search arith)

pub returns-in-class : goal.returns-in-class
returns-in-class c = spelled rule_word c.args.word.now (codes "class") (omega arith) (search arith)

pub returns-in-break : goal.returns-in-break
returns-in-break c = spelled rule_word c.args.word.now (codes "break") (omega arith) (search arith)

pub returns-in-build : goal.returns-in-build
returns-in-build c = spelled rule_word c.args.word.now (codes "build") (omega arith) (search arith)
