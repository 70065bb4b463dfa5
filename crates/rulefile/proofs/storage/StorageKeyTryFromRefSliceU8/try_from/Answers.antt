use Rattle.std.proofs.Common.{codes, arith}
use Rattle.rulefile.specs.Storages.{wanted_key}
use Rattle.rulefile.proofs.Spelling.{spelled}
use Rattle.rulefile.proofs.storage.StorageKeyTryFromRefSliceU8.try_from.Goals as goal

pub returns-in-devices : goal.returns-in-devices
returns-in-devices c = spelled wanted_key c.args.word.now (codes "devices") (omega arith) (search arith)

pub returns-in-deltas : goal.returns-in-deltas
returns-in-deltas c = spelled wanted_key c.args.word.now (codes "deltas") (omega arith) (search arith)

pub returns-in-115 : goal.returns-in-115
returns-in-115 c = spelled wanted_key c.args.word.now (codes "set-pool") (omega arith) (search arith)

pub returns-in-100 : goal.returns-in-100
returns-in-100 c = spelled wanted_key c.args.word.now (codes "device-pool") (omega arith) (search arith)

pub returns-in-100-2 : goal.returns-in-100-2
returns-in-100-2 c = spelled wanted_key c.args.word.now (codes "delta-pool") (omega arith) (search arith)

pub returns-in-sets : goal.returns-in-sets
returns-in-sets c = spelled wanted_key c.args.word.now (codes "sets") (omega arith) (search arith)

pub returns-in-rules : goal.returns-in-rules
returns-in-rules c = spelled wanted_key c.args.word.now (codes "rules") (omega arith) (search arith)

pub returns-in-store : goal.returns-in-store
returns-in-store c = spelled wanted_key c.args.word.now (codes "store") (omega arith) (search arith)
