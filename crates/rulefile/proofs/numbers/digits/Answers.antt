use Rattle.std.proofs.Common.{arith}
use Rattle.rulefile.proofs.Reading.{refused_size}
use Rattle.rulefile.proofs.numbers.digits.Goals as goal

pub returns-then-value-from : goal.returns-then-value-from
returns-then-value-from c =
    refused_size c.args.base c.args.limit c.loop-byte.value c.in_ok-next.next c.loop-byte.byte-index c.args.word.now (omega arith) (omega arith) c.in_ok-next.ensures (omega arith) c.loop-byte.invariant.1
