use Rattle.laws.proofs.ClassPairs.{class_pairs_read}
use Rattle.laws.proofs.class_pairs_read.Goals as goal

pub returns : goal.returns
returns c = class_pairs_read
