use Rattle.list_laws.proofs.PairAnswers.{pairs_answer}
use Rattle.list_laws.proofs.pairs_answer.Goals as goal

pub returns : goal.returns
returns c = λ value l ids size region q h. pairs_answer value l size region q ids h
