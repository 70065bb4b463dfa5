use Rattle.list_laws.proofs.SingleAnswers.{singles_answer}
use Rattle.list_laws.proofs.singles_answer.Goals as goal

pub returns : goal.returns
returns c = λ value l ids size region g h. singles_answer value l size region g ids h
