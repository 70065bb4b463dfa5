use Rattle.list_laws.proofs.Together.{together_is_equivalence}
use Rattle.laws.proofs.together_is_equivalence.Goals as goal

pub returns : goal.returns
returns c = together_is_equivalence
