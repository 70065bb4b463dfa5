use Rattle.spec.specs.Promise.{pair_pos}
use Rattle.list_laws.proofs.PairsStand.{pairs_stand}
use Rattle.laws.proofs.WholeRuns.{runs_answer}
use Rattle.laws.proofs.WholePairs.{pairs_whole}
use Rattle.laws.proofs.whole.pair_runs_answer.Goals as goal

pub returns : goal.returns
returns g c = runs_answer pair_pos g.S.VariationStore.store (pairs_whole g.S.VariationStore.store g.S.VariationStore.lawful) pairs_stand
