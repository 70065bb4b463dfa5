use Rattle.spec.specs.Promise.{single_pos}
use Rattle.list_laws.proofs.SinglesStand.{singles_stand}
use Rattle.laws.proofs.WholeRuns.{runs_answer}
use Rattle.laws.proofs.WholeSingles.{singles_whole}
use Rattle.laws.proofs.whole.single_runs_answer.Goals as goal

pub returns : goal.returns
returns g c = runs_answer single_pos g.S.VariationStore.store (singles_whole g.S.VariationStore.store g.S.VariationStore.lawful) singles_stand
