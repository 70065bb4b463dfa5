use Rattle.spec.specs.Promise.{single_pos, pair_pos}
use Rattle.laws.proofs.WholeRuns.{runs_make}
use Rattle.laws.proofs.whole.runs_make.Goals as goal

pub returns : goal.returns
returns g c = record { single = runs_make single_pos g.S.VariationStore.store; pair = runs_make pair_pos g.S.VariationStore.store }
