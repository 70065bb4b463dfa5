use Rattle.laws.proofs.WholePairs.{pairs_whole}
use Rattle.laws.proofs.whole.pair_bytes_answer.Goals as goal

pub returns : goal.returns
returns g c = pairs_whole g.S.VariationStore.store g.S.VariationStore.lawful
