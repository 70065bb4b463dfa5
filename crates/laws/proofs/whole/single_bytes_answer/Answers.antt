use Rattle.laws.proofs.WholeSingles.{singles_whole}
use Rattle.laws.proofs.whole.single_bytes_answer.Goals as goal

pub returns : goal.returns
returns g c = singles_whole g.S.VariationStore.store g.S.VariationStore.lawful
