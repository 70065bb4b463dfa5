use Rattle.std.proofs.Common.{codes, sym, ◌∙◌, rules, tests}
use Rattle.std.proofs.lemmas.Iterator.{YieldsList-from_slice}
use Rattle.std.proofs.lemmas.Iterator.Search.{position_from_yields_List}
use Rattle.rulefile.specs.Words.{same_word}
use Rattle.rulefile.proofs.Cutting.{position-map}
use Rattle.rulefile.proofs.records.find_slash.Goals as goal

pub returns : goal.returns
returns c =
    position_from_yields_List (λ w. same_word w.now (codes "/")) _ _ _ c.position.ensures.ran (YieldsList-from_slice c.args.words.now (cc)) (λ x b q k. search (rules, tests))
    ∙ sym (position-map (λ w. same_word w (codes "/")) (λ w. w.now) c.args.words.now)
