use Rattle.std.proofs.Common.{◌≡◌, eqb, IfOk, subst, List, ℕ, rules, tests}
use Rattle.std.proofs.lemmas.Iterator.Consumers.{map_from_collect, YieldsList-from_filter, YieldsList-at}
use Rattle.std.proofs.lemmas.Iterator.Search.{YieldsList-from_take_while}
use Rattle.std.proofs.lemmas.Iterator.Splits.{YieldsList-from_slice_split}
use Rattle.rulefile.specs.Words.{words_in}
use Rattle.rulefile.proofs.Cutting.{parts_are_words, not_empty, no_comment}
use Rattle.rulefile.proofs.words.cut_words.Goals as goal

pub returns : goal.returns
returns c =
    subst (λ (ls : List (List ℕ)). IfOk c.collect.result (λ v. words_in v.items ≡ ls)) (parts_are_words c.args.line.now)
    (map_from_collect _ c.collect.ensures.ran
    (YieldsList-from_take_while _ no_comment
    (YieldsList-at c.take_while.ensures.source
    (YieldsList-from_filter _ not_empty
    (YieldsList-at c.filter.ensures.source
    (YieldsList-from_slice_split _ (λ b. eqb b 32) c.args.line.now c.split.ensures.rest c.split.ensures.done c.split.ensures.closure (λ x b q k. search (rules, tests))))
    c.filter.ensures.closure (λ x b q k. search (rules, tests))))
    c.take_while.ensures.closure c.take_while.ensures.done (λ x b q k. search (rules, tests))))
