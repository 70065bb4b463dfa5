use Rattle.std.proofs.Common.{◌≡◌, eqb, IfOk, subst, List, ℕ, rules, tests}
use Rattle.std.proofs.lemmas.Iterator.Consumers.{map_from_collect}
use Rattle.std.proofs.lemmas.Iterator.Splits.{YieldsList-from_slice_split}
use Rattle.rulefile.specs.Words.{words_in}
use Rattle.rulefile.proofs.Cutting.{parts_are_lines}
use Rattle.rulefile.proofs.file.cut_lines.Goals as goal

pub returns : goal.returns
returns c =
    subst (λ (ls : List (List ℕ)). IfOk c.collect.result (λ v. words_in v.items ≡ ls)) (parts_are_lines c.args.text.now)
    (map_from_collect _ c.collect.ensures.ran
    (YieldsList-from_slice_split _ (λ b. eqb b 10) c.args.text.now c.split.ensures.rest c.split.ensures.done c.split.ensures.closure (λ x b q k. search (rules, tests))))
