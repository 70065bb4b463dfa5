use Rattle.std.proofs.Common.{◌≡◌, ℕ, ◌+◌, ◌<◌, ◌≤◌, ◌⊎◌, List, [], length, drop, Some, None, Option, sym, refl, ap, ◌∙◌, ⊎_elim, arith}
use Rattle.std.specs.Borrow.{Bor}
use Rattle.std.specs.List.{slice_range}
use Rattle.std.specs.Option.{MatchOption, unwrap_or}
use Rattle.std.proofs.lemmas.List.{drop_all, drop-map, take_rest}
use Rattle.rulefile.specs.Words.{words_in}
use Rattle.rulefile.proofs.words.words_from.Goals as goal

-- what `get` gives from a place on, or no words past the last
words_on : (ws : List (Bor (List ℕ))) (from : ℕ) (o : Option (Bor (List (Bor (List ℕ))))) (d : Bor (List (Bor (List ℕ)))) → d.now ≡ [] → MatchOption o ((length ws < from) ⊎ (length ws < length ws)) (λ x. (from ≤ length ws) × (length ws ≤ length ws) × (x.now ≡ slice_range ws from (length ws)) × (length x.now + from ≡ length ws)) → words_in (unwrap_or o d).now ≡ drop from (words_in ws)
words_on ws from None d none past =
    let all : length ws ≤ from = ⊎_elim (λ (h : length ws < from). let g : length ws ≤ from = omega arith in g) (λ (h : length ws < length ws). absurd (omega arith)) past in
    ap words_in (none ∙ sym (drop_all from ws all)) ∙ sym (drop-map (λ (w : Bor (List ℕ)). w.now) from ws)
words_on ws from (Some r) d none got = ap words_in (got.2 ∙ take_rest ws from) ∙ sym (drop-map (λ (w : Bor (List ℕ)). w.now) from ws)

pub returns : goal.returns
returns c = ap (λ (r : Bor (List (Bor (List ℕ)))). words_in r.now) c.unwrap_or.ensures ∙ words_on c.args.words.now c.args.from c.get.result _ refl c.get.ensures.lookup.0
