use Rattle.std.proofs.Common.{ℕ, ◌+◌, List, take, drop, Some, sym, ap, ◌∙◌}
use Rattle.std.specs.Borrow.{Bor}
use Rattle.std.specs.Option.{option_map}
use Rattle.std.proofs.lemmas.List.{drop-map, take-map, take_rest}
use Rattle.rulefile.specs.Words.{words_in}
use Rattle.rulefile.proofs.records.split_at_slash.Goals as goal

pub returns : goal.returns
returns c =
    let at : ℕ = c.in_ok-at.at in
    let words : List (Bor (List ℕ)) = c.args.words.now in
    let front = sym (take-map (λ (w : Bor (List ℕ)). w.now) at words) in
    let back = ap words_in (take_rest words (at + 1)) ∙ sym (drop-map (λ (w : Bor (List ℕ)). w.now) (at + 1) words) in
    (λ i. Some (front i, back i)) ∙ ap (option_map (λ (n : ℕ). (take n (words_in words), drop (n + 1) (words_in words)))) c.in_ok-at.ensures
