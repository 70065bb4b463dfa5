use Rattle.std.proofs.Common.{◌≡◌, drop, sym, refl, ap, ◌∙◌, arith}
use Rattle.std.specs.Cmp.Lexicographic.{pointwise}
use Rattle.std.proofs.lemmas.List.{take_rest}
use Rattle.storage.proofs.SameLists.{next, differs}
use Rattle.storage.proofs.span.same_list.Goals as goal

pub loop-i-init : goal.loop-i-init
loop-i-init g c = refl

pub returns-then-ne : goal.returns-then-ne
returns-then-ne g c =
    differs g.T.PartialEq.eq c.args.a.now c.args.b.now c.loop-i.i c.index-a-i.result c.index-b-i.result (omega arith) (omega arith) c.index-a-i.is c.index-b-i.is (sym c.if-ne.ensures) c.loop-i.invariant

pub loop-i-preserved : goal.loop-i-preserved
loop-i-preserved g c =
    next g.T.PartialEq.eq c.args.a.now c.args.b.now c.loop-i.i c.index-a-i.result c.index-b-i.result (omega arith) (omega arith) c.index-a-i.is c.index-b-i.is (sym c.if-ne.ensures) c.loop-i.invariant

pub returns : goal.returns
returns g c =
    let i : c.min-few.result ≡ c.loop-i.i = omega arith in
    c.eq.ensures
    ∙ (λ t. pointwise g.T.PartialEq.eq (take_rest c.args.a.now c.min-few.result t) (take_rest c.args.b.now c.min-few.result t))
    ∙ ap (λ n. pointwise g.T.PartialEq.eq (drop n c.args.a.now) (drop n c.args.b.now)) i ∙ c.loop-i.invariant
