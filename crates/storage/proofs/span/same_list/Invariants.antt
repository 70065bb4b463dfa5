use Rattle.std.proofs.Common.{◌≡◌, drop}
use Rattle.std.specs.Cmp.Lexicographic.{pointwise}
use Rattle.storage.proofs.span.same_list.Given as goal

abbrev pub invariant-loop-i : goal.invariant-loop-i
invariant-loop-i g l = pointwise g.T.PartialEq.eq (drop l.i l.a) (drop l.i l.b) ≡ pointwise g.T.PartialEq.eq l.fn.a l.fn.b
