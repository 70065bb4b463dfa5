use Rattle.std.proofs.Common.{◌≡◌, ◌+◌, map, drop}
use Rattle.spec.specs.Entries.{not_rising, unsorted}
use Rattle.storage.proofs.rising.first_unsorted.Given as goal

abbrev pub invariant-loop-i : goal.invariant-loop-i
invariant-loop-i g l = not_rising (l.i + 1) l.last (map g.T.Keyed.key (drop l.i l.rest)) ≡ unsorted (map g.T.Keyed.key l.fn.items)
