use Rattle.std.proofs.Common.{◌≡◌, map, drop, vec_items}
use Rattle.rulefile.specs.Names.{named, names_in, place_from, place_of}
use Rattle.rulefile.proofs.names.Names.find.Given as goal

abbrev pub invariant-loop-at : goal.invariant-loop-at
invariant-loop-at l = place_from l.at l.name (map named (drop l.at (vec_items l.self.entries))) ≡ place_of l.name (names_in l.self)
