use Rattle.std.proofs.Common.{◌≡◌, ◌≤◌, ◌++◌, length, drop}
use Rattle.spec.specs.StoreModels.{trimmed}
use Rattle.storage.specs.Deltas.{deltas_of}
use Rattle.stores.proofs.trim.trim.Given as goal

-- what was kept, and what is left to trim, make the trimmed list
abbrev pub invariant-loop-entry : goal.invariant-loop-entry
invariant-loop-entry l = (length l.kept.items ≤ l.entry-index) × (deltas_of l.kept.items ++ trimmed (deltas_of (drop l.entry-index l.list)) ≡ trimmed (deltas_of l.list))
