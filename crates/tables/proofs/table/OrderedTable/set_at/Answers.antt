use Rattle.std.proofs.Common.{◌∙◌}
use Rattle.tables.proofs.Puts.{value_at, value_nowhere}
use Rattle.tables.proofs.table.OrderedTable.set_at.Goals as goal

pub returns-in-Some-clause-after : goal.returns-in-Some-clause-after
returns-in-Some-clause-after g c = c.set_pair.ensures.after ∙ value_at c.args.self.now.pairs c.args.i _ c.args.value c.in-Some.ensures

pub returns-in_default-clause-after : goal.returns-in_default-clause-after
returns-in_default-clause-after g c = value_nowhere c.args.self.now.pairs c.args.i c.args.value c.in_default.ensures
