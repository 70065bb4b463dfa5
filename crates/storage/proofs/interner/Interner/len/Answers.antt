use Rattle.std.proofs.Common.{take, subst, arith}
use Rattle.storage.specs.Interners.{IsWithin}
use Rattle.storage.proofs.Spans.{length_is, weight_is}
use Rattle.storage.proofs.interner.Interner.len.Goals as goal

pub returns-clause-within : goal.returns-clause-within
returns-clause-within g c =
    let d = c.self.inside in
    let i = c.self.invariant in
    subst IsWithin c.self.view_is (record {
      entries = omega (arith, length_is d.pool.now d.table.now d.used i.in_table, i.in_table);
      few_places = i.few_places;
      elements = omega (arith, weight_is d.pool.now (take d.used d.table.now) d.filled i.in_order i.in_pool, i.in_pool);
    })
