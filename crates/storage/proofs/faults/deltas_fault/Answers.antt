use Rattle.std.proofs.Common.{ltb, map, length, take, ap, ◌∙◌}
use Rattle.spec.specs.Entries.{lower, unsorted}
use Rattle.storage.specs.declared.delta.Delta.{Delta}
use Rattle.storage.proofs.Regions.{first_tell}
use Rattle.storage.proofs.faults.deltas_fault.Goals as goal

pub returns : goal.returns
returns c =
    let ds = c.args.list.now in
    let first = c.first_unsorted.ensures ∙ ap (λ n. unsorted (map (λ (d : Delta). d.region) (take n ds))) c.min.ensures in
    c.lower.ensures ∙ ap (λ o. lower o (ltb 64 (length ds))) first ∙ first_tell ds
