-- The bytes of a lookup of SinglePos subtables read as the subtables tried in order.
use Rattle.std.proofs.Common.{ℕ, ◌≤◌, ◌++◌, map, length, refl}
use Rattle.spec.specs.Bytes.{lookup_bytes, lookup_table, single_table}
use Rattle.spec.specs.Meaning.{single}
use Rattle.laws.specs.Conditions.{SinglesOf}
use Rattle.laws.specs.Descriptions.{single_read}
use Rattle.laws.specs.Subtables.{SingleLookupReads}
use Rattle.list_laws.proofs.Orders.{every_map}
use Rattle.laws.proofs.Lying.{lies}
use Rattle.laws.proofs.Singles.{single_reads}
use Rattle.laws.proofs.Lookups.{lookup_reads}

pub single_lookup_reads : SingleLookupReads
single_lookup_reads back size g flags mark subs fits =
    let bs = lookup_bytes 1 flags mark (map single_table subs) ++ back in
    lookup_reads bs single_table (single bs size g) (single_read size g) 1 flags mark subs
    (every_map {P = λ es. (1 ≤ length es) × ((f : ℕ) × SinglesOf f es)} (λ es h at l. single_reads bs size g at h.1.0 es h.0 h.1.1 l) subs fits)
    (lies (lookup_table 1 flags mark (map single_table subs)) bs back 0 refl)
