-- Lookups of PairPos subtables, of both formats, read as they are described.
use Rattle.std.proofs.Common.{◌≡◌, ℕ, ◌&&◌, eqb, List, ◌++◌, map, Ok, Option, sym, refl, ap, ◌∙◌}
use Rattle.spec.specs.Lists.{Every, first, decided}
use Rattle.spec.specs.Build.{PairSubtable, glyph_pairs, class_pairs}
use Rattle.spec.specs.Bytes.{Lies, pair_table, lookup_table, lookup_bytes}
use Rattle.spec.specs.Meaning.{pair, pair_meaning}
use Rattle.list_laws.proofs.Orders.{every_map}
use Rattle.list_laws.proofs.Members.{map_map}
use Rattle.laws.specs.Conditions.{FitsPairs}
use Rattle.laws.specs.Descriptions.{two_read, pairs_read}
use Rattle.laws.proofs.Lying.{lies}
use Rattle.laws.proofs.Lookups.{lookup_reads}
use Rattle.laws.proofs.GlyphPairs.{glyph_pairs_read}
use Rattle.laws.proofs.ClassPairs.{class_pairs_read}

-- a subtable of either format
pairs_reads : (bs : List ℕ) (s : ℕ) (q : ℕ × ℕ) (sub : PairSubtable) → FitsPairs sub → (at : ℕ) → Lies bs at (pair_table sub) → pair bs s q at ≡ Ok (pairs_read s q sub)
pairs_reads bs s q (glyph_pairs f1 f2 es) fits at h = glyph_pairs_read bs s at f1 f2 q es fits h ∙ ap Ok (sym (map_map (two_read s) (λ e. (e.values1, e.values2)) (first (λ e. eqb e.first q.0 && eqb e.second q.1) es)))
pairs_reads bs s q (class_pairs es) fits at h = class_pairs_read bs s at q es fits h

pub pair_lookup_reads : (back : List ℕ) (s flags : ℕ) (q : ℕ × ℕ) (mark : Option ℕ) (subs : List PairSubtable) → Every FitsPairs subs
    → pair_meaning (lookup_bytes 2 flags mark (map pair_table subs) ++ back) s q ≡ Ok (decided (pairs_read s q) subs)
pair_lookup_reads back s flags q mark subs fits =
    let bs = lookup_bytes 2 flags mark (map pair_table subs) ++ back in
    lookup_reads bs pair_table (pair bs s q) (pairs_read s q) 2 flags mark subs (every_map {P = FitsPairs} (pairs_reads bs s q) subs fits)
    (lies (lookup_table 2 flags mark (map pair_table subs)) bs back 0 refl)
