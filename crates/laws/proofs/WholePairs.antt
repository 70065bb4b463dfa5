-- Pair lookups: the written bytes answer as the rule list does.
use Rattle.std.proofs.Common.{◌≡◌, ℕ, Bool, true, false, ◌&&◌, eqb, List, [], ◌∷◌, map, get_or, Some, None, Ok, Option, sym, refl, ap, ◌∙◌, subst, append-nil}
use Rattle.spec.specs.Lists.{Every, first, any, has, map_some, decided}
use Rattle.spec.specs.Values.{ValueRecord, DeviceOrVariationIndex, PairOf, build_order}
use Rattle.spec.specs.Build.{BuiltPair, Cell, PairSubtable, glyph_pairs, class_pairs, built, pair_build, lists_to_add, numbers_to_add}
use Rattle.spec.specs.Bytes.{lookup_bytes, pair_table}
use Rattle.spec.specs.Meaning.{pair_meaning}
use Rattle.spec.specs.Stores.{Store, Laws, Holds}
use Rattle.spec.specs.Promise.{pair_pos, Agrees, Records, StoreDelta}
use Rattle.list_laws.specs.Says.{pair_says, cell_or_zeros, built_adjustments}
use Rattle.list_laws.proofs.Orders.{every_map}
use Rattle.list_laws.proofs.Within.{every_in}
use Rattle.list_laws.proofs.Members.{first_found, map_decided, some_none}
use Rattle.list_laws.proofs.Holding.{matched_map, matched_weaken}
use Rattle.list_laws.proofs.PairAnswers.{pairs_answer}
use Rattle.laws.specs.Descriptions.{two_read}
use Rattle.laws.specs.Whole.{BytesAnswer}
use Rattle.laws.proofs.Fitting.{Ids}
use Rattle.laws.proofs.PairFitting.{GoodPair, FitPair, pairs_fit}
use Rattle.laws.proofs.Agreeing.{record_agrees, agrees_map, decided_every}
use Rattle.laws.proofs.PairLookups.{pair_lookup_reads}

abbrev Two : Type 0
Two = ValueRecord DeviceOrVariationIndex × ValueRecord DeviceOrVariationIndex

-- the ids of two records have the property
abbrev IdsTwo : (ℕ → Type 0) → Two → Type 0
IdsTwo P r = Every (Ids P) (build_order r.0) × Every (Ids P) (build_order r.1)

same_some : {A : Type 0} {u v : A} → ◌≡◌ {A = Option A} (Some u) (Some v) → u ≡ v
same_some e = cc

-- the first that passes has what every entry has
first_good : {K : Type 0} (P : ℕ → Type 0) (p : PairOf K DeviceOrVariationIndex → Bool) (es : List (PairOf K DeviceOrVariationIndex)) → Every (GoodPair P) es → (e : PairOf K DeviceOrVariationIndex) → first p es ≡ Some e → IdsTwo P (e.values1, e.values2)
first_good P p es h e f = let g = every_in (GoodPair P) es h e (first_found p es e f).0 in (g.0.1, g.1.1)

says_good : (P : ℕ → Type 0) (q : ℕ × ℕ) (s : PairSubtable) → FitPair P s → (r : Two) → pair_says q s ≡ Some r → IdsTwo P r
says_good P q (glyph_pairs f1 f2 es) h r e = go (first (λ x. eqb x.first q.0 && eqb x.second q.1) es) refl e
  where
    go : (o : Option BuiltPair) → first (λ x. eqb x.first q.0 && eqb x.second q.1) es ≡ o → map_some (λ x. (x.values1, x.values2)) o ≡ Some r → IdsTwo P r
    go None u e = some_none (sym e)
    go (Some x) u e = subst (IdsTwo P) (same_some e) (first_good P (λ x. eqb x.first q.0 && eqb x.second q.1) es h.1 x u)
says_good P q (class_pairs es) h r e = go (any (λ x. has q.0 x.first) es) e
  where
    cell : (o : Option Cell) → first (λ x. has q.0 x.first && has q.1 x.second) es ≡ o → IdsTwo P (cell_or_zeros o)
    cell None u = ((tt, (tt, (tt, (tt, tt)))), (tt, (tt, (tt, (tt, tt)))))
    cell (Some x) u = first_good P (λ x. has q.0 x.first && has q.1 x.second) es h.1 x u

    go : (b : Bool) → ◌≡◌ {A = Option Two} (elim b [ true ↦ Some (cell_or_zeros (first (λ x. has q.0 x.first && has q.1 x.second) es)) | false ↦ None ]) (Some r) → IdsTwo P r
    go true e = subst (IdsTwo P) (same_some e) (cell (first (λ x. has q.0 x.first && has q.1 x.second) es) refl)
    go false e = some_none (sym e)

-- what is read, by what the subtables say
read_said : (size : ℕ) (q : ℕ × ℕ) (flags : ℕ) (mark : Option ℕ) (P : ℕ → Type 0) (subs : List PairSubtable) → Every (FitPair P) subs
    → pair_meaning (lookup_bytes 2 flags mark (map pair_table subs)) size q ≡ Ok (map_some (two_read size) (decided (pair_says q) subs))
read_said size q flags mark P subs h =
    ap (λ bs. pair_meaning bs size q) (sym (append-nil (lookup_bytes 2 flags mark (map pair_table subs))))
    ∙ (pair_lookup_reads [] size flags q mark subs (every_map (λ s k. k.0) subs h)
    ∙ ap Ok (sym (map_decided (two_read size) (pair_says q) subs)))

pub pairs_whole : {S : Type 0} (m : Store S) → Laws m → BytesAnswer pair_pos m
pairs_whole {S} m laws t l ids made held flags mark q size region =
    let numbers = matched_map (Holds m t) (λ n. get_or l.deltas n []) ids (numbers_to_add pair_build l) held in
    let fit = pairs_fit (m.held t) l made ids (matched_weaken (λ k n. Holds m t k (get_or l.deltas n [])) (λ k n. m.held t k) (λ k n h. h.0) ids (numbers_to_add pair_build l) numbers) in
    let told = pairs_answer (m.value t) l size region q ids (matched_weaken (Holds m t) _ (λ k d h. h.1) ids (lists_to_add pair_build l) held) in
    let same = Records (StoreDelta m t region) in
    let o = decided (pair_says q) (built pair_build l ids) in
    let said : Two → _ = λ r. built_adjustments (m.value t) size region r.0 ∷ built_adjustments (m.value t) size region r.1 ∷ [] in
    subst (λ a. Agrees same a (pair_meaning (lookup_bytes 2 flags mark (map pair_table (built pair_build l ids))) size q)) (sym told)
    (subst (λ b. Agrees same (map_some said o) b) (sym (read_said size q flags mark (m.held t) (built pair_build l ids) fit))
    (agrees_map same said (two_read size) o
    (λ r e. let g = decided_every (FitPair (m.held t)) (IdsTwo (m.held t)) (pair_says q) (λ s k v. says_good (m.held t) q s k v) (built pair_build l ids) fit r e in
    (record_agrees m laws t size region r.0 g.0, (record_agrees m laws t size region r.1 g.1, tt)))))
