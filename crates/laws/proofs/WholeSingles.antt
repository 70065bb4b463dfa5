-- Single lookups: the written bytes answer as the rule list does.
use Rattle.std.proofs.Common.{◌≡◌, ℕ, eqb, List, [], ◌∷◌, map, get_or, Some, None, Ok, Option, sym, refl, ap, ◌∙◌, subst, append-nil}
use Rattle.spec.specs.Lists.{Every, first, map_some, decided}
use Rattle.spec.specs.Values.{ValueRecord, DeviceOrVariationIndex, build_order}
use Rattle.spec.specs.Build.{BuiltSingle, built, single_build, lists_to_add, numbers_to_add}
use Rattle.spec.specs.Bytes.{lookup_bytes, single_table}
use Rattle.spec.specs.Meaning.{single_meaning}
use Rattle.spec.specs.Stores.{Store, Laws, Holds}
use Rattle.spec.specs.Promise.{single_pos, Agrees, Records, StoreDelta}
use Rattle.list_laws.specs.Says.{single_says, built_adjustments}
use Rattle.list_laws.proofs.Orders.{every_map}
use Rattle.list_laws.proofs.Within.{every_in}
use Rattle.list_laws.proofs.Members.{first_found, map_map, map_decided, decided_same, some_none}
use Rattle.list_laws.proofs.Holding.{matched_map, matched_weaken}
use Rattle.list_laws.proofs.SingleAnswers.{singles_answer}
use Rattle.laws.specs.Descriptions.{record_read, single_read}
use Rattle.laws.specs.Whole.{BytesAnswer}
use Rattle.laws.proofs.Fitting.{Ids}
use Rattle.laws.proofs.SingleFitting.{Fit, singles_fit}
use Rattle.laws.proofs.Agreeing.{record_agrees, agrees_map, decided_every}
use Rattle.laws.proofs.SingleLookups.{single_lookup_reads}

-- the first entry of a glyph has what every entry has
says_good : (P : ℕ → Type 0) (g : ℕ) (s : List BuiltSingle) → Fit P s → (r : ValueRecord DeviceOrVariationIndex) → single_says g s ≡ Some r → Every (Ids P) (build_order r)
says_good P g s h r e = go (first (λ x. eqb x.glyph g) s) refl e
  where
    go : (o : Option BuiltSingle) → first (λ x. eqb x.glyph g) s ≡ o → map_some (λ x. x.values) o ≡ Some r → Every (Ids P) (build_order r)
    go None u e = some_none (sym e)
    go (Some x) u e = subst (λ v. Every (Ids P) (build_order v)) (same e) (every_in (λ y. Every (Ids P) (build_order y.values)) s (every_map (λ y k. k.1) s h.2) x (first_found (λ y. eqb y.glyph g) s x u).0)
      where
        same : {u v : ValueRecord DeviceOrVariationIndex} → ◌≡◌ {A = Option (ValueRecord DeviceOrVariationIndex)} (Some u) (Some v) → u ≡ v
        same e = cc

-- what is read, by what the subtables say
read_said : (size g : ℕ) (flags : ℕ) (mark : Option ℕ) (P : ℕ → Type 0) (subs : List (List BuiltSingle)) → Every (Fit P) subs
    → single_meaning (lookup_bytes 1 flags mark (map single_table subs)) size g ≡ Ok (map_some (λ r. record_read size r ∷ []) (decided (single_says g) subs))
read_said size g flags mark P subs h =
    ap (λ bs. single_meaning bs size g) (sym (append-nil (lookup_bytes 1 flags mark (map single_table subs))))
    ∙ (single_lookup_reads [] size g flags mark subs (every_map (λ s k. (k.0, k.1)) subs h)
    ∙ ap Ok (decided_same (single_read size g) (λ s. map_some (λ r. record_read size r ∷ []) (single_says g s)) (λ s. sym (map_map (λ r. record_read size r ∷ []) (λ e. e.values) (first (λ e. eqb e.glyph g) s))) subs
    ∙ sym (map_decided (λ r. record_read size r ∷ []) (single_says g) subs)))

pub singles_whole : {S : Type 0} (m : Store S) → Laws m → BytesAnswer single_pos m
singles_whole {S} m laws t l ids made held flags mark g size region =
    let numbers = matched_map (Holds m t) (λ n. get_or l.deltas n []) ids (numbers_to_add single_build l) held in
    let fit = singles_fit (m.held t) l made ids (matched_weaken (λ k n. Holds m t k (get_or l.deltas n [])) (λ k n. m.held t k) (λ k n h. h.0) ids (numbers_to_add single_build l) numbers) in
    let told = singles_answer (m.value t) l size region g ids (matched_weaken (Holds m t) _ (λ k d h. h.1) ids (lists_to_add single_build l) held) in
    let same = Records (StoreDelta m t region) in
    let o = decided (single_says g) (built single_build l ids) in
    subst (λ a. Agrees same a (single_meaning (lookup_bytes 1 flags mark (map single_table (built single_build l ids))) size g)) (sym told)
    (subst (λ b. Agrees same (map_some (λ r. built_adjustments (m.value t) size region r ∷ []) o) b) (sym (read_said size g flags mark (m.held t) (built single_build l ids) fit))
    (agrees_map same (λ r. built_adjustments (m.value t) size region r ∷ []) (λ r. record_read size r ∷ []) o
    (λ r e. (record_agrees m laws t size region r (decided_every (Fit (m.held t)) (λ v. Every (Ids (m.held t)) (build_order v)) (single_says g) (λ s k v. says_good (m.held t) g s k v) (built single_build l ids) fit r e), tt))))
