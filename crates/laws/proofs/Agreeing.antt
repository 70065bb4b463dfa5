-- What is read of a built record agrees with what the record gives, by a store that holds its ids.
use Rattle.std.proofs.Common.{◌≡◌, ℕ, ◌<◌, true, false, eqb, List, [], ◌∷◌, ℤ, pos, Some, None, Ok, Option, sym, refl, ◌∙◌, subst, arith}
use Rattle.std.proofs.lemmas.Bool.Decides.{nat_tests}
use Rattle.spec.specs.Lists.{Every, or_else, map_some, decided}
use Rattle.spec.specs.Values.{Metric, ValueRecord, DeviceOrVariationIndex, device, variation_index, build_order}
use Rattle.spec.specs.Meaning.{no_id}
use Rattle.spec.specs.Stores.{Store, Laws}
use Rattle.spec.specs.Promise.{StoreDelta, Metrics, Agrees}
use Rattle.list_laws.specs.Says.{built_adjustment, built_adjustments}
use Rattle.list_laws.proofs.Members.{some_none}
use Rattle.laws.specs.Descriptions.{metric_read, record_read}
use Rattle.laws.proofs.Fitting.{Ids}

module _ {S : Type 0} (m : Store S) (laws : Laws m) (t : S) (size region : ℕ) where
  -- a held id is not the one that stands for none
  is_id : (k : ℕ) → m.held t k → eqb k no_id ≡ false
  is_id k h = let l : k < no_id = laws.ids t k h in grind (arith, nat_tests)

  abbrev MetricAgrees : Option (Metric DeviceOrVariationIndex) → Type 0
  MetricAgrees x = ((metric_read size x).default ≡ (built_adjustment (m.value t) size region x).default) × ((metric_read size x).device ≡ (built_adjustment (m.value t) size region x).device)
      × StoreDelta m t region (metric_read size x).id (built_adjustment (m.value t) size region x).delta

  beside_agrees : (d : ℤ) (b : Option DeviceOrVariationIndex) → Ids (m.held t) (Some (record { default = d; beside = b })) → MetricAgrees (Some (record { default = d; beside = b }))
  beside_agrees d None h = (refl, refl, refl)
  beside_agrees d (Some (device x)) h = (refl, refl, refl)
  beside_agrees d (Some (variation_index k)) h = (refl, refl, subst (λ b. elim b as (λ _. Type 0) [ true ↦ m.value t k region ≡ pos 0 | false ↦ m.held t k × (m.value t k region ≡ m.value t k region) ]) (sym (is_id k h)) (h, refl))

  metric_agrees : (x : Option (Metric DeviceOrVariationIndex)) → Ids (m.held t) x → MetricAgrees x
  metric_agrees None h = (refl, refl, refl)
  metric_agrees (Some x) h = beside_agrees x.default x.beside h

  pub record_agrees : (r : ValueRecord DeviceOrVariationIndex) → Every (Ids (m.held t)) (build_order r) → Metrics (StoreDelta m t region) (built_adjustments (m.value t) size region r) (record_read size r)
  record_agrees r h =
      let a = metric_agrees r.x_advance h.0 in let b = metric_agrees r.y_advance h.1.0 in let c = metric_agrees r.x_placement h.1.1.0 in let d = metric_agrees r.y_placement h.1.1.1.0 in
      (a.0, a.1, a.2, (b.0, b.1, b.2, (c.0, c.1, c.2, (d.0, d.1, d.2, tt))))

-- ---- answers from one source agree if what they say of it does

pub agrees_map : {X A B : Type 0} (same : A → B → Type 0) (f : X → A) (g : X → B) (o : Option X) → ((x : X) → o ≡ Some x → same (f x) (g x)) → Agrees same (map_some f o) (Ok (map_some g o))
agrees_map same f g None h = tt
agrees_map same f g (Some x) h = h x refl

-- what every list's answer has, the one that decides has
pub decided_every : {A B : Type 0} (P : A → Type 0) (Q : B → Type 0) (t : A → Option B) → ((x : A) → P x → (y : B) → t x ≡ Some y → Q y) → (xs : List A) → Every P xs → (y : B) → decided t xs ≡ Some y → Q y
decided_every P Q t f [] h y e = some_none (sym e)
decided_every {A} {B} P Q t f (x ∷ xs) h y e = go (t x) refl e (decided_every P Q t f xs h.1 y)
  where
    go : (o : Option B) → t x ≡ o → or_else o (decided t xs) ≡ Some y → (decided t xs ≡ Some y → Q y) → Q y
    go None u e r = r e
    go (Some z) u e r = f x h.0 y (u ∙ e)
