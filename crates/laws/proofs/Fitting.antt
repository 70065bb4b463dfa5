-- Built records fit: a rule list that calls make gives defaults, devices and ids of which each can be written and read.
use Rattle.std.proofs.Common.{◌≡◌, ℕ, ◌+◌, ◌<◌, Bool, true, false, leb, List, [], ◌∷◌, ◌++◌, map, length, drop, ℤ, Some, None, Option, refl, ap, ◌∙◌, subst, arith, length-append}
use Rattle.std.proofs.lemmas.Bool.Decides.{nat_tests}
use Rattle.spec.specs.Lists.{Every, place_of, concat}
use Rattle.spec.specs.Entries.{no_device}
use Rattle.spec.specs.Values.{Metric, ValueRecord, DeviceOrDeltas, device#, deltas#, DeviceOrVariationIndex, device, variation_index, build_order, delta_list, delta_lists, built_metric, built_record}
use Rattle.spec.specs.Rules.{RuleKind, RuleList, unknown, unknown_place}
use Rattle.list_laws.specs.Answering.{Matched}
use Rattle.list_laws.proofs.Members.{some_none}
use Rattle.list_laws.proofs.Holding.{matched_front, matched_back}
use Rattle.laws.specs.Conditions.{Within, FitsDevice, FitsMetric, FitsRecord}
use Rattle.laws.specs.Made.{FitsDefault, FitsValues}
use Rattle.laws.proofs.Making.{neither}
use Rattle.laws.proofs.Finding.{every_at}

-- no place: none passes
all_known : {A : Type 0} (p : A → Bool) (i : ℕ) (xs : List A) → place_of p i xs ≡ None → Every (λ x. p x ≡ false) xs
all_known p i [] e = tt
all_known p i (x ∷ xs) e = go (p x) refl e (λ h. all_known p (i + 1) xs h)
  where
    go : (b : Bool) → p x ≡ b → ◌≡◌ {A = Option ℕ} (elim b [ true ↦ Some i | false ↦ place_of p (i + 1) xs ]) None → (place_of p (i + 1) xs ≡ None → Every (λ y. p y ≡ false) xs) → Every (λ y. p y ≡ false) (x ∷ xs)
    go true f e r = some_none e
    go false f e r = (f, r e)

-- a rule without an unknown entry names devices, delta lists and sets that are there
module _ {R : Type 0} (kind : RuleKind R) (l : RuleList R) (r : R) (e : unknown_place kind l r ≡ None) where
  none_unknown : (place_of (unknown l) 0 (concat (map build_order (kind.values r))) ≡ None) × (place_of (leb (length l.sets)) 8 (kind.set_numbers r) ≡ None)
  none_unknown = neither (place_of (unknown l) 0 (concat (map build_order (kind.values r)))) (place_of (leb (length l.sets)) 8 (kind.set_numbers r)) e

  pub known_metrics : Every (λ m. unknown l m ≡ false) (concat (map build_order (kind.values r)))
  known_metrics = all_known (unknown l) 0 (concat (map build_order (kind.values r))) none_unknown.0

  pub known_sets : Every (λ n. leb (length l.sets) n ≡ false) (kind.set_numbers r)
  known_sets = all_known (leb (length l.sets)) 8 (kind.set_numbers r) none_unknown.1

-- the id beside a metric, if there is one, has the property
abbrev pub IdsBeside : (ℕ → Type 0) → Option DeviceOrVariationIndex → Type 0
IdsBeside P None = Unit {0}
IdsBeside P (Some (device d)) = Unit {0}
IdsBeside P (Some (variation_index k)) = P k

abbrev pub Ids : (ℕ → Type 0) → Option (Metric DeviceOrVariationIndex) → Type 0
Ids P None = Unit {0}
Ids P (Some m) = IdsBeside P m.beside

-- a record that fits, with ids that have the property
abbrev pub Good : (ℕ → Type 0) → ValueRecord DeviceOrVariationIndex → Type 0
Good P r = FitsRecord r × Every (Ids P) (build_order r)

module _ {R : Type 0} (l : RuleList R) (good : Every FitsDevice l.devices) (P : ℕ → Type 0) where
  abbrev pub Own : List ℕ → List ℕ → Type 0
  Own ids ns = Matched (λ k n. P k) ids ns

  abbrev Fine : Option (Metric DeviceOrVariationIndex) → Type 0
  Fine m = FitsMetric m × Ids P m

  beside_fine : (d : ℤ) (b : Option DeviceOrDeltas) (ids : List ℕ) → Within 32768 d → unknown l (Some (record { default = d; beside = b })) ≡ false → Own ids (delta_list (Some (record { default = d; beside = b })))
      → Fine (built_metric l.devices (Some (record { default = d; beside = b })) ids)
  beside_fine d None ids f e h = ((f, tt), tt)
  beside_fine d (Some (device# n)) ids f e h = let k : n < length l.devices = grind (arith, nat_tests) in ((f, every_at FitsDevice l.devices n no_device good k), tt)
  beside_fine d (Some (deltas# n)) [] f e h = absurd h
  beside_fine d (Some (deltas# n)) (k ∷ ids) f e h = ((f, tt), h.0)

  metric_fine : (m : Option (Metric DeviceOrDeltas)) (ids : List ℕ) → FitsDefault m → unknown l m ≡ false → Own ids (delta_list m) → Fine (built_metric l.devices m ids)
  metric_fine None ids f e h = (tt, tt)
  metric_fine (Some m) ids f e h = beside_fine m.default m.beside ids f e h

  pub record_good : (r : ValueRecord DeviceOrDeltas) (ids : List ℕ) → FitsValues r → Every (λ m. unknown l m ≡ false) (build_order r) → Own ids (delta_lists r) → Good P (built_record l.devices r ids)
  record_good r ids f e h =
      let M : ℕ → ℕ → Type 0 = λ k n. P k in
      let xa = delta_list r.x_advance in let ya = delta_list r.y_advance in let xp = delta_list r.x_placement in let yp = delta_list r.y_placement in
      let three = matched_front M ids (xa ++ ya ++ xp) yp h in
      let two = matched_front M ids (xa ++ ya) xp three in
      let la : length (xa ++ ya) ≡ length xa + length ya = length-append xa ya in
      let lb : length (xa ++ ya ++ xp) ≡ length xa + length ya + length xp = length-append (xa ++ ya) xp ∙ ap (λ n. n + length xp) la in
      let a = metric_fine r.x_advance ids f.0 e.0 (matched_front M ids xa ya two) in
      let b = metric_fine r.y_advance (drop (length xa) ids) f.1.0 e.1.0 (matched_back M ids xa ya two) in
      let c = metric_fine r.x_placement (drop (length xa + length ya) ids) f.1.1.0 e.1.1.0 (subst (λ n. Own (drop n ids) xp) la (matched_back M ids (xa ++ ya) xp three)) in
      let d = metric_fine r.y_placement (drop (length xa + length ya + length xp) ids) f.1.1.1.0 e.1.1.1.0 (subst (λ n. Own (drop n ids) yp) lb (matched_back M ids (xa ++ ya ++ xp) yp h)) in
      ((c.0, (d.0, (a.0, (b.0, tt)))), (a.1, (b.1, (c.1, (d.1, tt)))))
