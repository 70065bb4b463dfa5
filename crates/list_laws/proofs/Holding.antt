-- Ids that hold the delta lists handed over: shared out over rules, groups and sections, and what built records then give.
use Rattle.std.proofs.Common.{◌≡◌, ℕ, ◌+◌, Bool, true, false, ◌||◌, List, [], ◌∷◌, ◌++◌, map, length, get_or, drop, ℤ, pos, Some, None, Option, sym, refl, ap, ◌∙◌, subst, ap₂, length-append}
use Rattle.spec.specs.Lists.{Every, first, any, or_else, map_some, decided, concat}
use Rattle.spec.specs.Entries.{Delta, delta_at}
use Rattle.spec.specs.Values.{Metric, ValueRecord, DeviceOrDeltas, device#, deltas#, delta_list, delta_lists, built_metric, built_record, built_each}
use Rattle.spec.specs.Rules.{RuleList}
use Rattle.spec.specs.ListAnswer.{Adjustment, adjustment, adjustments}
use Rattle.list_laws.specs.Says.{built_adjustment, built_adjustments}
use Rattle.list_laws.specs.Answering.{Matched}
use Rattle.list_laws.proofs.Orders.{Rises}

pub matched_front : {A : Type 0} (P : ℕ → A → Type 0) (ids : List ℕ) (a b : List A) → Matched P ids (a ++ b) → Matched P ids a
matched_front P ids [] b h = tt
matched_front P [] (n ∷ a) b h = absurd h
matched_front P (k ∷ ids) (n ∷ a) b h = (h.0, matched_front P ids a b h.1)

pub matched_back : {A : Type 0} (P : ℕ → A → Type 0) (ids : List ℕ) (a b : List A) → Matched P ids (a ++ b) → Matched P (drop (length a) ids) b
matched_back P ids [] b h = h
matched_back P [] (n ∷ a) b h = absurd h
matched_back P (k ∷ ids) (n ∷ a) b h = matched_back P ids a b h.1

pub matched_map : {A B : Type 0} (P : ℕ → B → Type 0) (f : A → B) (ids : List ℕ) (xs : List A) → Matched P ids (map f xs) → Matched (λ k x. P k (f x)) ids xs
matched_map P f ids [] h = tt
matched_map P f [] (x ∷ xs) h = absurd h
matched_map P f (k ∷ ids) (x ∷ xs) h = (h.0, matched_map P f ids xs h.1)

pub matched_weaken : {A : Type 0} (P Q : ℕ → A → Type 0) → ((k : ℕ) (x : A) → P k x → Q k x) → (ids : List ℕ) (xs : List A) → Matched P ids xs → Matched Q ids xs
matched_weaken P Q f ids [] h = tt
matched_weaken P Q f [] (x ∷ xs) h = absurd h
matched_weaken P Q f (k ∷ ids) (x ∷ xs) h = (f k x h.0, matched_weaken P Q f ids xs h.1)

-- what holds of each with its own ids
pub built_every : {A B : Type 0} (M : ℕ → ℕ → Type 0) (lists : A → List ℕ) (f : A → List ℕ → B) (P : A → Type 0) (Q : B → Type 0) → ((r : A) (ids : List ℕ) → P r → Matched M ids (lists r) → Q (f r ids))
    → (rs : List A) (ids : List ℕ) → Every P rs → Matched M ids (concat (map lists rs)) → Every Q (built_each lists f rs ids)
built_every M lists f P Q s [] ids h w = tt
built_every M lists f P Q s (r ∷ rs) ids h w =
    (s r ids h.0 (matched_front M ids (lists r) (concat (map lists rs)) w), built_every M lists f P Q s rs (drop (length (lists r)) ids) h.1 (matched_back M ids (lists r) (concat (map lists rs)) w))

module _ (value : ℕ → ℕ → ℤ) (deltas : List (List Delta)) where
  -- an id holds the delta list of this number
  abbrev pub HoldsNumber : ℕ → ℕ → Type 0
  HoldsNumber k n = (r : ℕ) → value k r ≡ delta_at (get_or deltas n []) r

  abbrev pub HoldNumbers : List ℕ → List ℕ → Type 0
  HoldNumbers ids ns = Matched HoldsNumber ids ns

  pub hold_front : (ids a b : List ℕ) → HoldNumbers ids (a ++ b) → HoldNumbers ids a
  hold_front ids a b h = matched_front HoldsNumber ids a b h

  pub hold_back : (ids a b : List ℕ) → HoldNumbers ids (a ++ b) → HoldNumbers (drop (length a) ids) b
  hold_back ids a b h = matched_back HoldsNumber ids a b h

  -- ---- one after the other, each with its own ids

  module _ {A B : Type 0} (lists : A → List ℕ) (f : A → List ℕ → B) where
    -- the first that passes
    pub built_first : {X : Type 0} (w : A → X) (w' : B → X) (p : A → Bool) (p' : B → Bool) → ((r : A) (ids : List ℕ) → p' (f r ids) ≡ p r)
        → ((r : A) (ids : List ℕ) → HoldNumbers ids (lists r) → w r ≡ w' (f r ids))
        → (rs : List A) (ids : List ℕ) → HoldNumbers ids (concat (map lists rs)) → map_some w (first p rs) ≡ map_some w' (first p' (built_each lists f rs ids))
    built_first w w' p p' s v [] ids h = refl
    built_first {X} w w' p p' s v (r ∷ rs) ids h = go (p r) (p' (f r ids)) (s r ids) (v r ids (hold_front ids (lists r) (concat (map lists rs)) h)) (built_first w w' p p' s v rs (drop (length (lists r)) ids) (hold_back ids (lists r) (concat (map lists rs)) h))
      where
        go : (b b' : Bool) → b' ≡ b → w r ≡ w' (f r ids) → map_some w (first p rs) ≡ map_some w' (first p' (built_each lists f rs (drop (length (lists r)) ids)))
            → map_some w (elim b [ true ↦ Some r | false ↦ first p rs ]) ≡ map_some w' (elim b' [ true ↦ Some (f r ids) | false ↦ first p' (built_each lists f rs (drop (length (lists r)) ids)) ])
        go true true e x y = ap {B = Option X} Some x
        go true false e x y = cc
        go false true e x y = cc
        go false false e x y = y

    -- whether any passes
    pub built_any : (p : A → Bool) (p' : B → Bool) → ((r : A) (ids : List ℕ) → p' (f r ids) ≡ p r) → (rs : List A) (ids : List ℕ) → any p' (built_each lists f rs ids) ≡ any p rs
    built_any p p' s [] ids = refl
    built_any p p' s (r ∷ rs) ids = ap₂ (λ x y. x || y) (s r ids) (built_any p p' s rs (drop (length (lists r)) ids))

    -- the first that decides
    pub built_decided : {X : Type 0} (t : A → Option X) (t' : B → Option X) → ((r : A) (ids : List ℕ) → HoldNumbers ids (lists r) → t r ≡ t' (f r ids))
        → (rs : List A) (ids : List ℕ) → HoldNumbers ids (concat (map lists rs)) → decided t rs ≡ decided t' (built_each lists f rs ids)
    built_decided t t' v [] ids h = refl
    built_decided t t' v (r ∷ rs) ids h = ap₂ or_else (v r ids (hold_front ids (lists r) (concat (map lists rs)) h)) (built_decided t t' v rs (drop (length (lists r)) ids) (hold_back ids (lists r) (concat (map lists rs)) h))

-- what stands in an order stays in it
built_behind : {A B : Type 0} (lists : A → List ℕ) (f : A → List ℕ → B) (P : A → Type 0) (Q : B → Type 0) → ((r : A) (ids : List ℕ) → P r → Q (f r ids)) → (rs : List A) (ids : List ℕ) → Every P rs → Every Q (built_each lists f rs ids)
built_behind lists f P Q s [] ids h = tt
built_behind lists f P Q s (r ∷ rs) ids h = (s r ids h.0, built_behind lists f P Q s rs (drop (length (lists r)) ids) h.1)

pub built_rises : {A B : Type 0} (lists : A → List ℕ) (f : A → List ℕ → B) (before : A → A → Bool) (before' : B → B → Bool) → ((x y : A) (i j : List ℕ) → before' (f x i) (f y j) ≡ before x y)
    → (rs : List A) (ids : List ℕ) → Rises before rs → Rises before' (built_each lists f rs ids)
built_rises lists f before before' s [] ids h = tt
built_rises lists f before before' s (r ∷ rs) ids h =
    (built_behind lists f (λ x. before r x ≡ true) (λ e. before' (f r ids) e ≡ true) (λ x i e. s r x ids i ∙ e) rs (drop (length (lists r)) ids) h.0, built_rises lists f before before' s rs (drop (length (lists r)) ids) h.1)

-- ---- a built record gives what the rule's record says

module _ {R : Type 0} (value : ℕ → ℕ → ℤ) (l : RuleList R) (size region : ℕ) where
  beside_gives : (d : ℤ) (b : Option DeviceOrDeltas) (ids : List ℕ) → HoldNumbers value l.deltas ids (delta_list (Some (record { default = d; beside = b })))
      → adjustment l size region (Some (record { default = d; beside = b })) ≡ built_adjustment value size region (built_metric l.devices (Some (record { default = d; beside = b })) ids)
  beside_gives d None ids h = refl
  beside_gives d (Some (device# n)) ids h = refl
  beside_gives d (Some (deltas# n)) [] h = absurd h
  beside_gives d (Some (deltas# n)) (k ∷ ids) h = ap {B = Adjustment} (λ z. record { default = d; device = pos 0; delta = z }) (sym (h.0 region))

  metric_gives : (m : Option (Metric DeviceOrDeltas)) (ids : List ℕ) → HoldNumbers value l.deltas ids (delta_list m) → adjustment l size region m ≡ built_adjustment value size region (built_metric l.devices m ids)
  metric_gives None ids h = refl
  metric_gives (Some m) ids h = beside_gives m.default m.beside ids h

  pub record_gives : (r : ValueRecord DeviceOrDeltas) (ids : List ℕ) → HoldNumbers value l.deltas ids (delta_lists r) → adjustments l size region r ≡ built_adjustments value size region (built_record l.devices r ids)
  record_gives r ids h =
      let xa = delta_list r.x_advance in let ya = delta_list r.y_advance in let xp = delta_list r.x_placement in let yp = delta_list r.y_placement in
      let three = hold_front value l.deltas ids (xa ++ ya ++ xp) yp h in
      let two = hold_front value l.deltas ids (xa ++ ya) xp three in
      let la : length (xa ++ ya) ≡ length xa + length ya = length-append xa ya in
      let lb : length (xa ++ ya ++ xp) ≡ length xa + length ya + length xp = length-append (xa ++ ya) xp ∙ ap (λ n. n + length xp) la in
      let a = metric_gives r.x_advance ids (hold_front value l.deltas ids xa ya two) in
      let b = metric_gives r.y_advance (drop (length xa) ids) (hold_back value l.deltas ids xa ya two) in
      let c = metric_gives r.x_placement (drop (length xa + length ya) ids) (subst (λ n. HoldNumbers value l.deltas (drop n ids) xp) la (hold_back value l.deltas ids (xa ++ ya) xp three)) in
      let d = metric_gives r.y_placement (drop (length xa + length ya + length xp) ids) (subst (λ n. HoldNumbers value l.deltas (drop n ids) yp) lb (hold_back value l.deltas ids (xa ++ ya ++ xp) yp h)) in
      λ i. a i ∷ b i ∷ c i ∷ d i ∷ []
