-- Accepted calls keep rule lists good: so every run makes a good one.
use Rattle.std.proofs.Common.{◌≡◌, ℕ, ◌+◌, ◌≤◌, Bool, true, false, leb, List, [], ◌∷◌, ◌++◌, map, length, ℤ, Some, None, Option, sym, refl, ◌∙◌, subst, arith}
use Rattle.std.proofs.lemmas.Bool.Decides.{nat_tests}
use Rattle.spec.specs.Lists.{Every, any, or_else, place_of, concat, same_list}
use Rattle.spec.specs.Denials.{Word, Part, Denial, Answer, denied, at_place, passed_up, prevailing, is_denied}
use Rattle.spec.specs.Entries.{Device, set_fault, device_fault, same_device, same_deltas}
use Rattle.spec.specs.Values.{Metric, DeviceOrDeltas, device#, deltas#, build_order}
use Rattle.spec.specs.Rules.{Call, enter_set, enter_device, enter_deltas, insert, break, build, RuleList, RuleKind, Capacity, interned, sections, opened, after, after_all, unknown, unknown_place, denial, accepted, answer}
use Rattle.spec.specs.Stores.{Store}
use Rattle.spec.specs.Runs.{Kind, Run, ends, builds, goes, Does}
use Rattle.list_laws.proofs.Orders.{every_map, false_true}
use Rattle.list_laws.proofs.Within.{every_append}
use Rattle.list_laws.proofs.Members.{some_none}
use Rattle.laws.specs.Conditions.{FitsDevice}
use Rattle.laws.specs.Made.{FitsCall, FitsRule, Made}

-- ---- no denial, no fault

none_of : (o : Option Denial) → passed_up o ≡ None → o ≡ None
none_of None e = refl
none_of (Some d) e = some_none e

first_none : (a b : Option Denial) → prevailing a b ≡ None → a ≡ None
first_none None b e = refl
first_none (Some d) None e = some_none e
first_none (Some d) (Some f) e = go _ e
  where
    go : (b : Bool) → ◌≡◌ {A = Option Denial} (elim b [ true ↦ Some d | false ↦ Some f ]) None → ◌≡◌ {A = Option Denial} (Some d) None
    go true e = e
    go false e = some_none e

no_place : (w : Word) (p : Part) (o : Option ℕ) → at_place w p o ≡ None → o ≡ None
no_place w p None e = refl
no_place w p (Some k) e = some_none e

good_device : (start end : ℕ) (vs : List ℤ) → device_fault start end (length vs) ≡ None → 1 ≤ length vs
good_device start end vs e = grind (arith, nat_tests)

-- ---- interning keeps what is there, and adds at most the list

every_interned : {A : Type 0} (P : A → Type 0) (eq : A → A → Bool) (xs : List A) (x : A) → Every P xs → P x → Every P (interned eq xs x)
every_interned P eq xs x h k = go (any (λ y. eq y x) xs)
  where
    go : (b : Bool) → Every P (elim b [ true ↦ xs | false ↦ xs ++ (x ∷ []) ])
    go true = h
    go false = every_append P xs (x ∷ []) h (k, tt)

grows : {A : Type 0} (eq : A → A → Bool) (xs : List A) (x : A) → length xs ≤ length (interned eq xs x)
grows {A} eq xs x = go (any (λ y. eq y x) xs)
  where
    longer : {A : Type 0} (xs ys : List A) → length xs ≤ length (xs ++ ys)
    longer [] ys = omega arith
    longer (x ∷ xs) ys = let r = longer xs ys in omega arith

    go : (b : Bool) → length xs ≤ length {A = A} (elim b [ true ↦ xs | false ↦ xs ++ (x ∷ []) ])
    go true = omega arith
    go false = longer xs (x ∷ [])

-- ---- what is known stays known

-- a rule list that has at least as many entries of each sort
abbrev More : {R : Type 0} → RuleList R → RuleList R → Type 0
More l m = (length l.sets ≤ length m.sets) × (length l.devices ≤ length m.devices) × (length l.deltas ≤ length m.deltas)

known_beside : {R : Type 0} (l m : RuleList R) → More l m → (d : ℤ) (b : Option DeviceOrDeltas) → unknown l (Some (record { default = d; beside = b })) ≡ false → unknown m (Some (record { default = d; beside = b })) ≡ false
known_beside l m w d None e = refl
known_beside l m w d (Some (device# n)) e = grind (arith, nat_tests, w.1)
known_beside l m w d (Some (deltas# n)) e = grind (arith, nat_tests, w.2)

known_metric : {R : Type 0} (l m : RuleList R) → More l m → (o : Option (Metric DeviceOrDeltas)) → unknown l o ≡ false → unknown m o ≡ false
known_metric l m w None e = refl
known_metric l m w (Some x) e = known_beside l m w x.default x.beside e

-- no place where a weaker test passes
pub none_place : {A : Type 0} (p q : A → Bool) → ((x : A) → p x ≡ false → q x ≡ false) → (i : ℕ) (xs : List A) → place_of p i xs ≡ None → place_of q i xs ≡ None
none_place p q f i [] e = refl
none_place {A} p q f i (x ∷ xs) e = go (p x) (q x) refl refl e (λ h. none_place p q f (i + 1) xs h)
  where
    go : (b c : Bool) → p x ≡ b → q x ≡ c → ◌≡◌ {A = Option ℕ} (elim b [ true ↦ Some i | false ↦ place_of p (i + 1) xs ]) None → (place_of p (i + 1) xs ≡ None → place_of q (i + 1) xs ≡ None)
        → ◌≡◌ {A = Option ℕ} (elim c [ true ↦ Some i | false ↦ place_of q (i + 1) xs ]) None
    go true c u v e r = some_none e
    go false true u v e r = false_true (sym (f x u) ∙ v)
    go false false u v e r = r e

pub neither : {A : Type 0} (a b : Option A) → or_else a b ≡ None → (a ≡ None) × (b ≡ None)
neither None b e = (refl, e)
neither (Some x) b e = some_none e

both_none : {A : Type 0} (a b : Option A) → a ≡ None → b ≡ None → or_else a b ≡ None
both_none None b e f = f
both_none (Some x) b e f = some_none e

module _ {R : Type 0} (kind : RuleKind R) where
  rule_stays : (l m : RuleList R) → More l m → (r : R) → FitsRule kind l r → FitsRule kind m r
  rule_stays l m w r h =
      let n = neither (place_of (unknown l) 0 (concat (map build_order (kind.values r)))) (place_of (leb (length l.sets)) 8 (kind.set_numbers r)) h.0 in (
        both_none (place_of (unknown m) 0 (concat (map build_order (kind.values r)))) (place_of (leb (length m.sets)) 8 (kind.set_numbers r))
            (none_place (unknown l) (unknown m) (known_metric l m w) 0 (concat (map build_order (kind.values r))) n.0)
            (none_place (leb (length l.sets)) (leb (length m.sets)) (λ k e. further k e) 8 (kind.set_numbers r) n.1),
        h.1,
      )
    where
      further : (k : ℕ) → leb (length l.sets) k ≡ false → leb (length m.sets) k ≡ false
      further k e = grind (arith, nat_tests, w.0)

  rules_stay : (l m : RuleList R) → More l m → (ss : List (List R)) → Every (Every (FitsRule kind l)) ss → Every (Every (FitsRule kind m)) ss
  rules_stay l m w ss h = every_map (λ rs k. every_map (λ r. rule_stays l m w r) rs k) ss h

  -- the rules of the sections: of the earlier ones, and of the latest
  every_last : {A : Type 0} (P : A → Type 0) (xs : List A) (x : A) → Every P (xs ++ (x ∷ [])) → Every P xs × P x
  every_last P [] x h = (tt, h.0)
  every_last P (y ∷ xs) x h = let r = every_last P xs x h.1 in ((h.0, r.0), r.1)

  -- AN ACCEPTED CALL KEEPS A RULE LIST GOOD
  pub keeps_made : (capacity : Capacity) (l : RuleList R) (c : Call R) → Made kind l → FitsCall kind c → denial kind capacity l c ≡ None → Made kind (after l c)
  keeps_made capacity l (enter_set gs) w f e =
      let good = no_place Word.bad_set Part.sets (set_fault gs) (first_none (at_place Word.bad_set Part.sets (set_fault gs)) _ (none_of _ e)) in
      record { sets = every_interned (λ s. set_fault s ≡ None) same_list l.sets gs w.sets good; devices = w.devices; rules = rules_stay l (after l (enter_set gs)) (grows same_list l.sets gs, omega arith, omega arith) (sections l) w.rules }
  keeps_made capacity l (enter_device start end vs) w f e =
      let d : Device = record { first_size = start; values = vs } in
      let good = no_place Word.bad_device Part.devices (device_fault start end (length vs)) (first_none (at_place Word.bad_device Part.devices (device_fault start end (length vs))) _ (none_of _ e)) in
      record { sets = w.sets; devices = every_interned FitsDevice same_device l.devices d w.devices (good_device start end vs good, f); rules = rules_stay l (after l (enter_device start end vs)) (omega arith, grows same_device l.devices d, omega arith) (sections l) w.rules }
  keeps_made capacity l (enter_deltas ds) w f e =
      record { sets = w.sets; devices = w.devices; rules = rules_stay l (after l (enter_deltas ds)) (omega arith, omega arith, grows same_deltas l.deltas ds) (sections l) w.rules }
  keeps_made capacity l (insert r) w f e =
      let good = no_place Word.unknown_entry Part.lookup (unknown_place kind l r) (first_none (at_place Word.unknown_entry Part.lookup (unknown_place kind l r)) _ e) in
      let old = every_last (Every (FitsRule kind l)) l.earlier l.latest w.rules in
      record { sets = w.sets; devices = w.devices; rules = every_append (Every (FitsRule kind (after l (insert r)))) l.earlier ((l.latest ++ (r ∷ [])) ∷ []) old.0 (every_append (FitsRule kind l) l.latest (r ∷ []) old.1 ((good, f), tt), tt) }
  keeps_made capacity l break w f e =
      record { sets = w.sets; devices = w.devices; rules = every_append (Every (FitsRule kind l)) (sections l) ([] ∷ []) w.rules (tt, tt) }
  keeps_made capacity l build w f e = w

  -- by the answer that the rules give
  pub answered : (capacity : Capacity) (l : RuleList R) (c : Call R) (a : Answer) → Made kind l → FitsCall kind c → a ≡ answer kind capacity l c → Made kind (after_all l (c ∷ []) (a ∷ []))
  answered capacity l c a w f e = subst (λ z. Made kind (after_all l (c ∷ []) (z ∷ []))) (sym e) (go (denial kind capacity l c) refl)
    where
      plain : is_denied (accepted kind capacity l c) ≡ false → Made kind (after l c) → Made kind (after_all l (c ∷ []) (accepted kind capacity l c ∷ []))
      plain e h = subst (λ b. Made kind (elim b [ true ↦ l | false ↦ after l c ])) (sym e) h

      accepts : (c : Call R) → is_denied (accepted kind capacity l c) ≡ false
      accepts (enter_set gs) = refl
      accepts (enter_device x y vs) = refl
      accepts (enter_deltas ds) = refl
      accepts (insert r) = refl
      accepts break = refl
      accepts build = refl

      go : (o : Option Denial) → denial kind capacity l c ≡ o → Made kind (after_all l (c ∷ []) (elim o [ None ↦ accepted kind capacity l c | Some d ↦ denied d ] ∷ []))
      go None h = plain (accepts c) (keeps_made capacity l c w f h)
      go (Some d) h = w

pub opened_made : {R : Type 0} (kind : RuleKind R) → Made kind opened
opened_made kind = record { sets = tt; devices = tt; rules = (tt, tt) }

module _ {R Q O A B S : Type 0} (kind : Kind R Q O A B) (m : Store S) (capacity : Capacity) where
  does_made : (l : RuleList R) (s u : S) (c : Call R) (a : Answer) → Made kind.rules l → FitsCall kind.rules c → Does kind m capacity l s u c a → Made kind.rules (after_all l (c ∷ []) (a ∷ []))
  does_made l s u (enter_set gs) a w f d = answered kind.rules capacity l (enter_set gs) a w f d.0
  does_made l s u (enter_device x y vs) a w f d = answered kind.rules capacity l (enter_device x y vs) a w f d.0
  does_made l s u (enter_deltas ds) a w f d = answered kind.rules capacity l (enter_deltas ds) a w f d.0
  does_made l s u (insert r) a w f d = answered kind.rules capacity l (insert r) a w f d.0
  does_made l s u break a w f d = answered kind.rules capacity l break a w f d.0
  does_made l s u build a w f d = subst (λ z. Made kind.rules (after_all l (build ∷ []) (z ∷ []))) (sym d.1) w

  -- EVERY RUN MAKES A GOOD RULE LIST, from a good one
  pub run_makes : {l l' : RuleList R} {s t : S} {cs : List (Call R)} {ans : List Answer} {us : List S} {got : Option (List ℕ)} → Made kind.rules l → Every (FitsCall kind.rules) cs → Run kind m capacity l s cs ans l' t us got → Made kind.rules l'
  run_makes w f ends = w
  run_makes w f (builds b) = w
  run_makes {l} {s} w f (goes {u = u} {c = c} {a = a} d r) = run_makes (does_made l s u c a w f.0 d) f.1 r
