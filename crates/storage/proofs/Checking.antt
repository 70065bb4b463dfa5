-- An interner's entries, seen as the definitions have them.
use Rattle.std.proofs.Common.{◌≡◌, ℕ, suc, ◌+◌, Bool, true, false, ◌&&◌, ◌||◌, nat_eq, ltb, List, [], ◌∷◌, ◌++◌, map, length, ℤ, pos, negsuc, arith, Some, None, Option, Result, sym, refl, ap, ◌∙◌}
use lib.ListN.{length-map}
use Rattle.std.proofs.lemmas.List.{map_push}
use Rattle.std.proofs.lemmas.Bool.Decides.{nat_tests}
use Rattle.std.specs.Cmp.Lexicographic.{pointwise}
use Rattle.std.specs.Ordering.{int_eq}
use Rattle.spec.specs.Denials.{Word, Part, Denial, Answer, arises, when, at_place, prevailing}
use Rattle.spec.specs.Entries.{set_fault, device_fault, deltas_fault, same_device, same_values, same_deltas}
use Rattle.spec.specs.Fields.{same_signed}
use Rattle.spec.specs.Lists.{any, sum_of, same_list}
use Rattle.spec.specs.Rules.{interned, number_in, overfull}
use Rattle.storage.specs.declared.delta.Delta as code_delta
use Rattle.denials.specs.declared.denial.Denial as code_denial
use Rattle.denials.specs.Answers.{denied_or, left_by}
use Rattle.storage.specs.Deltas.{delta_of}
use Rattle.denials.specs.Denials.{part_of}
use Rattle.storage.specs.Entries.{Checked, entry_denial, set_in, device_in, deltas_in, SetEntered, DeviceEntered, DeltasEntered}
use Rattle.storage.specs.Interners.{Interned, same_entry, full_denial, Entered}

module _ {T H A B : Type 0} (part : Part) (as_defined : H × List T → A) (same : A → A → Bool) (list : A → List B) where
  -- ---- entries seen through `as_defined`
  module _ (same₀ : H × List T → H × List T → Bool) (x : H × List T) (alike : (y : H × List T) → same (as_defined y) (as_defined x) ≡ same₀ y x) (long : (y : H × List T) → length (list (as_defined y)) ≡ length y.1) where
    any_map : (ys : List (H × List T)) → any (λ z. same z (as_defined x)) (map as_defined ys) ≡ any (λ y. same₀ y x) ys
    any_map [] = refl
    any_map (y ∷ ys) = (λ i. alike y i || any_map ys i)

    number_map : (ys : List (H × List T)) → number_in same (map as_defined ys) (as_defined x) ≡ number_in same₀ ys x
    number_map [] = refl
    number_map (y ∷ ys) =
        ap (λ b. elim b [ true ↦ 0 | false ↦ suc (number_in same (map as_defined ys) (as_defined x)) ]) (alike y)
        ∙ ap (λ n. elim (same₀ y x) [ true ↦ 0 | false ↦ suc n ]) (number_map ys)

    interned_by : (ys : List (H × List T)) (b : Bool) → elim b [ true ↦ map as_defined ys | false ↦ map as_defined ys ++ (as_defined x ∷ []) ] ≡ map as_defined (elim b [ true ↦ ys | false ↦ ys ++ (x ∷ []) ])
    interned_by ys true = refl
    interned_by ys false = sym (map_push as_defined ys x)

    interned_map : (ys : List (H × List T)) → interned same (map as_defined ys) (as_defined x) ≡ map as_defined (interned same₀ ys x)
    interned_map ys =
        ap (λ b. elim b [ true ↦ map as_defined ys | false ↦ map as_defined ys ++ (as_defined x ∷ []) ]) (any_map ys) ∙ interned_by ys (any (λ y. same₀ y x) ys)

    sum_map : (ys : List (H × List T)) → sum_of (λ z. length (list z)) (map as_defined ys) ≡ sum_of (λ y. length y.1) ys
    sum_map [] = refl
    sum_map (y ∷ ys) = (λ i. long y i + sum_map ys i)

    overfull_map : (p r : ℕ) (ys : List (H × List T)) → overfull p r list (map as_defined ys) ≡ overfull p r (λ e. e.1) ys
    overfull_map p r ys = (λ i. ltb p (length-map ys as_defined i) || ltb r (sum_map ys i))

    left_map : (o : Option Denial) (before after : List (H × List T)) → map as_defined (left_by o before after) ≡ left_by o (map as_defined before) (map as_defined after)
    left_map None before after = refl
    left_map (Some d) before after = refl

    same_denial : (fault : Option Denial) (d : Interned T H) → fault ≡ None → part_of d.part ≡ part → entry_denial part as_defined same list fault d (as_defined x) ≡ full_denial same₀ d x
    same_denial fault d none q =
        ap (λ o. prevailing o (when (overfull d.places d.room list (interned same (map as_defined d.contents) (as_defined x))) (arises Word.full 0 part))) none
        ∙ ap (λ ys. when (overfull d.places d.room list ys) (arises Word.full 0 part)) (interned_map d.contents)
        ∙ (λ i. when (overfull_map d.places d.room (interned same₀ d.contents x) i) (arises Word.full 0 (sym q i)))

    -- what entering an entry with no fault answers and leaves
    pub checked : (fault : Option Denial) (d e : Interned T H) (r : Result ℕ code_denial.Denial) → fault ≡ None → Entered same₀ d e x r → Checked part as_defined same list fault d e (as_defined x) r
    checked fault d e r none en =
        let ys = interned_map d.contents in
        let n : number_in same (interned same (map as_defined d.contents) (as_defined x)) (as_defined x) ≡ number_in same₀ (interned same₀ d.contents x) x =
        ap (λ zs. number_in same zs (as_defined x)) ys ∙ number_map (interned same₀ d.contents x) in
        record {
          answer = λ k. en.answer ∙ sym (λ i. denied_or (same_denial fault d none k i) (Answer.entered (n i)));
          after = λ k. ap (map as_defined) en.after ∙ left_map (full_denial same₀ d x) d.contents (interned same₀ d.contents x)
              ∙ sym (λ i. left_by (same_denial fault d none k i) (map as_defined d.contents) (ys i));
          same_part = en.same_part;
          same_places = en.same_places;
          same_room = en.same_room;
        }

-- ---- the tests of the definitions are those of the code
pub set_alike : (xs ys : List ℕ) → same_list xs ys ≡ pointwise nat_eq xs ys
set_alike [] [] = refl
set_alike [] (y ∷ ys) = refl
set_alike (x ∷ xs) [] = refl
set_alike (x ∷ xs) (y ∷ ys) = ap (λ b. nat_eq x y && b) (set_alike xs ys)

pub signs_alike : (x y : ℤ) → same_signed x y ≡ int_eq x y
signs_alike (pos m) (pos n) = grind (arith, nat_tests)
signs_alike (pos m) (negsuc n) = refl
signs_alike (negsuc m) (pos n) = refl
signs_alike (negsuc m) (negsuc n) = grind (arith, nat_tests)

pub values_alike : (xs ys : List ℤ) → same_values xs ys ≡ pointwise int_eq xs ys
values_alike [] [] = refl
values_alike [] (y ∷ ys) = refl
values_alike (x ∷ xs) [] = refl
values_alike (x ∷ xs) (y ∷ ys) = (λ i. signs_alike x y i && values_alike xs ys i)

and_assoc : (a b c : Bool) → (a && b && c) ≡ ((a && b) && c)
and_assoc true b c = refl
and_assoc false b c = refl

abbrev same_delta : code_delta.Delta → code_delta.Delta → Bool
same_delta x y = nat_eq x.region y.region && int_eq x.delta y.delta

pub deltas_alike : (xs ys : List code_delta.Delta) → same_deltas (map delta_of xs) (map delta_of ys) ≡ pointwise same_delta xs ys
deltas_alike [] [] = refl
deltas_alike [] (y ∷ ys) = refl
deltas_alike (x ∷ xs) [] = refl
deltas_alike (x ∷ xs) (y ∷ ys) =
    and_assoc (nat_eq x.region y.region) (same_signed x.delta y.delta) (same_deltas (map delta_of xs) (map delta_of ys))
    ∙ (λ i. (nat_eq x.region y.region && signs_alike x.delta y.delta i) && deltas_alike xs ys i)

-- ---- entries with no fault
pub set_checked : (d e : Interned ℕ (Unit {0})) (gs : List ℕ) (r : Result ℕ code_denial.Denial) → None ≡ set_fault gs → Entered (same_entry (λ _ _. true) nat_eq) d e (tt, gs) r → SetEntered d e gs r
set_checked d e gs r h en =
    checked Part.sets set_in same_list (λ s. s) (same_entry (λ _ _. true) nat_eq) (tt, gs) (λ y. set_alike y.1 gs) (λ y. refl)
    (at_place Word.bad_set Part.sets (set_fault gs)) d e r (ap (at_place Word.bad_set Part.sets) (sym h)) en

pub device_checked : (d e : Interned ℤ ℕ) (start end : ℕ) (vs : List ℤ) (r : Result ℕ code_denial.Denial) → None ≡ device_fault start end (length vs) → Entered (same_entry nat_eq int_eq) d e (start, vs) r → DeviceEntered d e start end vs r
device_checked d e start end vs r h en =
    checked Part.devices device_in same_device (λ x. x.values) (same_entry nat_eq int_eq) (start, vs) (λ y. ap (λ b. nat_eq y.0 start && b) (values_alike y.1 vs)) (λ y. refl)
    (at_place Word.bad_device Part.devices (device_fault start end (length vs))) d e r (ap (at_place Word.bad_device Part.devices) (sym h)) en

pub deltas_checked : (d e : Interned code_delta.Delta (Unit {0})) (ds : List code_delta.Delta) (r : Result ℕ code_denial.Denial) → None ≡ deltas_fault (map delta_of ds) → Entered (same_entry (λ _ _. true) same_delta) d e (tt, ds) r → DeltasEntered d e ds r
deltas_checked d e ds r h en =
    checked Part.deltas deltas_in same_deltas (λ x. x) (same_entry (λ _ _. true) same_delta) (tt, ds) (λ y. deltas_alike y.1 ds) (λ y. length-map y.1 delta_of)
    (at_place Word.bad_deltas Part.deltas (deltas_fault (map delta_of ds))) d e r (ap (at_place Word.bad_deltas Part.deltas) (sym h)) en
