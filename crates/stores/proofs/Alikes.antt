-- Whether lists are alike, tested at the regions that either lists.
use Rattle.std.proofs.Common.{◌≡◌, ℕ, Bool, true, false, ◌&&◌, ◌⊎◌, List, [], ◌∷◌, ◌++◌, pos, Decides, sym, refl, ap, ◌∙◌, subst, inl, inr, arith}
use Rattle.std.proofs.lemmas.Bool.{and_parts, cases_eq}
use Rattle.std.proofs.lemmas.Bool.Decides.{nat_tests}
use Rattle.spec.specs.Lists.{all}
use Rattle.spec.specs.Fields.{same_signed}
use Rattle.spec.specs.Entries as entries
use Rattle.spec.specs.Entries.{delta_at, regions, Alike, is_alike}
use Rattle.stores.proofs.Signs.{signed_equal, signed_same}

pub all_append : {A : Type 0} (p : A → Bool) (xs ys : List A) → all p (xs ++ ys) ≡ (all p xs && all p ys)
all_append p [] ys = refl
all_append p (x ∷ xs) ys = go (p x) (all_append p xs ys)
  where
    go : (t : Bool) → all p (xs ++ ys) ≡ (all p xs && all p ys) → (t && all p (xs ++ ys)) ≡ (t && all p xs && all p ys)
    go true e = e
    go false e = refl

module _ (xs ys : List entries.Delta) where
  abbrev same : ℕ → Bool
  same k = same_signed (delta_at xs k) (delta_at ys k)

  -- tested at the regions of the one, then of the other
  pub both_tested : (t : Bool) → true ≡ all same (regions xs) → t ≡ all same (regions ys) → t ≡ is_alike xs ys
  both_tested t a b = b ∙ ap (λ u. u && all same (regions ys)) a ∙ sym (all_append same (regions xs) (regions ys))

  pub one_tested : false ≡ all same (regions xs) → false ≡ is_alike xs ys
  one_tested a = ap (λ u. u && all same (regions ys)) a ∙ sym (all_append same (regions xs) (regions ys))

-- ---- the test tells whether the lists are alike

-- a region that a list does not list has delta 0
listed : (p : ℕ → Bool) (ds : List entries.Delta) (r : ℕ) → all p (regions ds) ≡ true → (p r ≡ true) ⊎ (delta_at ds r ≡ pos 0)
listed p [] r h = inr refl
listed p (d ∷ ds) r h =
    let b = and_parts (p d.region) (all p (regions ds)) h in
    elim (cases_eq d.region r) [
      | inl e ↦ inl (subst (λ n. p n ≡ true) e b.0)
      | inr n ↦ elim (listed p ds r b.1) [ inl q ↦ inl q | inr z ↦ inr (past n z) ]
    ]
  where
    past : (d.region ≡ r → ⊥) → delta_at ds r ≡ pos 0 → delta_at (d ∷ ds) r ≡ pos 0
    past n z = grind (arith, nat_tests)

pub is_alike_true : (xs ys : List entries.Delta) → is_alike xs ys ≡ true → Alike xs ys
is_alike_true xs ys h r =
    let p = λ (k : ℕ). same_signed (delta_at xs k) (delta_at ys k) in
    let b = and_parts (all p (regions xs)) (all p (regions ys)) (sym (all_append p (regions xs) (regions ys)) ∙ h) in
    elim (listed p xs r b.0) [
      | inl q ↦ signed_same (delta_at xs r) (delta_at ys r) q
      | inr y ↦ elim (listed p ys r b.1) [ inl q ↦ signed_same (delta_at xs r) (delta_at ys r) q | inr z ↦ y ∙ sym z ]
    ]

everywhere : (p : ℕ → Bool) (ks : List ℕ) → ((k : ℕ) → p k ≡ true) → all p ks ≡ true
everywhere p [] h = refl
everywhere p (k ∷ ks) h = ap (λ t. t && all p ks) (h k) ∙ everywhere p ks h

pub alike_is : (xs ys : List entries.Delta) → Alike xs ys → is_alike xs ys ≡ true
alike_is xs ys h = everywhere (λ k. same_signed (delta_at xs k) (delta_at ys k)) (regions xs ++ regions ys) (λ k. signed_equal (delta_at xs k) (delta_at ys k) (h k))

pub is_alike_decides : (xs ys : List entries.Delta) (t : Bool) → t ≡ is_alike xs ys → Decides t (Alike xs ys)
is_alike_decides xs ys t e = (λ h. is_alike_true xs ys (sym e ∙ h), λ h. e ∙ alike_is xs ys h)
