-- The number of an entry, and the entries with one more.
use Rattle.std.proofs.Common.{◌≡◌, ℕ, suc, ◌+◌, ◌<◌, ◌≤◌, Bool, true, false, not, ◌&&◌, ◌||◌, ltb, leb, List, [], ◌∷◌, ◌++◌, length, sym, refl, ap, ◌∙◌, true≢false, arith, le-ltb}
use Rattle.std.proofs.lemmas.List.{length_push}
use Rattle.std.proofs.lemmas.Bool.Decides.{nat_tests}
use Rattle.spec.specs.Lists.{any, sum_of}
use Rattle.spec.specs.Rules.{interned, number_in, overfull}

module _ {A : Type 0} (eq : A → A → Bool) (x : A) where
  number_hit : (y : A) (ys : List A) → eq y x ≡ true → number_in eq (y ∷ ys) x ≡ 0
  number_hit y ys h = ap (λ b. elim b [ true ↦ 0 | false ↦ suc (number_in eq ys x) ]) h

  number_miss : (y : A) (ys : List A) → eq y x ≡ false → number_in eq (y ∷ ys) x ≡ suc (number_in eq ys x)
  number_miss y ys h = ap (λ b. elim b [ true ↦ 0 | false ↦ suc (number_in eq ys x) ]) h

  any_of : (y : A) (ys : List A) (b : Bool) → eq y x ≡ b → any (λ z. eq z x) (y ∷ ys) ≡ (b || any (λ z. eq z x) ys)
  any_of y ys b h = ap (λ t. t || any (λ z. eq z x) ys) h

  -- a number below the length says that the entry is there, and no other does
  old_by : (y : A) (ys : List A) → (number_in eq ys x < length ys → any (λ z. eq z x) ys ≡ true) → number_in eq (y ∷ ys) x < suc (length ys) → (b : Bool) → eq y x ≡ b → any (λ z. eq z x) (y ∷ ys) ≡ true
  old_by y ys r l true h = any_of y ys true h
  old_by y ys r l false h = let e : number_in eq (y ∷ ys) x ≡ suc (number_in eq ys x) = number_miss y ys h in any_of y ys false h ∙ r (omega arith)

  pub any_old : (ys : List A) → number_in eq ys x < length ys → any (λ y. eq y x) ys ≡ true
  any_old [] l = absurd (let z : ⊥ = omega arith in z)
  any_old (y ∷ ys) l = old_by y ys (any_old ys) l (eq y x) refl

  new_by : (y : A) (ys : List A) → (length ys ≤ number_in eq ys x → any (λ z. eq z x) ys ≡ false) → suc (length ys) ≤ number_in eq (y ∷ ys) x → (b : Bool) → eq y x ≡ b → any (λ z. eq z x) (y ∷ ys) ≡ false
  new_by y ys r l true h = let e : number_in eq (y ∷ ys) x ≡ 0 = number_hit y ys h in absurd (let z : ⊥ = omega arith in z)
  new_by y ys r l false h = let e : number_in eq (y ∷ ys) x ≡ suc (number_in eq ys x) = number_miss y ys h in any_of y ys false h ∙ r (omega arith)

  pub any_new : (ys : List A) → length ys ≤ number_in eq ys x → any (λ y. eq y x) ys ≡ false
  any_new [] l = refl
  any_new (y ∷ ys) l = new_by y ys (any_new ys) l (eq y x) refl

  -- a new entry has the next number
  push_by : (y : A) (ys : List A) → (any (λ z. eq z x) ys ≡ false → number_in eq (ys ++ x ∷ []) x ≡ length ys) → any (λ z. eq z x) (y ∷ ys) ≡ false → (b : Bool) → eq y x ≡ b → number_in eq (y ∷ (ys ++ x ∷ [])) x ≡ suc (length ys)
  push_by y ys r h true e = absurd (true≢false (sym (any_of y ys true e) ∙ h))
  push_by y ys r h false e = number_miss y (ys ++ x ∷ []) e ∙ ap suc (r (sym (any_of y ys false e) ∙ h))

  pub number_push : eq x x ≡ true → (ys : List A) → any (λ y. eq y x) ys ≡ false → number_in eq (ys ++ x ∷ []) x ≡ length ys
  number_push s [] h = number_hit x [] s
  number_push s (y ∷ ys) h = push_by y ys (number_push s ys) h (eq y x) refl

  pub interned_old : (ys : List A) → any (λ y. eq y x) ys ≡ true → interned eq ys x ≡ ys
  interned_old ys h = ap (λ b. elim b [ true ↦ ys | false ↦ ys ++ (x ∷ []) ]) h

  pub interned_new : (ys : List A) → any (λ y. eq y x) ys ≡ false → interned eq ys x ≡ ys ++ x ∷ []
  interned_new ys h = ap (λ b. elim b [ true ↦ ys | false ↦ ys ++ (x ∷ []) ]) h

-- ---- places
pub sum_push : {A : Type 0} (f : A → ℕ) (ys : List A) (x : A) → sum_of f (ys ++ x ∷ []) ≡ sum_of f ys + f x
sum_push f [] x = omega arith
sum_push f (y ∷ ys) x = let r = sum_push f ys x in omega arith

module _ {A B : Type 0} (places room : ℕ) (f : A → List B) where
  pub overfull_old : (ys : List A) → length ys ≤ places → sum_of (λ y. length (f y)) ys ≤ room → overfull places room f ys ≡ false
  overfull_old ys h k = (λ i. le-ltb places (length ys) h i || le-ltb room (sum_of (λ y. length (f y)) ys) k i)

  pub overfull_push : (ys : List A) (x : A) → overfull places room f (ys ++ x ∷ []) ≡ not (ltb (length ys) places && leb (sum_of (λ y. length (f y)) ys + length (f x)) room)
  overfull_push ys x =
      let n : length (ys ++ x ∷ []) ≡ length ys + 1 = length_push ys x in
      let s : sum_of (λ y. length (f y)) (ys ++ x ∷ []) ≡ sum_of (λ y. length (f y)) ys + length (f x) = sum_push (λ y. length (f y)) ys x in
      ap (λ m. ltb places m || ltb room (sum_of (λ y. length (f y)) (ys ++ x ∷ []))) n
      ∙ ap (λ m. ltb places (length ys + 1) || ltb room m) s
      ∙ tested (length ys) (sum_of (λ y. length (f y)) ys + length (f x))
    where
      tested : (m n : ℕ) → (ltb places (m + 1) || ltb room n) ≡ not (ltb m places && leb n room)
      tested m n = grind (arith, nat_tests)
