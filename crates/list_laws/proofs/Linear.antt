-- Total orders: of numbers, rising and falling; of lists, number by number; and of two keys, the first first.
use Rattle.std.proofs.Common.{◌≡◌, ℕ, Bool, true, false, ◌&&◌, ◌||◌, eqb, ltb, List, [], ◌∷◌, sym, refl, ◌∙◌, subst, ap₂, arith}
use Rattle.std.proofs.lemmas.Bool.Decides.{nat_tests}
use Rattle.spec.specs.Lists.{same_list, list_before}
use Rattle.list_laws.proofs.Orders.{Order, false_true}

pub record Linear {K : Type 0} (lt eq : K → K → Bool) : Type 0 where
  pub apart : (x : K) → lt x x ≡ false
  pub total : (x y : K) → lt x y ≡ false → lt y x ≡ false → x ≡ y
  pub trans : (x y z : K) → lt x y ≡ true → lt y z ≡ true → lt x z ≡ true
  pub equal : (x y : K) → eq x y ≡ true → x ≡ y
  pub self : (x : K) → eq x x ≡ true

pub numbers_linear : Linear ltb eqb
numbers_linear = record { apart = λ x. grind (arith, nat_tests); total = λ x y e f. grind (arith, nat_tests); trans = λ x y z e f. grind (arith, nat_tests); equal = λ x y e. grind (arith, nat_tests); self = λ x. grind (arith, nat_tests) }

pub falling_linear : Linear (λ x y. ltb y x) eqb
falling_linear = record { apart = λ x. grind (arith, nat_tests); total = λ x y e f. grind (arith, nat_tests); trans = λ x y z e f. grind (arith, nat_tests); equal = λ x y e. grind (arith, nat_tests); self = λ x. grind (arith, nat_tests) }

-- two keys
abbrev pub lex : {J K : Type 0} → (J → J → Bool) → (J → J → Bool) → (K → K → Bool) → J × K → J × K → Bool
lex lt eq lt' x y = lt x.0 y.0 || (eq x.0 y.0 && lt' x.1 y.1)

pub either : (a b : Bool) → (a || b) ≡ false → (a ≡ false) × (b ≡ false)
either true b e = false_true (sym e)
either false b e = (refl, e)

pub both : (a b : Bool) → (a && b) ≡ true → (a ≡ true) × (b ≡ true)
both true b e = (refl, e)
both false b e = false_true e

module _ {J K : Type 0} {lt eq : J → J → Bool} {lt' eq' : K → K → Bool} (o : Linear lt eq) (o' : Linear lt' eq') where
  lex_apart : (x : J × K) → lex lt eq lt' x x ≡ false
  lex_apart x = rw (o.apart x.0) (rw (o.self x.0) (o'.apart x.1))

  lex_total : (x y : J × K) → lex lt eq lt' x y ≡ false → lex lt eq lt' y x ≡ false → x ≡ y
  lex_total x y e f = let a = either (lt x.0 y.0) _ e in let b = either (lt y.0 x.0) _ f in
      let s = o.total x.0 y.0 a.0 b.0 in
      ap₂ (λ u v. (u, v)) s (o'.total x.1 y.1 (inner x.0 y.0 _ s a.1) (inner y.0 x.0 _ (sym s) b.1))
    where
      inner : (u v : J) (c : Bool) → u ≡ v → (eq u v && c) ≡ false → c ≡ false
      inner u v c s h = rw (subst (λ w. eq u w ≡ true) s (o.self u)) at h

  -- the first keys differ, or are the same and the second differ
  lex_trans : (x y z : J × K) → lex lt eq lt' x y ≡ true → lex lt eq lt' y z ≡ true → lex lt eq lt' x z ≡ true
  lex_trans x y z e f = go (lt x.0 y.0) (lt y.0 z.0) refl refl e f
    where
      less : (u : Bool) → lt x.0 z.0 ≡ true → (lt x.0 z.0 || u) ≡ true
      less u h = rw h refl

      go : (a b : Bool) → lt x.0 y.0 ≡ a → lt y.0 z.0 ≡ b → (a || (eq x.0 y.0 && lt' x.1 y.1)) ≡ true → (b || (eq y.0 z.0 && lt' y.1 z.1)) ≡ true
          → lex lt eq lt' x z ≡ true
      go true true p q h k = less _ (o.trans x.0 y.0 z.0 p q)
      go true false p q h k = let s = o.equal y.0 z.0 (both _ _ k).0 in less _ (subst (λ w. lt x.0 w ≡ true) s p)
      go false true p q h k = let s = o.equal x.0 y.0 (both _ _ h).0 in less _ (subst (λ w. lt w z.0 ≡ true) (sym s) q)
      go false false p q h k = let s = o.equal x.0 y.0 (both _ _ h).0 in let t = o.equal y.0 z.0 (both _ _ k).0 in
          let r = o'.trans x.1 y.1 z.1 (both _ _ h).1 (both _ _ k).1 in
          let st : x.0 ≡ z.0 = s ∙ t in
          let d : lt x.0 z.0 ≡ false = subst (λ w. lt x.0 w ≡ false) st (o.apart x.0) in
          let i : eq x.0 z.0 ≡ true = subst (λ w. eq x.0 w ≡ true) st (o.self x.0) in
          rw d (rw i r)

  abbrev pub both_equal : J × K → J × K → Bool
  both_equal x y = eq x.0 y.0 && eq' x.1 y.1

  lex_equal : (x y : J × K) → both_equal x y ≡ true → x ≡ y
  lex_equal x y e = let b = both (eq x.0 y.0) _ e in ap₂ (λ u v. (u, v)) (o.equal x.0 y.0 b.0) (o'.equal x.1 y.1 b.1)

  lex_self : (x : J × K) → both_equal x x ≡ true
  lex_self x = rw (o.self x.0) (o'.self x.1)

  pub lex_linear : Linear (lex lt eq lt') both_equal
  lex_linear = record { apart = lex_apart; total = lex_total; trans = lex_trans; equal = lex_equal; self = lex_self }

-- ---- lists

lists_apart : (xs : List ℕ) → list_before xs xs ≡ false
lists_apart [] = refl
lists_apart (x ∷ xs) = let a = lists_apart xs in grind (arith, nat_tests)

lists_total : (xs ys : List ℕ) → list_before xs ys ≡ false → list_before ys xs ≡ false → xs ≡ ys
lists_total [] [] e f = refl
lists_total [] (y ∷ ys) e f = false_true (sym e)
lists_total (x ∷ xs) [] e f = false_true (sym f)
lists_total (x ∷ xs) (y ∷ ys) e f = let r = lists_total xs ys in grind (arith, nat_tests)

lists_trans : (xs ys zs : List ℕ) → list_before xs ys ≡ true → list_before ys zs ≡ true → list_before xs zs ≡ true
lists_trans [] [] zs e f = false_true e
lists_trans [] (y ∷ ys) [] e f = false_true f
lists_trans [] (y ∷ ys) (z ∷ zs) e f = refl
lists_trans (x ∷ xs) [] zs e f = false_true e
lists_trans (x ∷ xs) (y ∷ ys) [] e f = false_true f
lists_trans (x ∷ xs) (y ∷ ys) (z ∷ zs) e f = let r = lists_trans xs ys zs in grind (arith, nat_tests)

pub lists_equal : (xs ys : List ℕ) → same_list xs ys ≡ true → xs ≡ ys
lists_equal [] [] e = refl
lists_equal [] (y ∷ ys) e = false_true e
lists_equal (x ∷ xs) [] e = false_true e
lists_equal (x ∷ xs) (y ∷ ys) e = let b = both (eqb x y) _ e in ap₂ (λ u v. u ∷ v) (numbers_linear.equal x y b.0) (lists_equal xs ys b.1)

lists_self : (xs : List ℕ) → same_list xs xs ≡ true
lists_self [] = refl
lists_self (x ∷ xs) = rw (numbers_linear.self x) (lists_self xs)

pub lists_linear : Linear list_before same_list
lists_linear = record { apart = lists_apart; total = lists_total; trans = lists_trans; equal = lists_equal; self = lists_self }

-- ---- an order of elements by their keys

pub by_key : {A K : Type 0} {lt eq : K → K → Bool} → Linear lt eq → (key : A → K) → Order (λ x y. lt (key x) (key y)) key
by_key {lt} o key = record {
  same = λ x y e. subst (λ k. lt (key x) k ≡ false) e (o.apart (key x));
  total = λ x y e f. o.total (key x) (key y) e f;
  trans = λ x y z e f. o.trans (key x) (key y) (key z) e f;
}
