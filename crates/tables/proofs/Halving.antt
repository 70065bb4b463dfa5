-- A search that halves what is left of pairs whose keys rise, and ends at a key that it meets.
use Rattle.std.proofs.Common.{◌≡◌, ℕ, zero, suc, ◌+◌, ◌<◌, ◌≤◌, Bool, true, false, ltb, List, [], ◌∷◌, length, get_or, Some, None, Ok, Err, Ordering, Less, Equal, Greater, sym, refl, ap, ◌∙◌, true≢false, arith}
use Rattle.std.specs.Cmp.{IsTotalOrder}
use Rattle.std.specs.Option.{is_some, unwrap_or}
use Rattle.std.specs.Ordering.{ordering_reverse}
use Rattle.std.proofs.lemmas.Bool.{ltb-true, ltb-false}
use Rattle.spec.specs.Lists.{at}
use Rattle.tables.specs.Tables.{rises, Past, Ahead, Placed}
use Rattle.tables.proofs.KeyOrder.{rises_less, past_same}

-- k is above the keys before `low`, and below those from `high` on
pub record Between {K V : Type 0} (c : K → K → Ordering) (ps : List (K × V)) (k : K) (low high : ℕ) : Type 0 where
  pub rising : rises c ps ≡ true
  pub order : low ≤ high
  pub within : high ≤ length ps
  pub past : Past c ps k low
  pub ahead : Ahead c ps k high

-- what was read at a place stands there, and below the length something is read
standing : {A : Type 0} (xs : List A) (m : ℕ) (x : A) → at xs m ≡ Some x → (m < length xs) × ((d : A) → get_or xs m d ≡ x)
standing [] m x e = absurd (true≢false (sym (ap is_some e)))
standing (y ∷ xs) zero x e = (omega arith, λ d. ap (λ o. unwrap_or o x) e)
standing (y ∷ xs) (suc m) x e = let s = standing xs m x e in (omega (arith, s.0), s.1)

there : {A B : Type 0} (xs : List A) (m : ℕ) → m < length xs → at xs m ≡ None → B
there [] m l e = absurd (let z : ⊥ = omega arith in z)
there (y ∷ xs) zero l e = absurd (true≢false (ap is_some e))
there (y ∷ xs) (suc m) l e = there xs m (omega arith) e

module _ {K V : Type 0} {c : K → K → Ordering} {ps : List (K × V)} {k : K} {low high : ℕ} where
  pub never : {A : Type 0} → Between c ps k low high → (m : ℕ) → m < high → at ps m ≡ None → A
  never b m l e = there ps m (omega (arith, b.within)) e

  pub ends : Between c ps k low high → high ≤ low → Placed c ps k (Err low)
  ends b h =
      let e : high ≡ low = omega (arith, b.order) in
      (omega (arith, b.within), b.past, λ j d l m. b.ahead j d (omega arith) m)

  module _ (o : IsTotalOrder c) (b : Between c ps k low high) (m : ℕ) (p : K × V) (s : at ps m ≡ Some p) where
    here : (r : Ordering) → c k p.0 ≡ r → (d : K × V) → c k (get_or ps m d).0 ≡ r
    here r e d = ap (λ q. c k q.0) ((standing ps m p s).1 d) ∙ e

    pub meets : c k p.0 ≡ Equal → Placed c ps k (Ok m)
    meets e = let l = (standing ps m p s).0 in (l, past_same c o ps k m b.rising l (here Equal e), here Equal e)

    pub above : low ≤ m → m < high → c k p.0 ≡ Greater → Between c ps k (m + 1) high
    above l h e = record { rising = b.rising; order = omega arith; within = b.within; past = λ j d t. go j d t (ltb j m) refl; ahead = b.ahead }
      where
        go : (j : ℕ) (d : K × V) → j < m + 1 → (t : Bool) → ltb j m ≡ t → c k (get_or ps j d).0 ≡ Greater
        go j d t true q =
            let less = rises_less c ps b.rising j m d (ltb-true j m q) (standing ps m p s).0 in
            let under : c (get_or ps m d).0 k ≡ Less = o.antisymm _ k ∙ ap ordering_reverse (here Greater e d) in
            o.antisymm k _ ∙ ap ordering_reverse (o.trans _ _ k less under)
        go j d t false q = let n : j ≡ m = omega (arith, ltb-false j m q) in ap (λ i. c k (get_or ps i d).0) n ∙ here Greater e d

    pub below : low ≤ m → c k p.0 ≡ Less → Between c ps k low m
    below l e = record { rising = b.rising; order = l; within = omega (arith, (standing ps m p s).0); past = b.past; ahead = λ j d t u. go j d t u (ltb m j) refl }
      where
        go : (j : ℕ) (d : K × V) → m ≤ j → j < length ps → (t : Bool) → ltb m j ≡ t → c k (get_or ps j d).0 ≡ Less
        go j d t u true q = o.trans k _ _ (here Less e d) (rises_less c ps b.rising m j d (ltb-true m j q) u)
        go j d t u false q = let n : j ≡ m = omega (arith, ltb-false m j q) in ap (λ i. c k (get_or ps i d).0) n ∙ here Less e d

pub begins : {K V : Type 0} {c : K → K → Ordering} {ps : List (K × V)} {k : K} (n : ℕ) → rises c ps ≡ true → n ≡ length ps → Between c ps k 0 n
begins n r e = record { rising = r; order = omega arith; within = omega arith; past = λ j d l. absurd (let z : ⊥ = omega arith in z); ahead = λ j d l m. absurd (let z : ⊥ = omega arith in z) }
