-- Standing rules and groups grow by one more rule as an insertion makes them.
use Rattle.std.proofs.Common.{◌≡◌, ℕ, Bool, true, false, ◌&&◌, ◌||◌, eqb, ltb, List, [], ◌∷◌, ◌++◌, sym, refl, ap, ◌∙◌, subst}
use mathlib.Core.Bool.{or-false}
use mathlib.Core.List.{reverse-append}
use Rattle.spec.specs.Lists.{has, inserted, replaced, sorted, same_list, list_before}
use Rattle.spec.specs.Kinds.{Pair, pair_before, joins, grouped}
use Rattle.list_laws.specs.Growing.{grown, SinglesGrow, PairsGrow, CellsGrow, GroupsGrow, LowestTells}
use Rattle.list_laws.proofs.Orders.{Order, false_true}
use Rattle.list_laws.proofs.Linear.{numbers_linear, lists_linear}
use Rattle.list_laws.proofs.Members.{some_none}
use Rattle.list_laws.proofs.SingleAnswers.{rule_order}
use Rattle.list_laws.proofs.PairAnswers.{cell_order}

module _ {A K : Type 0} {before : A → A → Bool} {key : A → K} (o : Order before key) where
  -- the tests of y where x has the same key
  left : (x y z : A) → key x ≡ key y → before x z ≡ before y z
  left x y z e = go (before x z) (before y z) (before z x) (before z y) refl refl refl refl
    where
      go : (a b c d : Bool) → before x z ≡ a → before y z ≡ b → before z x ≡ c → before z y ≡ d → a ≡ b
      go true true c d p q r s = refl
      go false false c d p q r s = refl
      go true false c true p q r s = false_true (sym (o.same x y e) ∙ o.trans x z y p s)
      go true false c false p q r s = let k = o.total y z q s in false_true (sym (o.same x z (e ∙ k)) ∙ p)
      go false true true d p q r s = false_true (sym (o.same y x (sym e)) ∙ o.trans y z x q r)
      go false true false d p q r s = let k = o.total x z p r in false_true (sym (o.same y z (sym e ∙ k)) ∙ q)

  right : (x y z : A) → key x ≡ key y → before z x ≡ before z y
  right x y z e = go (before z x) (before z y) (before x z) (before y z) refl refl (left x y z e)
    where
      go : (a b c d : Bool) → before z x ≡ a → before z y ≡ b → before x z ≡ before y z → a ≡ b
      go true true c d p q r = refl
      go false false c d p q r = refl
      go true false c d p q r = turn (before x z) refl
        where
          turn : (w : Bool) → before x z ≡ w → true ≡ false
          turn true u = false_true (sym (o.same z z refl) ∙ o.trans z x z p u)
          turn false u = let k = o.total y z (sym r ∙ u) q in false_true (sym (o.same z x (sym (e ∙ k))) ∙ p)
      go false true c d p q r = turn (before x z) refl
        where
          turn : (w : Bool) → before x z ≡ w → false ≡ true
          turn true u = false_true (sym (o.same z z refl) ∙ o.trans z y z q (sym r ∙ u))
          turn false u = let k = o.total x z u p in false_true (sym (o.same z y (sym k ∙ e)) ∙ q)

  -- how two elements stand to each other
  data Stand : A → A → Type 0 where
    less : {x y : A} → before x y ≡ true → before y x ≡ false → Stand x y
    same : {x y : A} → key x ≡ key y → before x y ≡ false → before y x ≡ false → Stand x y
    more : {x y : A} → before x y ≡ false → before y x ≡ true → Stand x y

  stand : (x y : A) → Stand x y
  stand x y = go (before x y) (before y x) refl refl
    where
      go : (a b : Bool) → before x y ≡ a → before y x ≡ b → Stand x y
      go true true p q = false_true (sym (o.same x x refl) ∙ o.trans x y x p q)
      go true false p q = less p q
      go false true p q = more p q
      go false false p q = same (o.total x y p q) p q

  -- ---- one step of each

  step : {B : Type 0} (f : Bool → Bool → B) (a b c d : Bool) → a ≡ c → b ≡ d → f a b ≡ f c d
  step f a b c d p q = ap (λ z. f z b) p ∙ ap (f c) q

  inserted_at : (x y : A) (ys : List A) (b c : Bool) → before x y ≡ b → before y x ≡ c → inserted before x (y ∷ ys) ≡ elim b [ true ↦ x ∷ y ∷ ys | false ↦ elim c [ true ↦ y ∷ inserted before x ys | false ↦ y ∷ ys ] ]
  inserted_at x y ys b c p q = step {B = List A} (λ b c. elim b [ true ↦ x ∷ y ∷ ys | false ↦ elim c [ true ↦ y ∷ inserted before x ys | false ↦ y ∷ ys ] ]) (before x y) (before y x) b c p q

  replaced_at : (x y : A) (ys : List A) (b c : Bool) → before x y ≡ b → before y x ≡ c → replaced before x (y ∷ ys) ≡ elim b [ true ↦ x ∷ y ∷ ys | false ↦ elim c [ true ↦ y ∷ replaced before x ys | false ↦ x ∷ ys ] ]
  replaced_at x y ys b c p q = step {B = List A} (λ b c. elim b [ true ↦ x ∷ y ∷ ys | false ↦ elim c [ true ↦ y ∷ replaced before x ys | false ↦ x ∷ ys ] ]) (before x y) (before y x) b c p q

  -- ---- which of two comes first does not matter

  ahead_of_both : (x y z : A) (ys : List A) → before x y ≡ true → before x z ≡ true → before z x ≡ false → before y x ≡ false → replaced before x (inserted before z (y ∷ ys)) ≡ x ∷ inserted before z (y ∷ ys)
  ahead_of_both x y z ys p q r s = go (before z y) (before y z) refl refl
    where
      go : (a b : Bool) → before z y ≡ a → before y z ≡ b → replaced before x (inserted before z (y ∷ ys)) ≡ x ∷ inserted before z (y ∷ ys)
      go true b u v = let i = inserted_at z y ys true b u v in ap (replaced before x) i ∙ (replaced_at x z (y ∷ ys) true false q r ∙ ap (λ l. x ∷ l) (sym i))
      go false true u v = let i = inserted_at z y ys false true u v in ap (replaced before x) i ∙ (replaced_at x y (inserted before z ys) true false p s ∙ ap (λ l. x ∷ l) (sym i))
      go false false u v = let i = inserted_at z y ys false false u v in ap (replaced before x) i ∙ (replaced_at x y ys true false p s ∙ ap (λ l. x ∷ l) (sym i))

  commute : (x z : A) (ys : List A) → inserted before z (replaced before x ys) ≡ replaced before x (inserted before z ys)
  commute x z [] = go (stand x z)
    where
      go : Stand x z → inserted before z (x ∷ []) ≡ replaced before x (z ∷ [])
      go (less p q) = inserted_at z x [] false true q p ∙ sym (replaced_at x z [] true false p q)
      go (same e p q) = inserted_at z x [] false false q p ∙ sym (replaced_at x z [] false false p q)
      go (more p q) = inserted_at z x [] true false q p ∙ sym (replaced_at x z [] false true p q)
  commute x z (y ∷ ys) = by (stand x y) (stand z y) (stand z x) (commute x z ys)
    where
      by : Stand x y → Stand z y → Stand z x → inserted before z (replaced before x ys) ≡ replaced before x (inserted before z ys) → inserted before z (replaced before x (y ∷ ys)) ≡ replaced before x (inserted before z (y ∷ ys))
      by (less p q) w (less u v) r =
          let t = o.trans z x y u p in let f = after_false z y t in
          ap (inserted before z) (replaced_at x y ys true false p q) ∙ (inserted_at z x (y ∷ ys) true false u v
          ∙ sym (ap (replaced before x) (inserted_at z y ys true false t f) ∙ (replaced_at x z (y ∷ ys) false true v u ∙ ap (λ l. z ∷ l) (replaced_at x y ys true false p q))))
        where
          after_false : (a b : A) → before a b ≡ true → before b a ≡ false
          after_false a b e = turn (before b a) refl
            where
              turn : (w : Bool) → before b a ≡ w → before b a ≡ false
              turn true g = false_true (sym (o.same a a refl) ∙ o.trans a b a e g)
              turn false g = g
      by (less p q) w (same e u v) r =
          let t : before z y ≡ true = left z x y e ∙ p in let f : before y z ≡ false = right z x y e ∙ q in
          ap (inserted before z) (replaced_at x y ys true false p q) ∙ (inserted_at z x (y ∷ ys) false false u v
          ∙ sym (ap (replaced before x) (inserted_at z y ys true false t f) ∙ replaced_at x z (y ∷ ys) false false v u))
      by (less p q) w (more u v) r =
          ap (inserted before z) (replaced_at x y ys true false p q) ∙ (inserted_at z x (y ∷ ys) false true u v ∙ sym (ahead_of_both x y z ys p v u q))
      by (same e p q) w (less u v) r =
          let t : before z y ≡ true = sym (right x y z e) ∙ u in let f : before y z ≡ false = sym (left x y z e) ∙ v in
          ap (inserted before z) (replaced_at x y ys false false p q) ∙ (inserted_at z x ys true false u v
          ∙ sym (ap (replaced before x) (inserted_at z y ys true false t f) ∙ (replaced_at x z (y ∷ ys) false true v u ∙ ap (λ l. z ∷ l) (replaced_at x y ys false false p q))))
      by (same e p q) w (same d u v) r =
          let t : before z y ≡ false = sym (right x y z e) ∙ u in let f : before y z ≡ false = sym (left x y z e) ∙ v in
          ap (inserted before z) (replaced_at x y ys false false p q) ∙ (inserted_at z x ys false false u v
          ∙ sym (ap (replaced before x) (inserted_at z y ys false false t f) ∙ replaced_at x y ys false false p q))
      by (same e p q) w (more u v) r =
          let t : before z y ≡ false = sym (right x y z e) ∙ u in let f : before y z ≡ true = sym (left x y z e) ∙ v in
          ap (inserted before z) (replaced_at x y ys false false p q) ∙ (inserted_at z x ys false true u v
          ∙ sym (ap (replaced before x) (inserted_at z y ys false true t f) ∙ replaced_at x y (inserted before z ys) false false p q))
      by (more p q) (less u v) w r =
          let t = o.trans z y x u q in let f = turn (before x z) refl t in
          ap (inserted before z) (replaced_at x y ys false true p q) ∙ (inserted_at z y (replaced before x ys) true false u v
          ∙ sym (ap (replaced before x) (inserted_at z y ys true false u v) ∙ (replaced_at x z (y ∷ ys) false true f t ∙ ap (λ l. z ∷ l) (replaced_at x y ys false true p q))))
        where
          turn : (w : Bool) → before x z ≡ w → before z x ≡ true → before x z ≡ false
          turn true g t = false_true (sym (o.same z z refl) ∙ o.trans z x z t g)
          turn false g t = g
      by (more p q) (same e u v) w r =
          ap (inserted before z) (replaced_at x y ys false true p q) ∙ (inserted_at z y (replaced before x ys) false false u v
          ∙ sym (ap (replaced before x) (inserted_at z y ys false false u v) ∙ replaced_at x y ys false true p q))
      by (more p q) (more u v) w r =
          ap (inserted before z) (replaced_at x y ys false true p q) ∙ (inserted_at z y (replaced before x ys) false true u v
          ∙ (ap (λ l. y ∷ l) r ∙ sym (ap (replaced before x) (inserted_at z y ys false true u v) ∙ replaced_at x y (inserted before z ys) false true p q)))

  -- ONE MORE AT THE END takes the place of an equal one
  pub sorted_grows : (xs : List A) (x : A) → sorted before (xs ++ (x ∷ [])) ≡ replaced before x (sorted before xs)
  sorted_grows [] x = refl
  sorted_grows (z ∷ xs) x = ap (inserted before z) (sorted_grows xs x) ∙ commute x z (sorted before xs)

pub singles_grow : SinglesGrow
singles_grow rs r = sorted_grows rule_order rs r

pub pairs_grow : PairsGrow
pairs_grow rs r = ap (sorted pair_before) (reverse-append rs (r ∷ []))

pub cells_grow : CellsGrow
cells_grow sets group r = sorted_grows (cell_order sets) group r

-- ---- groups

-- groups behind a first one grow by themselves
grown_behind : (sets : List (List ℕ)) (r : Pair) (g h rs : List Pair) → grown sets r (g ∷ grouped sets h rs) ≡ g ∷ grown sets r (grouped sets h rs)
grown_behind sets r g h [] = refl
grown_behind sets r g h (s ∷ rs) = go (joins sets h s) (grown_behind sets r g (h ++ (s ∷ [])) rs)
  where
    go : (b : Bool) → grown sets r (g ∷ grouped sets (h ++ (s ∷ [])) rs) ≡ g ∷ grown sets r (grouped sets (h ++ (s ∷ [])) rs)
        → ◌≡◌ {A = List (List Pair)} (grown sets r (g ∷ elim b [ true ↦ grouped sets (h ++ (s ∷ [])) rs | false ↦ h ∷ grouped sets (s ∷ []) rs ])) (g ∷ grown sets r (elim b [ true ↦ grouped sets (h ++ (s ∷ [])) rs | false ↦ h ∷ grouped sets (s ∷ []) rs ]))
    go true m = m
    go false m = refl

grouped_grows : (sets : List (List ℕ)) (group rs : List Pair) (r : Pair) → grouped sets group (rs ++ (r ∷ [])) ≡ grown sets r (grouped sets group rs)
grouped_grows sets group [] r = refl
grouped_grows sets group (s ∷ rs) r = go (joins sets group s) (grouped_grows sets (group ++ (s ∷ [])) rs r) (grouped_grows sets (s ∷ []) rs r)
  where
    go : (b : Bool) → grouped sets (group ++ (s ∷ [])) (rs ++ (r ∷ [])) ≡ grown sets r (grouped sets (group ++ (s ∷ [])) rs) → grouped sets (s ∷ []) (rs ++ (r ∷ [])) ≡ grown sets r (grouped sets (s ∷ []) rs)
        → ◌≡◌ {A = List (List Pair)} (elim b [ true ↦ grouped sets (group ++ (s ∷ [])) (rs ++ (r ∷ [])) | false ↦ group ∷ grouped sets (s ∷ []) (rs ++ (r ∷ [])) ]) (grown sets r (elim b [ true ↦ grouped sets (group ++ (s ∷ [])) rs | false ↦ group ∷ grouped sets (s ∷ []) rs ]))
    go true m n = m
    go false m n = ap (λ l. group ∷ l) n ∙ sym (grown_behind sets r group (s ∷ []) rs)

pub groups_grow : GroupsGrow
groups_grow sets [] r = refl
groups_grow sets (s ∷ rs) r = grouped_grows sets (s ∷ []) rs r

-- ---- lowest glyphs

pub lowest_tells : LowestTells
lowest_tells [] t e f h = some_none e
lowest_tells (x ∷ s) [] e f h = some_none f
lowest_tells (x ∷ s) (y ∷ t) e f h = go (eqb x y) refl
  where
    go : (b : Bool) → eqb x y ≡ b → ((ltb x y || (eqb x y && list_before s t)) ≡ ltb x y) × ((eqb x y && same_list s t) ≡ eqb x y)
    go true d =
        let k = numbers_linear.equal x y d in
        let r : s ≡ t = tails (h x (held x s) (subst (λ z. has x (z ∷ t) ≡ true) k (held x t))) in
        (ap (λ b. ltb x y || b) (ap (λ b. b && list_before s t) d ∙ subst (λ z. list_before s z ≡ false) r (lists_linear.apart s)) ∙ or-false (ltb x y), ap (λ b. b && same_list s t) d ∙ (subst (λ z. same_list s z ≡ true) r (lists_linear.self s) ∙ sym d))
      where
        tails : {u v : ℕ} {a c : List ℕ} → u ∷ a ≡ v ∷ c → a ≡ c
        tails e = cc

        held : (g : ℕ) (l : List ℕ) → has g (g ∷ l) ≡ true
        held g l = ap (λ b. b || has g l) (numbers_linear.self g)
    go false d = (ap (λ b. ltb x y || (b && list_before s t)) d ∙ or-false (ltb x y), ap (λ b. b && same_list s t) d ∙ sym d)
