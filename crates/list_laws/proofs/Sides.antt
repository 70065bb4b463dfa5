-- On each side of a group of class rules different sets share no glyph.
use Rattle.std.proofs.Common.{◌≡◌, ℕ, Bool, true, false, not, ◌⊎◌, List, [], ◌∷◌, ◌++◌, map, sym, refl, ap, ◌∙◌, subst, inl, inr}
use Rattle.std.proofs.lemmas.Bool.{or_cases, not-true}
use Rattle.spec.specs.Lists.{Every, has}
use Rattle.spec.specs.Kinds.{Pair, set_of, disjoint, side_takes, joins, grouped, groups}
use Rattle.list_laws.proofs.Orders.{false_true}
use Rattle.list_laws.proofs.Linear.{both}
use Rattle.list_laws.proofs.Within.{In, in_map, map_in, all_in, in_front, has_in}

-- elements whose sets share a glyph have the same set
abbrev pub Apart : {A : Type 0} → (A → List ℕ) → List A → Type 0
Apart {A} f xs = (a b : A) → In a xs → In b xs → (g : ℕ) → has g (f a) ≡ true → has g (f b) ≡ true → f a ≡ f b

not_disjoint : (s t : List ℕ) (g : ℕ) → has g s ≡ true → has g t ≡ true → disjoint s t ≡ true → ⊥
not_disjoint s t g h k d = false_true (sym (not-true (has g t) (all_in (λ x. not (has x t)) s d g (has_in g s h))) ∙ k)

-- one more
apart_push : {A : Type 0} (f : A → List ℕ) (xs : List A) (x : A) → Apart f xs → ((a : A) → In a xs → (g : ℕ) → has g (f a) ≡ true → has g (f x) ≡ true → f a ≡ f x) → Apart f (xs ++ (x ∷ []))
apart_push {A} f xs x old new a b i j = go (in_front xs x a i) (in_front xs x b j)
  where
    go : In a xs ⊎ (a ≡ x) → In b xs ⊎ (b ≡ x) → (g : ℕ) → has g (f a) ≡ true → has g (f b) ≡ true → f a ≡ f b
    go (inl i) (inl j) g h k = old a b i j g h k
    go (inl i) (inr e) g h k = new a i g h (subst (λ y. has g (f y) ≡ true) e k) ∙ ap f (sym e)
    go (inr e) (inl j) g h k = ap f e ∙ sym (new b j g k (subst (λ y. has g (f y) ≡ true) e h))
    go (inr d) (inr e) g h k = ap f (d ∙ sym e)

module _ (sets : List (List ℕ)) where
  -- a set that a side takes
  taken : (sel : Pair → ℕ) (group : List Pair) (n : ℕ) → Apart (λ c. set_of sets (sel c)) group → side_takes sets (map sel group) n ≡ true
      → (a : Pair) → In a group → (g : ℕ) → has g (set_of sets (sel a)) ≡ true → has g (set_of sets n) ≡ true → set_of sets (sel a) ≡ set_of sets n
  taken sel group n old h a i g k m = elim (or_cases (has n (map sel group)) _ h) [
    | inl e ↦ let (b, j, s) = map_in sel group n (has_in n (map sel group) e) in old a b i j g k (subst (λ z. has g (set_of sets z) ≡ true) s m) ∙ ap (set_of sets) (sym s)
    | inr d ↦ absurd (not_disjoint (set_of sets (sel a)) (set_of sets n) g k m (all_in (λ z. disjoint (set_of sets z) (set_of sets n)) (map sel group) d (sel a) (in_map sel group a i)))
  ]

  abbrev pub BothApart : List Pair → Type 0
  BothApart group = Apart (λ c. set_of sets c.first) group × Apart (λ c. set_of sets c.second) group

  joined : (group : List Pair) (r : Pair) → BothApart group → joins sets group r ≡ true → BothApart (group ++ (r ∷ []))
  joined group r old h = let (a, b) = both (side_takes sets (map (λ c. c.first) group) r.first) _ h in (
    apart_push (λ c. set_of sets c.first) group r old.0 (taken (λ c. c.first) group r.first old.0 a),
    apart_push (λ c. set_of sets c.second) group r old.1 (taken (λ c. c.second) group r.second old.1 b),
  )

  alone : (r : Pair) → BothApart (r ∷ [])
  alone r = (apart_push (λ c. set_of sets c.first) [] r (λ a b i. absurd i) (λ a i. absurd i), apart_push (λ c. set_of sets c.second) [] r (λ a b i. absurd i) (λ a i. absurd i))

  grouped_apart : (group rs : List Pair) → BothApart group → Every BothApart (grouped sets group rs)
  grouped_apart group [] old = (old, tt)
  grouped_apart group (r ∷ rs) old = go (joins sets group r) refl (grouped_apart (group ++ (r ∷ [])) rs) (grouped_apart (r ∷ []) rs (alone r))
    where
      go : (b : Bool) → joins sets group r ≡ b → (BothApart (group ++ (r ∷ [])) → Every BothApart (grouped sets (group ++ (r ∷ [])) rs)) → Every BothApart (grouped sets (r ∷ []) rs)
          → Every BothApart (elim b [ true ↦ grouped sets (group ++ (r ∷ [])) rs | false ↦ group ∷ grouped sets (r ∷ []) rs ])
      go true e more next = more (joined group r old e)
      go false e more next = (old, next)

  -- THE SETS OF EACH SIDE OF A GROUP SHARE NO GLYPH
  pub groups_apart : (rs : List Pair) → Every BothApart (groups sets rs)
  groups_apart [] = tt
  groups_apart (r ∷ rs) = grouped_apart (r ∷ []) rs (alone r)
