-- A list put in an order by keys: it rises, has each key once, and of equal keys the last element.
use Rattle.std.proofs.Common.{◌≡◌, Bool, true, false, List, [], ◌∷◌, Some, None, Option, sym, refl, ap, ◌∙◌, subst}
use Rattle.spec.specs.Lists.{Every, first, last, or_else, inserted, sorted}
pub use Rattle.list_laws.specs.Rising.{Rises}

-- `before` goes by keys, and is total and transitive on them
pub record Order {A K : Type 0} (before : A → A → Bool) (key : A → K) : Type 0 where
  pub same : (x y : A) → key x ≡ key y → before x y ≡ false
  pub total : (x y : A) → before x y ≡ false → before y x ≡ false → key x ≡ key y
  pub trans : (x y z : A) → before x y ≡ true → before y z ≡ true → before x z ≡ true

pub every_map : {A : Type 0} {P Q : A → Type 0} → ((x : A) → P x → Q x) → (xs : List A) → Every P xs → Every Q xs
every_map f [] h = tt
every_map f (x ∷ xs) h = (f x h.0, every_map f xs h.1)

pub or_else_none : {A : Type 0} (o : Option A) → or_else o None ≡ o
or_else_none None = refl
or_else_none (Some x) = refl

pub false_true : {A : Type 0} → false ≡ true → A
false_true e = absurd (subst (λ b. elim b as (λ _. Type 0) [ true ↦ ⊥ | false ↦ Unit {0} ]) e tt)

module _ {A K : Type 0} {before : A → A → Bool} {key : A → K} (o : Order before key) where
  every_inserted : (P : A → Type 0) (x : A) (ys : List A) → P x → Every P ys → Every P (inserted before x ys)
  every_inserted P x [] h hs = (h, tt)
  every_inserted P x (y ∷ ys) h hs = go (before x y) (before y x) (every_inserted P x ys h hs.1)
    where
      go : (b c : Bool) → Every P (inserted before x ys) → Every P (elim b [ true ↦ x ∷ y ∷ ys | false ↦ elim c [ true ↦ y ∷ inserted before x ys | false ↦ y ∷ ys ] ])
      go true c r = (h, hs)
      go false true r = (hs.0, r)
      go false false r = hs

  pub every_sorted : (P : A → Type 0) (xs : List A) → Every P xs → Every P (sorted before xs)
  every_sorted P [] h = tt
  every_sorted P (x ∷ xs) h = every_inserted P x (sorted before xs) h.0 (every_sorted P xs h.1)

  inserted_rises : (x : A) (ys : List A) → Rises before ys → Rises before (inserted before x ys)
  inserted_rises x [] h = (tt, tt)
  inserted_rises x (y ∷ ys) h = go (before x y) (before y x) refl refl (inserted_rises x ys h.1)
    where
      go : (b c : Bool) → before x y ≡ b → before y x ≡ c → Rises before (inserted before x ys)
          → Rises before (elim b [ true ↦ x ∷ y ∷ ys | false ↦ elim c [ true ↦ y ∷ inserted before x ys | false ↦ y ∷ ys ] ])
      go true c e f r = ((e, every_map (λ z g. o.trans x y z e g) ys h.0), h)
      go false true e f r = (every_inserted (λ z. before y z ≡ true) x ys f h.0, r)
      go false false e f r = h

  pub sorted_rises : (xs : List A) → Rises before (sorted before xs)
  sorted_rises [] = tt
  sorted_rises (x ∷ xs) = inserted_rises x (sorted before xs) (sorted_rises xs)

  -- a test that goes by keys, and that only elements of the key k pass
  module _ (p : A → Bool) (k : K) (by_key : (x y : A) → key x ≡ key y → p x ≡ p y) where
    abbrev Only : A → Type 0
    Only x = p x ≡ true → key x ≡ k

    none_behind : (x : A) (ys : List A) → key x ≡ k → Every (λ y. before x y ≡ true) ys → Every Only ys → first p ys ≡ None
    none_behind x [] e h w = refl
    none_behind x (y ∷ ys) e h w = go (p y) refl (none_behind x ys e h.1 w.1)
      where
        go : (b : Bool) → p y ≡ b → first p ys ≡ None → ◌≡◌ {A = Option A} (elim b [ true ↦ Some y | false ↦ first p ys ]) None
        go true f r = false_true (sym (o.same x y (e ∙ sym (w.0 f))) ∙ h.0)
        go false f r = r

    abbrev found : A → Option A
    found x = elim (p x) [ true ↦ Some x | false ↦ None ]

    first_inserted : (x : A) (ys : List A) → Only x → Every Only ys → Rises before ys → first p (inserted before x ys) ≡ or_else (first p ys) (found x)
    first_inserted x [] w ws h = refl
    first_inserted x (y ∷ ys) w ws h = go (before x y) (before y x) refl refl (first_inserted x ys w ws.1 h.1)
      where
        ahead : before x y ≡ true → (b : Bool) → p x ≡ b → ◌≡◌ {A = Option A} (elim b [ true ↦ Some x | false ↦ first p (y ∷ ys) ]) (or_else (first p (y ∷ ys)) (elim b [ true ↦ Some x | false ↦ None ]))
        ahead e true f = rw (none_behind x (y ∷ ys) (w f) (e, every_map (λ z g. o.trans x y z e g) ys h.0) ws)
        ahead e false f = sym (or_else_none (first p (y ∷ ys)))

        behind : first p (inserted before x ys) ≡ or_else (first p ys) (found x) → (b : Bool)
            → ◌≡◌ {A = Option A} (elim b [ true ↦ Some y | false ↦ first p (inserted before x ys) ]) (or_else (elim b [ true ↦ Some y | false ↦ first p ys ]) (found x))
        behind r true = refl
        behind r false = r

        equal : key x ≡ key y → (b c : Bool) → p x ≡ b → p y ≡ c → ◌≡◌ {A = Option A} (elim c [ true ↦ Some y | false ↦ first p ys ]) (or_else (elim c [ true ↦ Some y | false ↦ first p ys ]) (elim b [ true ↦ Some x | false ↦ None ]))
        equal e b true f g = refl
        equal e true false f g = false_true (sym g ∙ (sym (by_key x y e) ∙ f))
        equal e false false f g = sym (or_else_none (first p ys))

        go : (b c : Bool) → before x y ≡ b → before y x ≡ c → first p (inserted before x ys) ≡ or_else (first p ys) (found x)
            → first p (elim b [ true ↦ x ∷ y ∷ ys | false ↦ elim c [ true ↦ y ∷ inserted before x ys | false ↦ y ∷ ys ] ]) ≡ or_else (first p (y ∷ ys)) (found x)
        go true c e f r = ahead e (p x) refl
        go false true e f r = behind r (p y)
        go false false e f r = equal (o.total x y e f) (p x) (p y) refl refl

    -- OF EQUAL KEYS THE LAST STANDS
    pub first_sorted : (xs : List A) → Every Only xs → first p (sorted before xs) ≡ last p xs
    first_sorted [] w = refl
    first_sorted (x ∷ xs) w = first_inserted x (sorted before xs) w.0 (every_sorted Only xs w.1) (sorted_rises xs) ∙ ap (λ z. or_else z (found x)) (first_sorted xs w.1)
