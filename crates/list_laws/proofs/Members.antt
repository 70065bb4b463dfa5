-- Elements of lists: some element has a property, an element is there; and answers that several lists share out.
use Rattle.std.proofs.Common.{◌≡◌, Bool, true, false, ◌||◌, ◌⊎◌, List, [], ◌∷◌, ◌++◌, map, reverse, Some, None, Option, sym, refl, ap, ◌∙◌, subst, ap₂, inl, inr}
use mathlib.Core.List.{reverse-cons}
use Rattle.spec.specs.Lists.{Every, keep, any, first, last, or_else, map_some, decided, concat, inserted, sorted}
use Rattle.list_laws.proofs.Orders.{Order, Rises, false_true, or_else_none}
use Rattle.list_laws.proofs.Within.{In, every_in, in_every, every_keep}

-- some element has the property
abbrev pub Any : {A : Type 0} → (A → Type 0) → List A → Type 0
Any P [] = ⊥
Any P (x ∷ xs) = P x ⊎ Any P xs

pub any_map : {A : Type 0} {P Q : A → Type 0} → ((x : A) → P x → Q x) → (xs : List A) → Any P xs → Any Q xs
any_map f [] h = absurd h
any_map f (x ∷ xs) (inl h) = inl (f x h)
any_map f (x ∷ xs) (inr h) = inr (any_map f xs h)

pub every_all : {A : Type 0} {P : A → Type 0} → ((x : A) → P x) → (xs : List A) → Every P xs
every_all f [] = tt
every_all f (x ∷ xs) = (f x, every_all f xs)

-- every element is there
pub every_member : {A : Type 0} (xs : List A) → Every (λ x. In x xs) xs
every_member xs = in_every xs (λ x i. i)

pub map_member : {A B : Type 0} (f : A → B) (x : A) (xs : List A) → In x xs → Any (λ y. y ≡ f x) (map f xs)
map_member f x [] m = absurd m
map_member f x (y ∷ ys) (inl e) = inl (ap f (sym e))
map_member f x (y ∷ ys) (inr m) = inr (map_member f x ys m)

pub any_is : {A : Type 0} (x : A) (xs : List A) → Any (λ y. y ≡ x) xs → In x xs
any_is x [] m = absurd m
any_is x (y ∷ ys) (inl e) = inl (sym e)
any_is x (y ∷ ys) (inr m) = inr (any_is x ys m)

pub is_any : {A : Type 0} (x : A) (xs : List A) → In x xs → Any (λ y. y ≡ x) xs
is_any x [] m = absurd m
is_any x (y ∷ ys) (inl e) = inl (sym e)
is_any x (y ∷ ys) (inr m) = inr (is_any x ys m)

-- ---- the first that passes a test

pub some_none : {A B : Type 0} {x : A} → ◌≡◌ {A = Option A} (Some x) None → B
some_none e = absurd (subst (λ o. elim o as (λ _. Type 0) [ Some y ↦ Unit {0} | None ↦ ⊥ ]) e tt)

some_same : {A : Type 0} {x y : A} → ◌≡◌ {A = Option A} (Some y) (Some x) → y ≡ x
some_same e = cc

pub first_takes : {A : Type 0} (p : A → Bool) (x : A) (xs : List A) → p x ≡ true → first p (x ∷ xs) ≡ Some x
first_takes {A} p x xs e = ap {B = Option A} (λ b. elim b [ true ↦ Some x | false ↦ first p xs ]) e

pub first_skips : {A : Type 0} (p : A → Bool) (x : A) (xs : List A) → p x ≡ false → first p (x ∷ xs) ≡ first p xs
first_skips {A} p x xs e = ap {B = Option A} (λ b. elim b [ true ↦ Some x | false ↦ first p xs ]) e

-- it is there and passes
pub first_found : {A : Type 0} (p : A → Bool) (xs : List A) (x : A) → first p xs ≡ Some x → In x xs × (p x ≡ true)
first_found p [] x e = some_none (sym e)
first_found {A} p (y ∷ ys) x e = go (p y) refl e (λ h. first_found p ys x h)
  where
    go : (b : Bool) → p y ≡ b → ◌≡◌ {A = Option A} (elim b [ true ↦ Some y | false ↦ first p ys ]) (Some x) → (first p ys ≡ Some x → In x ys × (p x ≡ true)) → In x (y ∷ ys) × (p x ≡ true)
    go true f e r = let s = some_same e in (inl (sym s), subst (λ z. p z ≡ true) s f)
    go false f e r = let m = r e in (inr m.0, m.1)

-- at most one element passes
abbrev pub Unique : {A : Type 0} → (A → Bool) → List A → Type 0
Unique p [] = Unit {0}
Unique p (x ∷ xs) = (p x ≡ true → Every (λ y. p y ≡ false) xs) × Unique p xs

pub none_passes : {A : Type 0} (p : A → Bool) (xs : List A) → Every (λ y. p y ≡ false) xs → first p xs ≡ None
none_passes p [] h = refl
none_passes p (x ∷ xs) h = first_skips p x xs h.0 ∙ none_passes p xs h.1

-- among those kept, the one that passes is the one of the whole list, or none
abbrev pub if_kept : {A : Type 0} → (A → Bool) → Option A → Option A
if_kept q None = None
if_kept q (Some x) = elim (q x) [ true ↦ Some x | false ↦ None ]

kept_some : {A : Type 0} (q : A → Bool) (x : A) (b : Bool) → q x ≡ b → if_kept q (Some x) ≡ elim b [ true ↦ Some x | false ↦ None ]
kept_some {A} q x b e = ap {B = Option A} (λ c. elim c [ true ↦ Some x | false ↦ None ]) e

pub first_keep : {A : Type 0} (p q : A → Bool) (xs : List A) → Unique p xs → first p (keep q xs) ≡ if_kept q (first p xs)
first_keep p q [] u = refl
first_keep {A} p q (x ∷ xs) u = go (q x) (p x) refl refl (first_keep p q xs u.1)
  where
    go : (b c : Bool) → q x ≡ b → p x ≡ c → first p (keep q xs) ≡ if_kept q (first p xs)
        → first p (elim b [ true ↦ x ∷ keep q xs | false ↦ keep q xs ]) ≡ if_kept q (elim c [ true ↦ Some x | false ↦ first p xs ])
    go true true f g r = first_takes p x (keep q xs) g ∙ sym (kept_some q x true f)
    go true false f g r = first_skips p x (keep q xs) g ∙ r
    go false true f g r = none_passes p (keep q xs) (every_keep q (λ y. p y ≡ false) xs (u.0 g)) ∙ sym (kept_some q x false f)
    go false false f g r = r

pub kept_or_none : {A : Type 0} (q : A → Bool) (o : Option A) → (if_kept q o ≡ None) ⊎ (if_kept q o ≡ o)
kept_or_none q None = inl refl
kept_or_none {A} q (Some e) = go (q e)
  where
    go : (b : Bool) → (◌≡◌ {A = Option A} (elim b [ true ↦ Some e | false ↦ None ]) None) ⊎ (◌≡◌ {A = Option A} (elim b [ true ↦ Some e | false ↦ None ]) (Some e))
    go true = inr refl
    go false = inl refl

-- ---- lists that share out answers: each gives none or this, and one gives this, or this is none
pub decided_shared : {A B : Type 0} (t : A → Option B) (o : Option B) (xs : List A) → Every (λ x. (t x ≡ None) ⊎ (t x ≡ o)) xs → Any (λ x. t x ≡ o) xs ⊎ (o ≡ None) → decided t xs ≡ o
decided_shared t o [] h (inl m) = absurd m
decided_shared t o [] h (inr e) = sym e
decided_shared t None (x ∷ xs) h m = rw (none h.0) (decided_shared t None xs h.1 (inr refl))
  where
    none : (t x ≡ None) ⊎ (t x ≡ None) → t x ≡ None
    none (inl e) = e
    none (inr e) = e
decided_shared t (Some b) (x ∷ xs) (inr e, hs) m = rw e refl
decided_shared t (Some b) (x ∷ xs) (inl e, hs) (inl (inl f)) = rw f refl
decided_shared t (Some b) (x ∷ xs) (inl e, hs) (inl (inr k)) = rw e (decided_shared t (Some b) xs hs (inl k))
decided_shared t (Some b) (x ∷ xs) (inl e, hs) (inr n) = some_none n

-- ---- deciding goes through maps and joined lists

pub map_or_else : {A B : Type 0} (f : A → B) (x y : Option A) → map_some f (or_else x y) ≡ or_else (map_some f x) (map_some f y)
map_or_else f None y = refl
map_or_else f (Some x) y = refl

pub map_decided : {A B C : Type 0} (f : B → C) (t : A → Option B) (xs : List A) → map_some f (decided t xs) ≡ decided (λ x. map_some f (t x)) xs
map_decided f t [] = refl
map_decided f t (x ∷ xs) = map_or_else f (t x) (decided t xs) ∙ ap (λ z. or_else (map_some f (t x)) z) (map_decided f t xs)

pub decided_same : {A B : Type 0} (t u : A → Option B) → ((x : A) → t x ≡ u x) → (xs : List A) → decided t xs ≡ decided u xs
decided_same t u e xs = ap (λ f. decided f xs) (λ i x. e x i)

pub decided_map : {A B C : Type 0} (t : A → Option C) (u : B → Option C) (f : A → B) (xs : List A) → Every (λ x. t x ≡ u (f x)) xs → decided t xs ≡ decided u (map f xs)
decided_map t u f [] h = refl
decided_map t u f (x ∷ xs) h = ap₂ or_else h.0 (decided_map t u f xs h.1)

pub or_else_assoc : {A : Type 0} (x y z : Option A) → or_else (or_else x y) z ≡ or_else x (or_else y z)
or_else_assoc None y z = refl
or_else_assoc (Some x) y z = refl

pub decided_append : {A B : Type 0} (t : A → Option B) (xs ys : List A) → decided t (xs ++ ys) ≡ or_else (decided t xs) (decided t ys)
decided_append t [] ys = refl
decided_append t (x ∷ xs) ys = ap (λ z. or_else (t x) z) (decided_append t xs ys) ∙ sym (or_else_assoc (t x) (decided t xs) (decided t ys))

pub decided_concat : {A B : Type 0} (t : A → Option B) (xss : List (List A)) → decided t (concat xss) ≡ decided (decided t) xss
decided_concat t [] = refl
decided_concat t (xs ∷ xss) = decided_append t xs (concat xss) ∙ ap (λ z. or_else (decided t xs) z) (decided_concat t xss)

-- ---- the last of a list is the first of its reverse

pub last_append : {A : Type 0} (p : A → Bool) (xs ys : List A) → last p (xs ++ ys) ≡ or_else (last p ys) (last p xs)
last_append p [] ys = sym (or_else_none (last p ys))
last_append {A} p (x ∷ xs) ys = ap (λ z. or_else z (elim (p x) [ true ↦ Some x | false ↦ None ])) (last_append p xs ys) ∙ or_else_assoc (last p ys) (last p xs) _

pub last_reverse : {A : Type 0} (p : A → Bool) (xs : List A) → last p (reverse xs) ≡ first p xs
last_reverse p [] = refl
last_reverse p (x ∷ xs) = ap (last p) (reverse-cons x xs) ∙ (last_append p (reverse xs) (x ∷ []) ∙ go (p x) (last_reverse p xs))
  where
    go : (b : Bool) → last p (reverse xs) ≡ first p xs → or_else (or_else None (elim b [ true ↦ Some x | false ↦ None ])) (last p (reverse xs)) ≡ elim b [ true ↦ Some x | false ↦ first p xs ]
    go true r = refl
    go false r = r

-- ---- what is sorted by keys

module _ {A K : Type 0} {before : A → A → Bool} {key : A → K} (o : Order before key) where
  -- keys that differ pass no test for one key twice
  pub rises_unique : (p : A → Bool) → ((x y : A) → p x ≡ true → p y ≡ true → key x ≡ key y) → (xs : List A) → Rises before xs → Unique p xs
  rises_unique p s [] h = tt
  rises_unique p s (x ∷ xs) h = ((λ e. go e xs h.0), rises_unique p s xs h.1)
    where
      one : p x ≡ true → (y : A) → before x y ≡ true → (b : Bool) → p y ≡ b → p y ≡ false
      one e y l true f = false_true (sym (o.same x y (s x y e f)) ∙ l)
      one e y l false f = f

      go : p x ≡ true → (ys : List A) → Every (λ y. before x y ≡ true) ys → Every (λ y. p y ≡ false) ys
      go e [] w = tt
      go e (y ∷ ys) w = (one e y w.0 (p y) refl, go e ys w.1)

  -- every key of the list is kept
  inserted_has : (k : K) (x : A) (ys : List A) → (key x ≡ k) ⊎ Any (λ y. key y ≡ k) ys → Any (λ y. key y ≡ k) (inserted before x ys)
  inserted_has k x [] (inl e) = inl e
  inserted_has k x [] (inr m) = absurd m
  inserted_has k x (y ∷ ys) h = go (before x y) (before y x) refl refl h (λ w. inserted_has k x ys w)
    where
      go : (b c : Bool) → before x y ≡ b → before y x ≡ c → (key x ≡ k) ⊎ Any (λ z. key z ≡ k) (y ∷ ys) → ((key x ≡ k) ⊎ Any (λ z. key z ≡ k) ys → Any (λ z. key z ≡ k) (inserted before x ys))
          → Any (λ z. key z ≡ k) (elim b [ true ↦ x ∷ y ∷ ys | false ↦ elim c [ true ↦ y ∷ inserted before x ys | false ↦ y ∷ ys ] ])
      go true c e f h r = h
      go false true e f (inl w) r = inr (r (inl w))
      go false true e f (inr (inl w)) r = inl w
      go false true e f (inr (inr w)) r = inr (r (inr w))
      go false false e f (inl w) r = inl (sym (o.total x y e f) ∙ w)
      go false false e f (inr w) r = w

  pub sorted_has : (k : K) (xs : List A) → Any (λ y. key y ≡ k) xs → Any (λ y. key y ≡ k) (sorted before xs)
  sorted_has k [] m = absurd m
  sorted_has k (x ∷ xs) (inl e) = inserted_has k x (sorted before xs) (inl e)
  sorted_has k (x ∷ xs) (inr m) = inserted_has k x (sorted before xs) (inr (sorted_has k xs m))

-- ---- kept elements, and elements that only one test passes

pub any_both : {A : Type 0} (P Q : A → Type 0) (xs : List A) → Every P xs → Any Q xs → Any (λ x. P x × Q x) xs
any_both P Q [] h m = absurd m
any_both P Q (x ∷ xs) h (inl q) = inl (h.0, q)
any_both P Q (x ∷ xs) h (inr m) = inr (any_both P Q xs h.1 m)

pub keep_member : {A : Type 0} (q : A → Bool) (x : A) (xs : List A) → In x xs → q x ≡ true → In x (keep q xs)
keep_member q x [] m e = absurd m
keep_member q x (y ∷ ys) (inl s) e = go (q y) (subst (λ z. q z ≡ true) s e)
  where
    go : (b : Bool) → b ≡ true → In x (elim b [ true ↦ y ∷ keep q ys | false ↦ keep q ys ])
    go true f = inl s
    go false f = false_true f
keep_member q x (y ∷ ys) (inr m) e = go (q y) (keep_member q x ys m e)
  where
    go : (b : Bool) → In x (keep q ys) → In x (elim b [ true ↦ y ∷ keep q ys | false ↦ keep q ys ])
    go true r = inr r
    go false r = r

pub keep_same : {A : Type 0} (q r : A → Bool) (xs : List A) → Every (λ x. q x ≡ r x) xs → keep q xs ≡ keep r xs
keep_same q r [] h = refl
keep_same {A} q r (x ∷ xs) h = go (q x) (r x) h.0 (keep_same q r xs h.1)
  where
    go : (b c : Bool) → b ≡ c → keep q xs ≡ keep r xs → ◌≡◌ {A = List A} (elim b [ true ↦ x ∷ keep q xs | false ↦ keep q xs ]) (elim c [ true ↦ x ∷ keep r xs | false ↦ keep r xs ])
    go true true e s = ap (λ z. x ∷ z) s
    go true false e s = false_true (sym e)
    go false true e s = false_true e
    go false false e s = s

pub unique_same : {A : Type 0} (p : A → Bool) (x y : A) (xs : List A) → Unique p xs → In x xs → In y xs → p x ≡ true → p y ≡ true → x ≡ y
unique_same p x y [] u m n e f = absurd m
unique_same p x y (z ∷ zs) u (inl a) (inl b) e f = a ∙ sym b
unique_same p x y (z ∷ zs) u (inl a) (inr n) e f = false_true (sym (every_in (λ w. p w ≡ false) zs (u.0 (subst (λ w. p w ≡ true) a e)) y n) ∙ f)
unique_same p x y (z ∷ zs) u (inr m) (inl b) e f = false_true (sym (every_in (λ w. p w ≡ false) zs (u.0 (subst (λ w. p w ≡ true) b f)) x m) ∙ e)
unique_same p x y (z ∷ zs) u (inr m) (inr n) e f = unique_same p x y zs u.1 m n e f

-- ---- maps of options

pub map_map : {A B C : Type 0} (f : B → C) (g : A → B) (o : Option A) → map_some f (map_some g o) ≡ map_some (λ x. f (g x)) o
map_map f g None = refl
map_map f g (Some x) = refl

-- ---- tests of a mapped list

pub any_mapped : {A B : Type 0} (p : B → Bool) (f : A → B) (xs : List A) → any p (map f xs) ≡ any (λ x. p (f x)) xs
any_mapped p f [] = refl
any_mapped p f (x ∷ xs) = ap (λ b. p (f x) || b) (any_mapped p f xs)

pub first_mapped : {A B : Type 0} (p : B → Bool) (f : A → B) (xs : List A) → first p (map f xs) ≡ map_some f (first (λ x. p (f x)) xs)
first_mapped p f [] = refl
first_mapped {A} {B} p f (x ∷ xs) = go (p (f x)) (first_mapped p f xs)
  where
    go : (b : Bool) → first p (map f xs) ≡ map_some f (first (λ x. p (f x)) xs) → ◌≡◌ {A = Option B} (elim b [ true ↦ Some (f x) | false ↦ first p (map f xs) ]) (map_some f (elim b [ true ↦ Some x | false ↦ first (λ x. p (f x)) xs ]))
    go true r = refl
    go false r = r

pub first_none : {A : Type 0} (p : A → Bool) (xs : List A) → first p xs ≡ None → Every (λ x. p x ≡ false) xs
first_none p [] e = tt
first_none {A} p (x ∷ xs) e = go (p x) refl e (λ h. first_none p xs h)
  where
    go : (b : Bool) → p x ≡ b → ◌≡◌ {A = Option A} (elim b [ true ↦ Some x | false ↦ first p xs ]) None → (first p xs ≡ None → Every (λ y. p y ≡ false) xs) → Every (λ y. p y ≡ false) (x ∷ xs)
    go true f e r = some_none e
    go false f e r = (f, r e)
