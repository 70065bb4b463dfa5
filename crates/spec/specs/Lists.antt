-- Words on lists that the other files use. All of them compute.
use Rattle.std.specs.Prelude.{ℕ, zero, suc, ◌+◌, Bool, true, false, ◌&&◌, ◌||◌, ltb, List, [], ◌∷◌, ◌++◌, Some, None, Option, ◌==◌, nat_eq, nat_lt}

-- those that pass the test, in their order
abbrev pub keep : {A : Type 0} → (A → Bool) → List A → List A
keep p [] = []
keep p (x ∷ xs) = elim (p x) [ true ↦ x ∷ keep p xs | false ↦ keep p xs ]

abbrev pub one_if : Bool → ℕ
one_if true = 1
one_if false = 0

-- how many pass the test
abbrev pub count : {A : Type 0} → (A → Bool) → List A → ℕ
count p [] = 0
count p (x ∷ xs) = one_if (p x) + count p xs

abbrev pub sum_of : {A : Type 0} → (A → ℕ) → List A → ℕ
sum_of f [] = 0
sum_of f (x ∷ xs) = f x + sum_of f xs

abbrev pub any : {A : Type 0} → (A → Bool) → List A → Bool
any p [] = false
any p (x ∷ xs) = p x || any p xs

abbrev pub all : {A : Type 0} → (A → Bool) → List A → Bool
all p [] = true
all p (x ∷ xs) = p x && all p xs

-- a fact of each element
abbrev pub Every : {A : Type 0} → (A → Type 0) → List A → Type 0
Every P [] = Unit {0}
Every P (x ∷ xs) = P x × Every P xs

-- the first of two answers that is one
abbrev pub or_else : {A : Type 0} → Option A → Option A → Option A
or_else (Some x) y = Some x
or_else None y = y

abbrev pub map_some : {A B : Type 0} → (A → B) → Option A → Option B
map_some f None = None
map_some f (Some x) = Some (f x)

-- the first and the last that pass the test
abbrev pub first : {A : Type 0} → (A → Bool) → List A → Option A
first p [] = None
first p (x ∷ xs) = elim (p x) [ true ↦ Some x | false ↦ first p xs ]

abbrev pub last : {A : Type 0} → (A → Bool) → List A → Option A
last p [] = None
last p (x ∷ xs) = or_else (last p xs) (elim (p x) [ true ↦ Some x | false ↦ None ])

-- the answer of the first of several that has one: sections, groups, subtables
abbrev pub decided : {A B : Type 0} → (A → Option B) → List A → Option B
decided f [] = None
decided f (x ∷ xs) = or_else (f x) (decided f xs)

-- the element at a place, if there is one
abbrev pub at : {A : Type 0} → List A → ℕ → Option A
at [] n = None
at (x ∷ xs) zero = Some x
at (x ∷ xs) (suc n) = at xs n

-- the place of the first that passes the test, the first place being i
abbrev pub place_of : {A : Type 0} → (A → Bool) → ℕ → List A → Option ℕ
place_of p i [] = None
place_of p i (x ∷ xs) = elim (p x) [ true ↦ Some i | false ↦ place_of p (i + 1) xs ]

abbrev pub concat : {A : Type 0} → List (List A) → List A
concat [] = []
concat (x ∷ xs) = x ++ concat xs

-- n numbers from i on
abbrev pub numbers : ℕ → ℕ → List ℕ
numbers i zero = []
numbers i (suc n) = i ∷ numbers (i + 1) n

abbrev pub has : ℕ → List ℕ → Bool
has g xs = any (λ x. nat_eq x g) xs

-- the same numbers in the same order
abbrev pub same_list : List ℕ → List ℕ → Bool
same_list [] [] = true
same_list [] (y ∷ ys) = false
same_list (x ∷ xs) [] = false
same_list (x ∷ xs) (y ∷ ys) = x == y && same_list xs ys

-- number by number upwards, a shorter beginning first
abbrev pub list_before : List ℕ → List ℕ → Bool
list_before [] [] = false
list_before [] (y ∷ ys) = true
list_before (x ∷ xs) [] = false
list_before (x ∷ xs) (y ∷ ys) = nat_lt x y || (x == y && list_before xs ys)

-- x in its place among ys, which stand in the order `before`; one that is equal in that order stays in its stead
abbrev pub inserted : {A : Type 0} → (A → A → Bool) → A → List A → List A
inserted before x [] = x ∷ []
inserted before x (y ∷ ys) = elim (before x y) [ true ↦ x ∷ y ∷ ys | false ↦ elim (before y x) [ true ↦ y ∷ inserted before x ys | false ↦ y ∷ ys ] ]

-- the same; one that is equal in that order gives way to x
abbrev pub replaced : {A : Type 0} → (A → A → Bool) → A → List A → List A
replaced before x [] = x ∷ []
replaced before x (y ∷ ys) = elim (before x y) [ true ↦ x ∷ y ∷ ys | false ↦ elim (before y x) [ true ↦ y ∷ replaced before x ys | false ↦ x ∷ ys ] ]

-- in the order `before`; of those that are equal in it the last of the list, once
abbrev pub sorted : {A : Type 0} → (A → A → Bool) → List A → List A
sorted before [] = []
sorted before (x ∷ xs) = inserted before x (sorted before xs)

-- each different number once, rising
abbrev pub rising : List ℕ → List ℕ
rising xs = sorted ltb xs
