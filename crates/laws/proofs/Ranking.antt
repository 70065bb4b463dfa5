-- The numbers of sets that share no glyph: different sets have different numbers, all below the count of sets.
use Rattle.std.proofs.Common.{◌≡◌, ℕ, ◌+◌, ◌<◌, ◌≤◌, Bool, true, false, not, ◌&&◌, eqb, ◌⊎◌, List, [], ◌∷◌, length, Some, None, Option, sym, refl, ap, ◌∙◌, subst, inl, inr, arith}
use Rattle.std.proofs.lemmas.Bool.Decides.{nat_tests}
use Rattle.std.proofs.lemmas.Bool.{cases_Bool, eqb-true, eq-eqb, ne_eqb}
use Rattle.spec.specs.Lists.{Every, count, any, has, first}
use Rattle.spec.specs.Kinds.{disjoint}
use Rattle.spec.specs.Classes.{set_before, rank, class_among, class_of}
use Rattle.list_laws.proofs.Orders.{false_true}
use Rattle.list_laws.proofs.Within.{In, in_any, every_in}
use Rattle.list_laws.proofs.Members.{first_found}
use Rattle.laws.specs.Conditions.{Apart}
use Rattle.laws.proofs.Finding.{none_any}

-- ---- counts

count_more : {A : Type 0} (p q : A → Bool) → ((x : A) → p x ≡ true → q x ≡ true) → (xs : List A) → count p xs ≤ count q xs
count_more p q h [] = omega arith
count_more p q h (x ∷ xs) = let r = count_more p q h xs in let i = h x in grind (arith, nat_tests)

-- a test that passes wherever another does, and once more
count_less : {A : Type 0} (p q : A → Bool) → ((x : A) → p x ≡ true → q x ≡ true) → (xs : List A) → any (λ x. not (p x) && q x) xs ≡ true → count p xs < count q xs
count_less p q h [] e = false_true e
count_less p q h (x ∷ xs) e = let r = count_less p q h xs in let i = h x in let m = count_more p q h xs in grind (arith, nat_tests)

count_all : {A : Type 0} (xs : List A) → count (λ x. true) xs ≡ length xs
count_all [] = refl
count_all (x ∷ xs) = let r = count_all xs in omega arith

-- ---- the order of sets

before_trans : (s t u : List ℕ) → set_before s t ≡ true → set_before t u ≡ true → set_before s u ≡ true
before_trans s t u h k = grind (arith, nat_tests)

before_apart : (s : List ℕ) → set_before s s ≡ false
before_apart s = grind (arith, nat_tests)

-- a glyph of one is not in the other
disjoint_has : (s t : List ℕ) (g : ℕ) → disjoint s t ≡ true → has g s ≡ true → has g t ≡ false
disjoint_has [] t g d h = false_true h
disjoint_has (x ∷ s) t g d h = elim (cases_Bool (eqb x g)) [
  | inl e ↦ (let n : has x t ≡ false = grind (arith, nat_tests) in subst (λ y. has y t ≡ false) (eqb-true x g e) n)
  | inr e ↦ (let r = disjoint_has s t g in grind (arith, nat_tests))
]

-- sets that share a glyph are the same
shared : (s t : List ℕ) (g : ℕ) → Apart s t → has g s ≡ true → has g t ≡ true → s ≡ t
shared s t g (inl e) h k = e
shared s t g (inr d) h k = false_true (sym (disjoint_has s t g d h) ∙ k)

-- of two different sets that are apart one is before the other, since sets of one length differ in their first glyph
before_total : (s t : List ℕ) → Apart s t → set_before s t ≡ false → set_before t s ≡ false → s ≡ t
before_total s t (inl e) h k = e
before_total [] [] (inr d) h k = refl
before_total [] (y ∷ t) (inr d) h k = let z : ◌≡◌ {A = ℕ} 0 1 = grind (arith, nat_tests) in absurd (omega arith)
before_total (x ∷ s) [] (inr d) h k = let z : ◌≡◌ {A = ℕ} 0 1 = grind (arith, nat_tests) in absurd (omega arith)
before_total (x ∷ s) (y ∷ t) (inr d) h k = let z : ◌≡◌ {A = ℕ} 0 1 = grind (arith, nat_tests) in absurd (omega arith)

-- ---- numbers

-- the number of a set is above those of all sets before it
rank_less : (sets : List (List ℕ)) (s t : List ℕ) → In s sets → set_before s t ≡ true → rank sets s < rank sets t
rank_less sets s t m h = count_less (λ x. set_before x s) (λ x. set_before x t) (λ x e. before_trans x s t e h) sets (in_any (λ x. not (set_before x s) && set_before x t) {x = s} sets m (rw (before_apart s) h))

rank_below : (sets : List (List ℕ)) (s : List ℕ) → In s sets → rank sets s < length sets
rank_below sets s m = let r = count_less (λ x. set_before x s) (λ x. true) (λ x e. refl) sets (in_any (λ x. not (set_before x s) && true) {x = s} sets m (rw (before_apart s))) in
    omega (arith, count_all sets)

-- different sets have different numbers
rank_exact : (sets : List (List ℕ)) (s t : List ℕ) → In s sets → In t sets → Apart s t → rank sets s ≡ rank sets t → s ≡ t
rank_exact sets s t m n a e = before_total s t a (not_before s t m e) (not_before t s n (sym e))
  where
    not_before : (s t : List ℕ) → In s sets → rank sets s ≡ rank sets t → set_before s t ≡ false
    not_before s t m e = elim (cases_Bool (set_before s t)) [ inl h ↦ (let l = rank_less sets s t m h in absurd (omega arith)) | inr h ↦ h ]

-- ---- the class of a glyph

-- it is the number of the first set that holds the glyph
abbrev class_by : List (List ℕ) → ℕ → Option (List ℕ) → ℕ
class_by sets from None = 0
class_by sets from (Some t) = from + rank sets t

class_first : (sets : List (List ℕ)) (from g : ℕ) (ss : List (List ℕ)) → class_among sets from ss g ≡ class_by sets from (first (has g) ss)
class_first sets from g [] = refl
class_first sets from g (s ∷ ss) = elim (cases_Bool (has g s)) [
  | inl h ↦ rw (h, class_among, first)
  | inr h ↦ rw (h, class_among, first) (class_first sets from g ss)
]

-- one of the sets, apart from all others
abbrev pub Known : List (List ℕ) → List ℕ → Type 0
Known sets s = In s sets × Every (Apart s) sets

module _ (sets : List (List ℕ)) (from g : ℕ) (some : (any (has g) sets ≡ true) ⊎ (0 < from)) where
  -- without a set that holds the glyph the lowest class is not 0
  class_none : first (has g) sets ≡ None → 0 < from
  class_none h = elim some [ inl e ↦ false_true (sym (none_any (has g) sets h) ∙ e) | inr l ↦ l ]

  pub class_less : class_of sets from g < length sets + from
  class_less = rw (class_first sets from g sets) (by (first (has g) sets) refl)
    where
      by : (o : Option (List ℕ)) → first (has g) sets ≡ o → class_by sets from o < length sets + from
      by None h = let l = class_none h in omega arith
      by (Some t) h = let l = rank_below sets t (first_found (has g) sets t h).0 in omega arith

  -- a set has the class of a glyph exactly if it holds the glyph
  pub class_tells : (s : List ℕ) → Known sets s → eqb (from + rank sets s) (class_of sets from g) ≡ has g s
  class_tells s k = rw (class_first sets from g sets) (by (first (has g) sets) refl (cases_Bool (has g s)))
    where
      by : (o : Option (List ℕ)) → first (has g) sets ≡ o → (has g s ≡ true) ⊎ (has g s ≡ false) → eqb (from + rank sets s) (class_by sets from o) ≡ has g s
      by None h (inl i) = false_true (sym (none_any (has g) sets h) ∙ in_any (has g) {x = s} sets k.0 i)
      by None h (inr i) = let l = class_none h in rw i (ne_eqb (from + rank sets s) 0 (λ e. omega arith))
      by (Some t) h (inl i) =
          let f = first_found (has g) sets t h in
          rw i (eq-eqb (from + rank sets s) (from + rank sets t) (ap (λ u. from + rank sets u) (shared s t g (every_in (Apart s) sets k.1 t f.0) i f.1)))
      by (Some t) h (inr i) =
          let f = first_found (has g) sets t h in
          let same : rank sets s ≡ rank sets t → s ≡ t = rank_exact sets s t k.0 f.0 (every_in (Apart s) sets k.1 t f.0) in
          rw i (ne_eqb (from + rank sets s) (from + rank sets t) (λ e. false_true (sym i ∙ (ap (has g) (same (omega arith)) ∙ f.1))))
