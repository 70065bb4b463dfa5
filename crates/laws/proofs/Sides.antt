-- One side of a class subtable: its different sets, the glyphs that they hold, and the classes that are listed for these.
use Rattle.std.proofs.Common.{◌≡◌, ℕ, true, false, not, ◌||◌, eqb, ltb, List, [], ◌∷◌, ◌++◌, map, sym, refl, ap, ◌∙◌, inl, inr, arith}
use Rattle.std.proofs.lemmas.Bool.Decides.{nat_tests}
use Rattle.std.proofs.lemmas.Bool.{cases_Bool, ltb-true}
use Rattle.spec.specs.Lists.{Every, any, has, keep, concat}
use Rattle.spec.specs.Classes.{class_among, class_of, glyphs_of, classed, class_at}
use Rattle.spec.specs.Bytes.{side}
use Rattle.list_laws.proofs.Orders.{Rises, sorted_rises, every_sorted, every_map}
use Rattle.list_laws.proofs.Within.{In}
use Rattle.list_laws.proofs.Rising.{any_sorted}
use Rattle.list_laws.proofs.Members.{every_member, sorted_has, any_is, is_any}
use Rattle.laws.specs.Conditions.{Apart, AllApart, Above, Rising}
use Rattle.laws.proofs.Finding.{numbers_order, lists_order, every_both, every_from_map}
use Rattle.laws.proofs.Ranking.{Known}

-- ---- the sets

-- the set of each element is among the different sets, and apart from the others
pub side_known : {A : Type 0} (set : A → List ℕ) (xs : List A) → AllApart (map set xs) → Every (λ x. Known (side (map set xs)) (set x)) xs
side_known set xs h =
    let sets = map set xs in
    let among = every_map {Q = λ s. In s (side sets)} (λ s i. any_is s (side sets) (sorted_has lists_order s sets (is_any s sets i))) sets (every_member sets) in
    let apart = every_map {P = λ s. Every (Apart s) sets} {Q = λ s. Every (Apart s) (side sets)} (λ s. every_sorted lists_order (Apart s) sets) sets h in
    every_from_map (Known (side sets)) set xs (every_both (λ s. In s (side sets)) (λ s. Every (Apart s) (side sets)) sets among apart)

-- ---- the glyphs

has_append : (g : ℕ) (xs ys : List ℕ) → has g (xs ++ ys) ≡ (has g xs || has g ys)
has_append g [] ys = refl
has_append g (x ∷ xs) ys = let r = has_append g xs ys in grind (arith, nat_tests)

has_concat : (g : ℕ) (sets : List (List ℕ)) → has g (concat sets) ≡ any (has g) sets
has_concat g [] = refl
has_concat g (s ∷ sets) = has_append g s (concat sets) ∙ ap (λ b. has g s || b) (has_concat g sets)

pub has_glyphs : (g : ℕ) (sets : List (List ℕ)) → has g (glyphs_of sets) ≡ any (has g) sets
has_glyphs g sets = any_sorted numbers_order (λ x. eqb x g) (λ x y. ap (λ x. eqb x g)) (concat sets) ∙ has_concat g sets

-- ---- the classes listed

abbrev listed : (ℕ → ℕ) → List ℕ → List (ℕ × ℕ)
listed f gs = keep (λ p. not (eqb p.1 0)) (map (λ g. (g, f g)) gs)

listed_at : (f : ℕ → ℕ) (g : ℕ) (gs : List ℕ) → (has g gs ≡ false → f g ≡ 0) → class_at (listed f gs) g ≡ f g
listed_at f g [] h = sym (h refl)
listed_at f g (x ∷ gs) h = let r = listed_at f g gs in let e : x ≡ g → f x ≡ f g = λ e. ap f e in grind (arith, nat_tests)

no_class : (sets : List (List ℕ)) (from g : ℕ) (ss : List (List ℕ)) → any (has g) ss ≡ false → class_among sets from ss g ≡ 0
no_class sets from g [] h = refl
no_class sets from g (s ∷ ss) h = let r = no_class sets from g ss in grind (arith, nat_tests)

pub classed_at : (sets : List (List ℕ)) (from g : ℕ) → class_at (classed sets from) g ≡ class_of sets from g
classed_at sets from g = listed_at (class_of sets from) g (glyphs_of sets) (λ h. no_class sets from g sets (sym (has_glyphs g sets) ∙ h))

listed_above : (f : ℕ → ℕ) (b : ℕ) (gs : List ℕ) → Every (λ x. ltb b x ≡ true) gs → Rises ltb gs → Above b (map (λ p. p.0) (listed f gs))
listed_above f b [] h r = tt
listed_above f b (x ∷ gs) h r = elim (cases_Bool (not (eqb (f x) 0))) [
  | inl e ↦ rw (e, keep) (ltb-true b x h.0, listed_above f x gs r.0 r.1)
  | inr e ↦ rw (e, keep) (listed_above f b gs h.1 r.1)
]

listed_rising : (f : ℕ → ℕ) (gs : List ℕ) → Rises ltb gs → Rising (map (λ p. p.0) (listed f gs))
listed_rising f [] r = tt
listed_rising f (x ∷ gs) r = elim (cases_Bool (not (eqb (f x) 0))) [
  | inl e ↦ rw (e, keep) (listed_above f x gs r.0 r.1)
  | inr e ↦ rw (e, keep) (listed_rising f gs r.1)
]

pub classed_rising : (sets : List (List ℕ)) (from : ℕ) → Rising (map (λ p. p.0) (classed sets from))
classed_rising sets from = listed_rising (class_of sets from) (glyphs_of sets) (sorted_rises numbers_order (concat sets))
