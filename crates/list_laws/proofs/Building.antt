-- Things built one after the other keep their keys; and what holds of each section, built, holds section by section.
use Rattle.std.proofs.Common.{◌≡◌, ℕ, Bool, true, ◌||◌, List, [], ◌∷◌, length, drop, sym, refl, subst, ap₂}
use Rattle.spec.specs.Lists.{Every, any}
use Rattle.spec.specs.Values.{built_each}
use Rattle.spec.specs.Promise.{EachSection}
use Rattle.list_laws.proofs.Orders.{Rises, every_map}

-- what is built has a property, whatever its ids
pub every_built : {A B : Type 0} (P : B → Type 0) (lists : A → List ℕ) (f : A → List ℕ → B) (xs : List A) (ids : List ℕ) → Every (λ x. (i : List ℕ) → P (f x i)) xs → Every P (built_each lists f xs ids)
every_built P lists f [] ids h = tt
every_built P lists f (x ∷ xs) ids h = (h.0 ids, every_built P lists f xs (drop (length (lists x)) ids) h.1)

module _ {A B K : Type 0} (key : A → K) (key' : B → K) (lists : A → List ℕ) (f : A → List ℕ → B) (keeps : (x : A) (ids : List ℕ) → key' (f x ids) ≡ key x) where
  pub built_any : (p : K → Bool) (xs : List A) (ids : List ℕ) → any (λ y. p (key' y)) (built_each lists f xs ids) ≡ any (λ x. p (key x)) xs
  built_any p [] ids = refl
  built_any p (x ∷ xs) ids = ap₂ (λ k b. p k || b) (keeps x ids) (built_any p xs (drop (length (lists x)) ids))

  pub built_every : (P : K → Type 0) (xs : List A) (ids : List ℕ) → Every (λ x. P (key x)) xs → Every (λ y. P (key' y)) (built_each lists f xs ids)
  built_every P xs ids h = every_built (λ y. P (key' y)) lists f xs ids (every_map (λ x p i. subst P (sym (keeps x i)) p) xs h)

  pub built_rises : (lt : K → K → Bool) (xs : List A) (ids : List ℕ) → Rises (λ x y. lt (key x) (key y)) xs → Rises (λ x y. lt (key' x) (key' y)) (built_each lists f xs ids)
  built_rises lt [] ids h = tt
  built_rises lt (x ∷ xs) ids h = (built_every (λ k. lt (key' (f x ids)) k ≡ true) xs _ (subst (λ j. Every (λ y. lt j (key y) ≡ true) xs) (sym (keeps x ids)) h.0), built_rises lt xs _ h.1)

pub each_section : {R O : Type 0} (P : List R → List O → Type 0) (lists : List R → List ℕ) (f : List R → List ℕ → List O) → ((rs : List R) (ids : List ℕ) → P rs (f rs ids))
    → (ss : List (List R)) (ids : List ℕ) → EachSection P ss (built_each lists f ss ids)
each_section P lists f h [] ids = tt
each_section P lists f h (rs ∷ ss) ids = (h rs ids, each_section P lists f h ss (drop (length (lists rs)) ids))
