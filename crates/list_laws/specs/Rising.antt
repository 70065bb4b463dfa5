-- A list that stands in an order.
use Rattle.std.specs.Prelude.{◌≡◌, Bool, true, List, [], ◌∷◌}
use Rattle.spec.specs.Lists.{Every}

-- each stands before all behind it
abbrev pub Rises : {A : Type 0} → (A → A → Bool) → List A → Type 0
Rises before [] = Unit {0}
Rises before (x ∷ xs) = Every (λ y. before x y ≡ true) xs × Rises before xs
