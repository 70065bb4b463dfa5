-- The fields of a value record that a value format names.
use Rattle.std.specs.Prelude.{ℕ, ◌/◌, ◌%◌, Bool, true, false, List, [], ◌∷◌, ◌==◌}

abbrev pub present_if : Bool → ℕ → List ℕ → List ℕ
present_if true v vs = v ∷ vs
present_if false v vs = vs

-- the lowest bit of f says whether the first field is there
abbrev pub present : ℕ → List ℕ → List ℕ
present f [] = []
present f (v ∷ vs) = present_if (f % 2 == 1) v (present (f / 2) vs)
