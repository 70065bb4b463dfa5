-- The fields at the front of a table.
use Rattle.std.specs.Prelude.{ℕ, ◌+◌, List, Ok, Option, Result}
use Rattle.spec.specs.Fields.{field, and_then}
use Rattle.spec.specs.Meaning.{range_search}

abbrev pub three_fields : List ℕ → ℕ → Result (ℕ × ℕ × ℕ) ℕ
three_fields bs at = and_then (field bs at) (λ a. and_then (field bs (at + 2)) (λ b. and_then (field bs (at + 4)) (λ f. Ok (a, b, f))))

-- the start and the third field of the range that holds a glyph: the count is the second field, the ranges stand behind it
abbrev pub range_of : List ℕ → ℕ → ℕ → Result (Option (ℕ × ℕ)) ℕ
range_of bs at g = and_then (field bs (at + 2)) (λ n. range_search bs g (at + 4) n)
