-- The descriptions answer as the rule list does.
use Rattle.std.specs.Prelude.{◌≡◌, ℕ, List, [], ◌∷◌, ℤ}
use Rattle.spec.specs.Entries.{Delta, delta_at}
use Rattle.spec.specs.Rules.{RuleList}
use Rattle.spec.specs.Kinds.{SingleRule, PairRule}
use Rattle.spec.specs.ListAnswer.{single_answer, pair_answer}
use Rattle.spec.specs.Build.{built, single_build, pair_build, lists_to_add}
use Rattle.list_laws.specs.Says.{single_said, pair_said}

-- ids go with things, one for one in their order; there may be more ids
abbrev pub Matched : {A : Type 0} → (ℕ → A → Type 0) → List ℕ → List A → Type 0
Matched P ids [] = Unit {0}
Matched P [] (x ∷ xs) = ⊥
Matched P (k ∷ ks) (x ∷ xs) = P k x × Matched P ks xs

-- the ids hold the lists
abbrev pub Hold : (ℕ → ℕ → ℤ) → List ℕ → List (List Delta) → Type 0
Hold value ids ls = Matched (λ k l. (r : ℕ) → value k r ≡ delta_at l r) ids ls

-- THE SUBTABLES OF A SINGLE LOOKUP, tried in order, say what its rule list says: none where it says none, otherwise the same default,
-- device value at every size and delta at every region
abbrev pub SinglesAnswer : Type 0
SinglesAnswer = (value : ℕ → ℕ → ℤ) (l : RuleList SingleRule) (ids : List ℕ) (size region g : ℕ) → Hold value ids (lists_to_add single_build l)
    → single_answer l size region g ≡ single_said value size region (built single_build l ids) g

-- THE SUBTABLES OF A PAIR LOOKUP likewise
abbrev pub PairsAnswer : Type 0
PairsAnswer = (value : ℕ → ℕ → ℤ) (l : RuleList PairRule) (ids : List ℕ) (size region : ℕ) (q : ℕ × ℕ) → Hold value ids (lists_to_add pair_build l)
    → pair_answer l size region q ≡ pair_said value size region (built pair_build l ids) q
