-- How standing rules and groups grow by one more rule: what an insertion does to them.
use Rattle.std.specs.Prelude.{◌≡◌, ℕ, true, false, ltb, List, [], ◌∷◌, ◌++◌, None, ◌==◌, nat_lt, slice_index}
use Rattle.spec.specs.Lists.{inserted, replaced, has, same_list, list_before}
use Rattle.spec.specs.Entries.{set_fault}
use Rattle.spec.specs.Kinds.{SingleRule, Pair, standing_singles, standing_pairs, pair_before, joins, groups, cell_before, standing_cells}

-- of single rules the last for a glyph stands
abbrev pub SinglesGrow : Type 0
SinglesGrow = (rs : List SingleRule) (r : SingleRule) → standing_singles (rs ++ (r ∷ [])) ≡ replaced (λ a b. ltb a.glyph b.glyph) r (standing_singles rs)

-- of glyph pair rules the first for a pair stands
abbrev pub PairsGrow : Type 0
PairsGrow = (rs : List Pair) (r : Pair) → standing_pairs (rs ++ (r ∷ [])) ≡ inserted pair_before r (standing_pairs rs)

-- of class rules of a group the last for the same two sets stands
abbrev pub CellsGrow : Type 0
CellsGrow = (sets : List (List ℕ)) (group : List Pair) (r : Pair) → standing_cells sets (group ++ (r ∷ [])) ≡ replaced (cell_before sets) r (standing_cells sets group)

-- a class rule joins the last group, or opens the next
abbrev pub grown : List (List ℕ) → Pair → List (List Pair) → List (List Pair)
grown sets r [] = (r ∷ []) ∷ []
grown sets r (g ∷ []) = elim (joins sets g r) [ true ↦ (g ++ (r ∷ [])) ∷ [] | false ↦ g ∷ (r ∷ []) ∷ [] ]
grown sets r (g ∷ h ∷ gs) = g ∷ grown sets r (h ∷ gs)

abbrev pub GroupsGrow : Type 0
GroupsGrow = (sets : List (List ℕ)) (rs : List Pair) (r : Pair) → groups sets (rs ++ (r ∷ [])) ≡ grown sets r (groups sets rs)

-- the lowest glyph of a set
abbrev pub lowest : List ℕ → ℕ
lowest s = slice_index s 0

-- sets that are the same or share no glyph, none of them empty, are told apart and put in set order by their lowest glyphs
abbrev pub LowestTells : Type 0
LowestTells = (s t : List ℕ) → set_fault s ≡ None → set_fault t ≡ None → ((g : ℕ) → has g s ≡ true → has g t ≡ true → s ≡ t)
    → (list_before s t ≡ nat_lt (lowest s) (lowest t)) × (same_list s t ≡ (lowest s == lowest t))
