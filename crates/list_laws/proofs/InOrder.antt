-- Subtables stand in their order, and so does what they hold.
use Rattle.std.proofs.Common.{◌≡◌, ℕ, Bool, true, List, [], ◌∷◌, map, length, drop, refl}
use Rattle.spec.specs.Lists.{Every, same_list, list_before}
use Rattle.spec.specs.Entries.{Device}
use Rattle.spec.specs.Values.{pair_lists, built_pair, built_each}
use Rattle.spec.specs.Rules.{sections}
use Rattle.spec.specs.Kinds.{Pair, PairRule, set_of, standing_groups, standing_cells}
use Rattle.spec.specs.Build.{BuiltSingle, BuiltPair, together, subtable_of, single_subtables, formats, of_formats, pair_subtables, with_sets, class_subtable, pairs_lists, pair_build}
use Rattle.list_laws.specs.Standing.{SinglesInOrder, AllSinglesInOrder, glyphs_before, sets_before, may_precede, PairsRise, PairsInOrder, AllPairsInOrder}
use Rattle.list_laws.proofs.Orders.{Rises, every_map, every_sorted, sorted_rises}
use Rattle.list_laws.proofs.Linear.{by_key, lex, lex_linear, numbers_linear, falling_linear}
use Rattle.list_laws.proofs.Within.{in_every, every_mapped, every_kept}
use Rattle.list_laws.proofs.Rising.{keep_rises, map_rises, rises_append}
use Rattle.list_laws.proofs.Building.{every_built, built_rises}
use Rattle.list_laws.proofs.SinglesStand.{glyph_before, subtable_key, built_singles, singles_rise}
use Rattle.list_laws.proofs.PairsStand.{two_linear, two_same, pairs_rise}
use Rattle.list_laws.proofs.SetsApart.{cell_key, by_sets}
use Rattle.list_laws.proofs.PairBuild.{built_pairs, cells, class_subtables, every_class, every_subtable}

-- ---- single

subtables_in_order : (es : List BuiltSingle) → Rises glyph_before es → SinglesInOrder (single_subtables es)
subtables_in_order es rise = let o = by_key (lex_linear falling_linear numbers_linear) subtable_key in
    (sorted_rises o (map (subtable_of es) es), every_sorted o (Rises glyph_before) _ (every_mapped (Rises glyph_before) (subtable_of es) es (λ a i. keep_rises (together es a) glyph_before es rise)))

pub singles_in_order : AllSinglesInOrder
singles_in_order l ids = every_built SinglesInOrder _ _ (sections l) ids (in_every (sections l) (λ rs m i. subtables_in_order (built_singles l.devices rs i) (singles_rise l.devices rs i)))

-- ---- pair

-- what may stand in any order
any_order : {A B : Type 0} (before : B → B → Bool) (lists : A → List ℕ) (f : A → List ℕ → B) → ((x y : A) (i j : List ℕ) → before (f x i) (f y j) ≡ true) → (xs : List A) (ids : List ℕ) → Rises before (built_each lists f xs ids)
any_order before lists f h [] ids = tt
any_order before lists f h (x ∷ xs) ids = (every_built (λ y. before (f x ids) y ≡ true) lists f xs _ (in_every xs (λ y m i. h x y ids i)), any_order before lists f h xs (drop (length (lists x)) ids))

module _ (sets : List (List ℕ)) (devices : List Device) (rs : List PairRule) (ids : List ℕ) where
  precede : Rises may_precede (pair_build.subtables sets devices rs ids)
  precede = let es = built_pairs sets devices rs ids in rises_append may_precede (pair_subtables es) (class_subtables sets devices rs ids)
      (map_rises may_precede (of_formats es) _ (sorted_rises (by_key two_linear (λ f. f)) (map formats es)))
      (every_mapped (λ s. Every (λ t. may_precede s t ≡ true) (class_subtables sets devices rs ids)) (of_formats es) _ (λ f m. every_class sets devices (λ t. may_precede (of_formats es f) t ≡ true) rs ids (in_every _ (λ g n i. refl))))
      (any_order may_precede pairs_lists _ (λ x y i j. refl) (standing_groups sets rs) _)

  pairs_of_formats : (f : ℕ × ℕ) → PairsRise (of_formats (built_pairs sets devices rs ids) f)
  pairs_of_formats f = let p : BuiltPair → Bool = λ e. two_same (formats e) f in
      (keep_rises p glyphs_before _ (pairs_rise sets devices rs ids), every_map (λ e h. two_linear.equal (formats e) f h) _ (every_kept p (built_pairs sets devices rs ids)))

  cells_rise : (group : List Pair) (i : List ℕ) → PairsRise (class_subtable sets (cells sets devices group i))
  cells_rise group i = map_rises sets_before (with_sets sets) (cells sets devices group i) (built_rises (cell_key sets devices) (λ e. (set_of sets e.first, set_of sets e.second))
      pair_lists (built_pair devices) (λ r j. refl) (lex list_before same_list list_before) (standing_cells sets group) i (sorted_rises (by_sets sets devices) group))

  section_in_order : PairsInOrder (pair_build.subtables sets devices rs ids)
  section_in_order = (precede, every_subtable sets devices PairsRise rs ids (in_every _ (λ g m. cells_rise g)) pairs_of_formats)

pub pairs_in_order : AllPairsInOrder
pairs_in_order l ids = every_built PairsInOrder _ _ (sections l) ids (in_every (sections l) (λ rs m i. section_in_order l.sets l.devices rs i))
