-- In every class subtable different sets of one side share no glyph and no class number.
use Rattle.std.proofs.Common.{◌≡◌, ℕ, true, List, map, sym, refl, ◌∙◌, subst}
use Rattle.spec.specs.Lists.{Every, has}
use Rattle.spec.specs.Entries.{Device}
use Rattle.spec.specs.Values.{pair_lists, built_pair}
use Rattle.spec.specs.Rules.{sections}
use Rattle.spec.specs.Kinds.{Pair, PairRule, class_rules, set_of, cell_before, standing_cells}
use Rattle.spec.specs.Build.{BuiltPair, Cell, with_sets, class_subtable, pair_build}
use Rattle.spec.specs.Bytes.{side}
use Rattle.spec.specs.Promise.{SetsApart, ClassesApart}
use Rattle.list_laws.specs.Standing.{AllSetsApart}
use Rattle.list_laws.proofs.Orders.{Order, every_map, every_sorted, sorted_rises}
use Rattle.list_laws.proofs.Linear.{by_key, lex_linear, lists_linear}
use Rattle.list_laws.proofs.Within.{In, every_in, in_every, every_over}
use Rattle.list_laws.proofs.Building.{every_built, built_every}
use Rattle.list_laws.proofs.PairBuild.{cells, every_subtable}
use Rattle.list_laws.proofs.Sides.{Apart, BothApart, groups_apart}
use Rattle.list_laws.proofs.Ranks.{sets_apart}

module _ (sets : List (List ℕ)) (devices : List Device) where
  abbrev pub cell_key : Pair → List ℕ × List ℕ
  cell_key c = (set_of sets c.first, set_of sets c.second)

  pub by_sets : Order (cell_before sets) cell_key
  by_sets = by_key (lex_linear lists_linear lists_linear) cell_key

  -- one side: of a rule, of what is built of it, of its cell
  module _ (of_rule : Pair → ℕ) (of_built : BuiltPair → ℕ) (of_cell : Cell → List ℕ)
      (keeps : (r : Pair) (ids : List ℕ) → of_built (built_pair devices r ids) ≡ of_rule r) (gets : (e : BuiltPair) → of_cell (with_sets sets e) ≡ set_of sets (of_built e))
      (group : List Pair) (ids : List ℕ) where
    abbrev Of : List ℕ → Type 0
    Of s = (c : Pair) × In c group × (s ≡ set_of sets (of_rule c))

    -- the sets of a side are those that rules of the group name
    of_group : Every Of (side (map of_cell (map (with_sets sets) (cells sets devices group ids))))
    of_group =
        let a = every_sorted by_sets (λ c. Of (set_of sets (of_rule c))) group (in_every group (λ c i. (c, i, refl))) in
        let b = built_every of_rule of_built pair_lists (built_pair devices) keeps (λ n. Of (set_of sets n)) (standing_cells sets group) ids a in
        let c = every_map (λ e h. subst Of (sym (gets e)) h) (cells sets devices group ids) b in
        every_sorted (by_key lists_linear (λ s. s)) Of _ (every_over Of of_cell _ (every_over (λ y. Of (of_cell y)) (with_sets sets) (cells sets devices group ids) c))

    side_apart : Apart (λ c. set_of sets (of_rule c)) group → (from : ℕ) → SetsApart (side (map of_cell (map (with_sets sets) (cells sets devices group ids)))) from
    side_apart old from = let ss = map of_cell (map (with_sets sets) (cells sets devices group ids)) in sets_apart (side ss) apart (sorted_rises (by_key lists_linear (λ s. s)) ss) from
      where
        apart : Apart (λ s. s) (side (map of_cell (map (with_sets sets) (cells sets devices group ids))))
        apart s t i j g h k = let (c, m, p) = every_in Of _ of_group s i in let (d, n, q) = every_in Of _ of_group t j in
            p ∙ old c d m n g (subst (λ u. has g u ≡ true) p h) (subst (λ u. has g u ≡ true) q k) ∙ sym q

  class_apart : (group : List Pair) → BothApart sets group → (ids : List ℕ) → ClassesApart (class_subtable sets (cells sets devices group ids))
  class_apart group old ids = (
    side_apart (λ c. c.first) (λ e. e.first) (λ e. e.first) (λ r i. refl) (λ e. refl) group ids old.0 0,
    side_apart (λ c. c.second) (λ e. e.second) (λ e. e.second) (λ r i. refl) (λ e. refl) group ids old.1 1,
  )

  pub section_apart : (rs : List PairRule) (ids : List ℕ) → Every ClassesApart (pair_build.subtables sets devices rs ids)
  section_apart rs ids = every_subtable sets devices ClassesApart rs ids (every_map class_apart _ (groups_apart sets (class_rules rs))) (λ f. tt)

pub classes_apart : AllSetsApart
classes_apart l ids = every_built (Every ClassesApart) _ _ (sections l) ids (in_every (sections l) (λ rs i. section_apart l.sets l.devices rs))
