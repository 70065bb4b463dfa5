-- The subtables of a pair lookup, tried in order, say what the rule list says.
use Rattle.std.proofs.Common.{◌≡◌, ℕ, Bool, true, false, ◌&&◌, ◌||◌, eqb, ltb, ◌⊎◌, List, [], ◌∷◌, map, reverse, length, get_or, drop, ℤ, Some, None, Option, sym, refl, ap, ◌∙◌, subst, ap₂, inl, inr}
use Rattle.spec.specs.Lists.{keep, first, last, any, has, or_else, map_some, decided, concat, sorted}
use Rattle.spec.specs.Entries.{delta_at}
use Rattle.spec.specs.Values.{ValueRecord, DeviceOrDeltas, DeviceOrVariationIndex, PairOf, empty, format, delta_lists, pair_lists, built_pair, built_each}
use Rattle.spec.specs.Rules.{RuleList, sections}
use Rattle.spec.specs.Kinds.{Pair, PairRule, glyph_rules, class_rules, standing_pairs, set_of, groups, cell_before, standing_cells, standing_groups}
use Rattle.spec.specs.ListAnswer.{Adjustment, adjustments, pair_decides, rule_or_zeros, group_decides, section_decides, pair_answer}
use Rattle.spec.specs.Build.{BuiltPair, Cell, PairSubtable, formats, formats_before, of_formats, pair_subtables, with_sets, class_subtable, pairs_lists, pair_build, lists_to_add, numbers_to_add, built, built_sections}
use Rattle.list_laws.specs.Says.{pair_says, pair_said, cell_or_zeros, built_adjustments}
use Rattle.list_laws.specs.Answering.{Hold}
use Rattle.list_laws.proofs.Orders.{Order, every_map, sorted_rises, first_sorted, false_true}
use Rattle.list_laws.proofs.Linear.{numbers_linear, lists_linear, lex_linear, by_key, both}
use Rattle.list_laws.proofs.Within.{In}
use Rattle.list_laws.proofs.Rising.{any_sorted}
use Rattle.list_laws.proofs.Members.{Any, any_map, every_all, every_member, map_member, first_found, first_none, Unique, if_kept, first_keep, kept_or_none, decided_shared, decided_append, decided_concat, decided_map, map_or_else, map_decided, map_map, last_reverse, rises_unique, sorted_has, any_mapped, first_mapped}
use Rattle.list_laws.proofs.Holding.{HoldNumbers, matched_map, hold_front, hold_back, built_first, built_any, built_decided, built_rises, record_gives}
use Rattle.list_laws.proofs.Sides.{BothApart, groups_apart}

-- ---- glyph pairs

abbrev pub pair_key : {B : Type 0} → PairOf ℕ B → ℕ × ℕ
pair_key r = (r.first, r.second)

abbrev is_pair : {B : Type 0} → ℕ × ℕ → PairOf ℕ B → Bool
is_pair q r = eqb r.first q.0 && eqb r.second q.1

abbrev pub rule_before : {B : Type 0} → PairOf ℕ B → PairOf ℕ B → Bool
rule_before a b = ltb a.first b.first || (eqb a.first b.first && ltb a.second b.second)

pub pair_order : {B : Type 0} → Order {A = PairOf ℕ B} rule_before pair_key
pair_order {B} = by_key {A = PairOf ℕ B} (lex_linear numbers_linear numbers_linear) pair_key

pair_is : {B : Type 0} (q : ℕ × ℕ) (r : PairOf ℕ B) → is_pair q r ≡ true → pair_key r ≡ q
pair_is q r e = let b = both (eqb r.first q.0) (eqb r.second q.1) e in ap₂ (λ u v. (u, v)) (numbers_linear.equal r.first q.0 b.0) (numbers_linear.equal r.second q.1 b.1)

-- the rule that stands is the first
standing_first : (q : ℕ × ℕ) (rs : List Pair) → first (is_pair q) (standing_pairs rs) ≡ first (is_pair q) rs
standing_first q rs = first_sorted pair_order (is_pair q) q (λ x y e. ap (λ k. eqb k.0 q.0 && eqb k.1 q.1) e) (reverse rs) (every_all (λ x e. pair_is q x e) (reverse rs)) ∙ last_reverse (is_pair q) rs

-- subtables of value formats share out the pairs
format_order : Order formats_before (λ (f : ℕ × ℕ). f)
format_order = by_key (lex_linear numbers_linear numbers_linear) (λ (f : ℕ × ℕ). f)

abbrev pub of_format : ℕ × ℕ → BuiltPair → Bool
of_format f e = eqb (format e.values1) f.0 && eqb (format e.values2) f.1

own_format : (e : BuiltPair) → of_format (formats e) e ≡ true
own_format e = (lex_linear numbers_linear numbers_linear).self (formats e)

module _ (es : List BuiltPair) (q : ℕ × ℕ) (unique : Unique (is_pair q) es) where
  abbrev in_format : ℕ × ℕ → Option BuiltPair
  in_format f = first (is_pair q) (keep (of_format f) es)

  each_format : (f : ℕ × ℕ) → (in_format f ≡ None) ⊎ (in_format f ≡ first (is_pair q) es)
  each_format f = go (first (is_pair q) es) (kept_or_none (of_format f) (first (is_pair q) es)) (first_keep (is_pair q) (of_format f) es unique)
    where
      go : (o : Option BuiltPair) → (if_kept (of_format f) o ≡ None) ⊎ (if_kept (of_format f) o ≡ o) → in_format f ≡ if_kept (of_format f) o → (in_format f ≡ None) ⊎ (in_format f ≡ o)
      go o (inl n) e = inl (e ∙ n)
      go o (inr n) e = inr (e ∙ n)

  one_format : (o : Option BuiltPair) → first (is_pair q) es ≡ o → Any (λ f. in_format f ≡ o) (sorted formats_before (map formats es)) ⊎ (o ≡ None)
  one_format None f = inr refl
  one_format (Some e) f = inl (any_map holds (sorted formats_before (map formats es)) (sorted_has format_order (formats e) (map formats es) (map_member formats e es (first_found (is_pair q) es e f).0)))
    where
      holds : (g : ℕ × ℕ) → g ≡ formats e → in_format g ≡ Some e
      holds g s = first_keep (is_pair q) (of_format g) es unique ∙ (ap (if_kept (of_format g)) f ∙ ap {B = Option BuiltPair} (λ b. elim b [ true ↦ Some e | false ↦ None ]) (subst (λ k. of_format k e ≡ true) (sym s) (own_format e)))

  formats_share : decided in_format (sorted formats_before (map formats es)) ≡ first (is_pair q) es
  formats_share = decided_shared in_format (first (is_pair q) es) (sorted formats_before (map formats es)) (every_all each_format (sorted formats_before (map formats es))) (one_format (first (is_pair q) es) refl)

-- ---- cells

module _ (sets : List (List ℕ)) where
  abbrev pub cell_key : Pair → List ℕ × List ℕ
  cell_key r = (set_of sets r.first, set_of sets r.second)

  pub cell_order : Order (cell_before sets) cell_key
  cell_order = by_key (lex_linear lists_linear lists_linear) cell_key

  module _ (q : ℕ × ℕ) where
    abbrev first_holds : Pair → Bool
    first_holds r = has q.0 (set_of sets r.first)

    abbrev both_hold : Pair → Bool
    both_hold r = has q.0 (set_of sets r.first) && has q.1 (set_of sets r.second)

    -- rules of a group whose sets hold both glyphs have the same two sets
    one_cell : (group : List Pair) → BothApart sets group → (a b : Pair) → In a group → In b group → both_hold a ≡ true → both_hold b ≡ true → cell_key a ≡ cell_key b
    one_cell group w a b m n e f =
        let x = both (has q.0 (set_of sets a.first)) (has q.1 (set_of sets a.second)) e in
        let y = both (has q.0 (set_of sets b.first)) (has q.1 (set_of sets b.second)) f in
        ap₂ (λ u v. (u, v)) (w.0 a b m n q.0 x.0 y.0) (w.1 a b m n q.1 x.1 y.1)

    -- the cell that stands is by the last rule
    cell_last : (group : List Pair) → BothApart sets group → first both_hold (standing_cells sets group) ≡ last both_hold group
    cell_last group w = go (first both_hold group) refl
      where
        by_sets : (x y : Pair) → cell_key x ≡ cell_key y → both_hold x ≡ both_hold y
        by_sets x y e = ap (λ k. has q.0 k.0 && has q.1 k.1) e

        go : (o : Option Pair) → first both_hold group ≡ o → first both_hold (standing_cells sets group) ≡ last both_hold group
        go None e = first_sorted cell_order both_hold ([], []) by_sets group (every_map (λ x f g. false_true (sym f ∙ g)) group (first_none both_hold group e))
        go (Some r) e = let m = first_found both_hold group r e in
            first_sorted cell_order both_hold (cell_key r) by_sets group (every_map (λ x n f. one_cell group w x r n m.0 f m.1) group (every_member group))

    cell_any : (group : List Pair) → any first_holds (standing_cells sets group) ≡ any first_holds group
    cell_any group = any_sorted cell_order first_holds (λ x y e. ap (λ k. has q.0 k.0) e) group

    -- what the cells of a group decide
    abbrev cells_decide : List Pair → Option (ValueRecord DeviceOrDeltas × ValueRecord DeviceOrDeltas)
    cells_decide cells = elim (any first_holds cells) [ true ↦ Some (rule_or_zeros (first both_hold cells)) | false ↦ None ]

    group_cells : (group : List Pair) → BothApart sets group → group_decides sets q.0 q.1 group ≡ cells_decide (standing_cells sets group)
    group_cells group w = ap₂ {C = Option (ValueRecord DeviceOrDeltas × ValueRecord DeviceOrDeltas)} (λ b o. elim b [ true ↦ Some (rule_or_zeros o) | false ↦ None ]) (sym (cell_any group)) (sym (cell_last group w))

-- ---- what records give

module _ (value : ℕ → ℕ → ℤ) (l : RuleList PairRule) (size region : ℕ) (q : ℕ × ℕ) where
  abbrev Told : Type 0
  Told = List (List Adjustment)

  abbrev told : ValueRecord DeviceOrDeltas × ValueRecord DeviceOrDeltas → Told
  told v = adjustments l size region v.0 ∷ adjustments l size region v.1 ∷ []

  abbrev said : ValueRecord DeviceOrVariationIndex × ValueRecord DeviceOrVariationIndex → Told
  said v = built_adjustments value size region v.0 ∷ built_adjustments value size region v.1 ∷ []

  pair_gives : (r : Pair) (ids : List ℕ) → HoldNumbers value l.deltas ids (pair_lists r) → told (r.values1, r.values2) ≡ said ((built_pair l.devices r ids).values1, (built_pair l.devices r ids).values2)
  pair_gives r ids h = ap₂ (λ u v. u ∷ v ∷ [])
      (record_gives value l size region r.values1 ids (hold_front value l.deltas ids (delta_lists r.values1) (delta_lists r.values2) h))
      (record_gives value l size region r.values2 (drop (length (delta_lists r.values1)) ids) (hold_back value l.deltas ids (delta_lists r.values1) (delta_lists r.values2) h))

  -- ---- glyph pairs of a section

  pairs_answer_section : (rs : List Pair) (ids : List ℕ) → HoldNumbers value l.deltas ids (pairs_lists (standing_pairs rs))
      → map_some told (pair_decides q.0 q.1 rs) ≡ decided (λ o. map_some said (pair_says q o)) (pair_subtables (built_each pair_lists (built_pair l.devices) (standing_pairs rs) ids))
  pairs_answer_section rs ids h =
      let es = built_each pair_lists (built_pair l.devices) (standing_pairs rs) ids in
      let rises = built_rises pair_lists (built_pair l.devices) rule_before rule_before (λ x y i j. refl) (standing_pairs rs) ids (sorted_rises pair_order (reverse rs)) in
      let unique : Unique (is_pair q) es = rises_unique pair_order (is_pair q) (λ x y e f. pair_is q x e ∙ sym (pair_is q y f)) es rises in
      let same = built_first value l.deltas pair_lists (built_pair l.devices) (λ r. told (r.values1, r.values2)) (λ e. said (e.values1, e.values2)) (is_pair q) (is_pair q) (λ r i. refl) pair_gives (standing_pairs rs) ids h in
      map_map told (λ r. (r.values1, r.values2)) (first (is_pair q) rs)
      ∙ (ap (map_some (λ r. told (r.values1, r.values2))) (sym (standing_first q rs))
      ∙ (same
      ∙ (ap (map_some (λ e. said (e.values1, e.values2))) (sym (formats_share es q unique))
      ∙ (map_decided (λ e. said (e.values1, e.values2)) (in_format es q unique) (sorted formats_before (map formats es))
      ∙ decided_map (λ f. map_some (λ e. said (e.values1, e.values2)) (in_format es q unique f)) (λ o. map_some said (pair_says q o)) (of_formats es) (sorted formats_before (map formats es))
      (every_all (λ f. sym (map_map said (λ e. (e.values1, e.values2)) (in_format es q unique f))) (sorted formats_before (map formats es)))))))

  -- ---- the cells of a group

  abbrev value_or : Option Told → Told → Told
  value_or None z = z
  value_or (Some x) z = x

  told_zeros : (o : Option Pair) → told (rule_or_zeros o) ≡ value_or (map_some (λ r. told (r.values1, r.values2)) o) (told (empty, empty))
  told_zeros None = refl
  told_zeros (Some r) = refl

  said_zeros : (o : Option Cell) → said (cell_or_zeros o) ≡ value_or (map_some (λ e. said (e.values1, e.values2)) o) (said (empty, empty))
  said_zeros None = refl
  said_zeros (Some e) = refl

  abbrev entries : List Pair → List ℕ → List BuiltPair
  entries cells ids = built_each pair_lists (built_pair l.devices) cells ids

  cells_answer : (cells : List Pair) (ids : List ℕ) → HoldNumbers value l.deltas ids (pairs_lists cells)
      → map_some told (cells_decide l.sets q cells) ≡ map_some said (pair_says q (class_subtable l.sets (built_each pair_lists (built_pair l.devices) cells ids)))
  cells_answer cells ids h = go (any (first_holds l.sets q) cells) (any (λ e. has q.0 e.first) (map (with_sets l.sets) (entries cells ids))) same_any
    where
      same_any : any (λ e. has q.0 e.first) (map (with_sets l.sets) (entries cells ids)) ≡ any (first_holds l.sets q) cells
      same_any = any_mapped (λ e. has q.0 e.first) (with_sets l.sets) (entries cells ids) ∙ built_any value l.deltas pair_lists (built_pair l.devices) (first_holds l.sets q) (λ e. has q.0 (set_of l.sets e.first)) (λ r i. refl) cells ids

      same_first : map_some (λ r. told (r.values1, r.values2)) (first (both_hold l.sets q) cells) ≡ map_some (λ e. said (e.values1, e.values2)) (first (λ e. has q.0 e.first && has q.1 e.second) (map (with_sets l.sets) (entries cells ids)))
      same_first = built_first value l.deltas pair_lists (built_pair l.devices) (λ r. told (r.values1, r.values2)) (λ e. said (e.values1, e.values2)) (both_hold l.sets q) (λ e. has q.0 (set_of l.sets e.first) && has q.1 (set_of l.sets e.second)) (λ r i. refl) pair_gives cells ids h
          ∙ (sym (map_map (λ e. said (e.values1, e.values2)) (with_sets l.sets) (first (λ e. has q.0 (set_of l.sets e.first) && has q.1 (set_of l.sets e.second)) (entries cells ids)))
          ∙ ap (map_some (λ e. said (e.values1, e.values2))) (sym (first_mapped (λ e. has q.0 e.first && has q.1 e.second) (with_sets l.sets) (entries cells ids))))

      go : (b c : Bool) → c ≡ b → map_some told (elim b [ true ↦ Some (rule_or_zeros (first (both_hold l.sets q) cells)) | false ↦ None ])
          ≡ map_some said (elim c [ true ↦ Some (cell_or_zeros (first (λ e. has q.0 e.first && has q.1 e.second) (map (with_sets l.sets) (entries cells ids)))) | false ↦ None ])
      go true true e = ap {B = Option Told} Some (told_zeros (first (both_hold l.sets q) cells) ∙ (ap (λ o. value_or o (told (empty, empty))) same_first ∙ sym (said_zeros (first (λ e. has q.0 e.first && has q.1 e.second) (map (with_sets l.sets) (entries cells ids))))))
      go true false e = false_true e
      go false true e = false_true (sym e)
      go false false e = refl

  -- ---- sections, then the lookup

  section_answers : (rs : List PairRule) (ids : List ℕ) → HoldNumbers value l.deltas ids (pair_build.lists l.sets rs)
      → map_some told (section_decides l.sets q.0 q.1 rs) ≡ decided (λ o. map_some said (pair_says q o)) (pair_build.subtables l.sets l.devices rs ids)
  section_answers rs ids h =
      let pairs = pairs_lists (standing_pairs (glyph_rules rs)) in
      let cells = concat (map pairs_lists (standing_groups l.sets rs)) in
      let later = drop (length pairs) ids in
      let t : PairSubtable → Option Told = λ o. map_some said (pair_says q o) in
      let made = λ (g : List Pair) (i : List ℕ). class_subtable l.sets (built_each pair_lists (built_pair l.devices) g i) in
      map_or_else told (pair_decides q.0 q.1 (glyph_rules rs)) (decided (group_decides l.sets q.0 q.1) (groups l.sets (class_rules rs)))
      ∙ (ap₂ or_else (pairs_answer_section (glyph_rules rs) ids (hold_front value l.deltas ids pairs cells h))
      (map_decided told (group_decides l.sets q.0 q.1) (groups l.sets (class_rules rs))
      ∙ (decided_map (λ g. map_some told (group_decides l.sets q.0 q.1 g)) (λ g. map_some told (cells_decide l.sets q g)) (standing_cells l.sets) (groups l.sets (class_rules rs))
      (every_map (λ g w. ap (map_some told) (group_cells l.sets q g w)) (groups l.sets (class_rules rs)) (groups_apart l.sets (class_rules rs)))
      ∙ built_decided value l.deltas pairs_lists made (λ g. map_some told (cells_decide l.sets q g)) t cells_answer (standing_groups l.sets rs) later (hold_back value l.deltas ids pairs cells h)))
      ∙ sym (decided_append t (pair_subtables (built_each pair_lists (built_pair l.devices) (standing_pairs (glyph_rules rs)) ids)) (built_each pairs_lists made (standing_groups l.sets rs) later)))

  pub pairs_answer : (ids : List ℕ) → Hold value ids (lists_to_add pair_build l) → pair_answer l size region q ≡ pair_said value size region (built pair_build l ids) q
  pairs_answer ids h =
      map_decided told (section_decides l.sets q.0 q.1) (sections l)
      ∙ (built_decided value l.deltas (pair_build.lists l.sets) (pair_build.subtables l.sets l.devices) (λ rs. map_some told (section_decides l.sets q.0 q.1 rs)) (decided (λ o. map_some said (pair_says q o))) section_answers (sections l) ids (matched_map (λ k d. (r : ℕ) → value k r ≡ delta_at d r) (λ n. get_or l.deltas n []) ids (numbers_to_add pair_build l) h)
      ∙ (sym (decided_concat (λ o. map_some said (pair_says q o)) (built_sections pair_build l ids))
      ∙ sym (map_decided said (pair_says q) (built pair_build l ids))))
