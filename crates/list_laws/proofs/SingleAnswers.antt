-- The subtables of a single lookup, tried in order, say what the rule list says.
use Rattle.std.proofs.Common.{◌≡◌, ℕ, Bool, true, false, eqb, ltb, ◌⊎◌, List, [], ◌∷◌, map, length, get_or, ℤ, Some, None, Option, sym, refl, ap, ◌∙◌, subst, inl, inr}
use Rattle.spec.specs.Lists.{Every, first, last, map_some, decided, concat}
use Rattle.spec.specs.Entries.{delta_at}
use Rattle.spec.specs.Values.{ValueRecord, DeviceOrDeltas, DeviceOrVariationIndex, SingleOf, single_lists, built_single, built_each}
use Rattle.spec.specs.Rules.{RuleList, sections}
use Rattle.spec.specs.Kinds.{SingleRule, standing_singles}
use Rattle.spec.specs.ListAnswer.{Adjustment, adjustments, single_decides, single_answer}
use Rattle.spec.specs.Build.{BuiltSingle, together, subtable_of, subtable_before, first_glyph, single_subtables, single_build, lists_to_add, numbers_to_add, built, built_sections}
use Rattle.list_laws.specs.Says.{single_says, single_said, built_adjustments}
use Rattle.list_laws.specs.Answering.{Hold}
use Rattle.list_laws.proofs.Orders.{Order, every_map, every_sorted, sorted_rises, first_sorted}
use Rattle.list_laws.proofs.Linear.{numbers_linear, falling_linear, lex_linear, by_key}
use Rattle.list_laws.proofs.Together.{together_is_equivalence}
use Rattle.list_laws.proofs.Within.{In, every_keep, every_kept, every_over, same_tests}
use Rattle.list_laws.proofs.Members.{Any, any_map, any_both, every_all, every_member, map_member, first_found, Unique, if_kept, first_keep, kept_or_none, keep_member, keep_same, unique_same, decided_shared, decided_concat, decided_same, map_decided, map_map, rises_unique, sorted_has}
use Rattle.list_laws.proofs.Holding.{HoldNumbers, matched_map, built_first, built_decided, built_rises, record_gives}

abbrev has_glyph : {B : Type 0} → ℕ → SingleOf B → Bool
has_glyph g e = eqb e.glyph g

pub rule_order : {B : Type 0} → Order {A = SingleOf B} (λ x y. ltb x.glyph y.glyph) (λ x. x.glyph)
rule_order {B} = by_key {A = SingleOf B} numbers_linear (λ x. x.glyph)

same_glyph : {B : Type 0} (g : ℕ) (x y : SingleOf B) → has_glyph g x ≡ true → has_glyph g y ≡ true → x.glyph ≡ y.glyph
same_glyph g x y e f = numbers_linear.equal x.glyph g e ∙ sym (numbers_linear.equal y.glyph g f)

-- the rule that stands is the last
standing_last : (g : ℕ) (rs : List SingleRule) → first (has_glyph g) (standing_singles rs) ≡ last (has_glyph g) rs
standing_last g rs = first_sorted rule_order (has_glyph g) g (λ x y e. ap (λ k. eqb k g) e) rs (every_all (λ x e. numbers_linear.equal x.glyph g e) rs)

-- ---- subtables share out the entries

abbrev pub subtable_key : List BuiltSingle → ℕ × ℕ
subtable_key x = (length x, first_glyph x)

pub subtable_order : Order subtable_before subtable_key
subtable_order = by_key (lex_linear falling_linear numbers_linear) subtable_key

module _ (es : List BuiltSingle) (distinct : (g : ℕ) → Unique (has_glyph g) es) where
  -- the first entry of a subtable is there, and together with the glyph whose subtable it is
  abbrev Heads : BuiltSingle → BuiltSingle → Type 0
  Heads a c = In c es × (together es a c ≡ true) × (first_glyph (subtable_of es a) ≡ c.glyph)

  head_of : (a : BuiltSingle) → In a es → (c : BuiltSingle) × Heads a c
  head_of a m = go (subtable_of es a) refl (keep_member (together es a) a es m ((together_is_equivalence es).reflexive a)) (every_keep (together es a) (λ c. In c es) es (every_member es)) (every_kept (together es a) es)
    where
      go : (s : List BuiltSingle) → subtable_of es a ≡ s → In a s → Every (λ c. In c es) s → Every (λ c. together es a c ≡ true) s → (c : BuiltSingle) × Heads a c
      go [] e k w v = absurd k
      go (c ∷ s) e k w v = (c, (w.0, v.0, ap first_glyph e))

  -- subtables with the same first glyph are one
  same_subtable : (a b : BuiltSingle) → In a es → In b es → first_glyph (subtable_of es a) ≡ first_glyph (subtable_of es b) → subtable_of es a ≡ subtable_of es b
  same_subtable a b m n e =
      let eq = together_is_equivalence es in let c = head_of a m in let d = head_of b n in
      let g : c.0.glyph ≡ d.0.glyph = sym c.1.2 ∙ (e ∙ d.1.2) in
      let s : c.0 ≡ d.0 = unique_same (has_glyph d.0.glyph) c.0 d.0 es (distinct d.0.glyph) c.1.0 d.1.0 (subst (λ k. eqb k d.0.glyph ≡ true) (sym g) (numbers_linear.self d.0.glyph)) (numbers_linear.self d.0.glyph) in
      let t : together es a b ≡ true = eq.transitive a d.0 b (subst (λ x. together es a x ≡ true) s c.1.1) (eq.symmetric b d.0 d.1.1) in
      keep_same (together es a) (together es b) es (every_all (λ x. swap x t (eq.symmetric a b t)) es)
    where
      swap : (x : BuiltSingle) → together es a b ≡ true → together es b a ≡ true → together es a x ≡ together es b x
      swap x t u = let eq = together_is_equivalence es in same_tests (together es a x) (together es b x) (λ h. eq.transitive b a x u h) (λ h. eq.transitive a b x t h)

  abbrev IsSubtable : List BuiltSingle → Type 0
  IsSubtable y = (a : BuiltSingle) × In a es × (y ≡ subtable_of es a)

  all_subtables : Every IsSubtable (single_subtables es)
  all_subtables = every_sorted subtable_order IsSubtable (map (subtable_of es) es) (every_over IsSubtable (subtable_of es) es (every_map (λ a m. (a, m, refl)) es (every_member es)))

  module _ (g : ℕ) where
    -- a subtable has the entry of the glyph, or none
    each : (y : List BuiltSingle) → IsSubtable y → (first (has_glyph g) y ≡ None) ⊎ (first (has_glyph g) y ≡ first (has_glyph g) es)
    each y s = go (first (has_glyph g) es) (kept_or_none (together es s.0) (first (has_glyph g) es)) (ap (first (has_glyph g)) s.2 ∙ first_keep (has_glyph g) (together es s.0) es (distinct g))
      where
        go : (o : Option BuiltSingle) → (if_kept (together es s.0) o ≡ None) ⊎ (if_kept (together es s.0) o ≡ o) → first (has_glyph g) y ≡ if_kept (together es s.0) o → (first (has_glyph g) y ≡ None) ⊎ (first (has_glyph g) y ≡ o)
        go o (inl n) e = inl (e ∙ n)
        go o (inr n) e = inr (e ∙ n)

    -- and one of them has it
    one_has : (o : Option BuiltSingle) → first (has_glyph g) es ≡ o → Any (λ y. first (has_glyph g) y ≡ o) (single_subtables es) ⊎ (o ≡ None)
    one_has None f = inr refl
    one_has (Some e) f =
        let m = (first_found (has_glyph g) es e f).0 in
        let there = sorted_has subtable_order (subtable_key (subtable_of es e)) (map (subtable_of es) es) (any_map (λ y s. ap subtable_key s) (map (subtable_of es) es) (map_member (subtable_of es) e es m)) in
        inl (any_map (λ y s. holds y m s) (single_subtables es) (any_both IsSubtable (λ y. subtable_key y ≡ subtable_key (subtable_of es e)) (single_subtables es) all_subtables there))
      where
        holds : (y : List BuiltSingle) → In e es → IsSubtable y × (subtable_key y ≡ subtable_key (subtable_of es e)) → first (has_glyph g) y ≡ Some e
        holds y m s =
            let fg : first_glyph (subtable_of es s.0.0) ≡ first_glyph (subtable_of es e) = sym (ap first_glyph s.0.2) ∙ ap (λ k. k.1) s.1 in
            ap (first (has_glyph g)) (s.0.2 ∙ same_subtable s.0.0 e s.0.1 m fg)
            ∙ (first_keep (has_glyph g) (together es e) es (distinct g) ∙ (ap (if_kept (together es e)) f ∙ ap {B = Option BuiltSingle} (λ b. elim b [ true ↦ Some e | false ↦ None ]) ((together_is_equivalence es).reflexive e)))

    pub shared : decided (first (has_glyph g)) (single_subtables es) ≡ first (has_glyph g) es
    shared = decided_shared (first (has_glyph g)) (first (has_glyph g) es) (single_subtables es) (every_map each (single_subtables es) all_subtables) (one_has (first (has_glyph g) es) refl)

-- ---- sections, then the lookup

module _ (value : ℕ → ℕ → ℤ) (l : RuleList SingleRule) (size region g : ℕ) where
  abbrev told : ValueRecord DeviceOrDeltas → List (List Adjustment)
  told v = adjustments l size region v ∷ []

  abbrev said : ValueRecord DeviceOrVariationIndex → List (List Adjustment)
  said v = built_adjustments value size region v ∷ []

  section_answers : (rs : List SingleRule) (ids : List ℕ) → HoldNumbers value l.deltas ids (concat (map single_lists (standing_singles rs)))
      → map_some told (single_decides g rs) ≡ decided (λ o. map_some said (single_says g o)) (single_build.subtables l.sets l.devices rs ids)
  section_answers rs ids h =
      let es = built_each single_lists (built_single l.devices) (standing_singles rs) ids in
      let rises = built_rises single_lists (built_single l.devices) (λ x y. ltb x.glyph y.glyph) (λ x y. ltb x.glyph y.glyph) (λ x y i j. refl) (standing_singles rs) ids (sorted_rises rule_order rs) in
      let distinct : (k : ℕ) → Unique (has_glyph k) es = λ k. rises_unique rule_order (has_glyph k) (same_glyph k) es rises in
      let same = built_first value l.deltas single_lists (built_single l.devices) (λ r. told r.values) (λ e. said e.values) (has_glyph g) (has_glyph g) (λ r i. refl) (λ r i k. ap (λ z. z ∷ []) (record_gives value l size region r.values i k)) (standing_singles rs) ids h in
      map_map told (λ r. r.values) (last (has_glyph g) rs)
      ∙ (ap (map_some (λ r. told r.values)) (sym (standing_last g rs))
      ∙ (same
      ∙ (ap (map_some (λ e. said e.values)) (sym (shared es distinct g))
      ∙ (map_decided (λ e. said e.values) (first (has_glyph g)) (single_subtables es)
      ∙ decided_same (λ o. map_some (λ e. said e.values) (first (has_glyph g) o)) (λ o. map_some said (single_says g o)) (λ o. sym (map_map said (λ e. e.values) (first (has_glyph g) o))) (single_subtables es)))))

  pub singles_answer : (ids : List ℕ) → Hold value ids (lists_to_add single_build l) → single_answer l size region g ≡ single_said value size region (built single_build l ids) g
  singles_answer ids h =
      map_decided told (single_decides g) (sections l)
      ∙ (built_decided value l.deltas (single_build.lists l.sets) (single_build.subtables l.sets l.devices) (λ rs. map_some told (single_decides g rs)) (decided (λ o. map_some said (single_says g o))) section_answers (sections l) ids (matched_map (λ k d. (r : ℕ) → value k r ≡ delta_at d r) (λ n. get_or l.deltas n []) ids (numbers_to_add single_build l) h)
      ∙ (sym (decided_concat (λ o. map_some said (single_says g o)) (built_sections single_build l ids))
      ∙ sym (map_decided said (single_says g) (built single_build l ids))))
