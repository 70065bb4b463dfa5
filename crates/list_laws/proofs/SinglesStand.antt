-- Each glyph with a single rule stands in one subtable of its section, once.
use Rattle.std.proofs.Common.{◌≡◌, ℕ, Bool, true, false, eqb, ltb, List, [], ◌∷◌, length, sym, refl, ap, ◌∙◌, inl, inr}
use mathlib.Core.Path.{fun_ext}
use Rattle.spec.specs.Lists.{keep, one_if, count, sum_of, any}
use Rattle.spec.specs.Entries.{Device}
use Rattle.spec.specs.Values.{single_lists, built_single, built_each}
use Rattle.spec.specs.Rules.{sections}
use Rattle.spec.specs.Kinds.{SingleRule, standing_singles}
use Rattle.spec.specs.Build.{BuiltSingle, together, subtable_of, first_glyph, single_subtables, single_build}
use Rattle.spec.specs.Promise.{SinglesStand}
use Rattle.list_laws.specs.Standing.{AllSinglesStand}
use Rattle.list_laws.proofs.Orders.{Order, Rises, sorted_rises, false_true}
use Rattle.list_laws.proofs.Linear.{by_key, lex_linear, numbers_linear, falling_linear}
use Rattle.list_laws.proofs.Together.{together_is_equivalence}
use Rattle.list_laws.proofs.Within.{In, same_tests}
use Rattle.list_laws.proofs.Counting.{count_keep}
use Rattle.list_laws.proofs.Rising.{rises_one, any_sorted}
use Rattle.list_laws.proofs.Parting.{parted}
use Rattle.list_laws.proofs.Building.{built_any, built_rises, each_section}

abbrev pub glyph_before : BuiltSingle → BuiltSingle → Bool
glyph_before x y = ltb x.glyph y.glyph

by_glyph : Order glyph_before (λ e. e.glyph)
by_glyph = by_key numbers_linear (λ e. e.glyph)

-- what subtables are ordered by
abbrev pub subtable_key : List BuiltSingle → ℕ × ℕ
subtable_key s = (length s, first_glyph s)

-- the first of what is kept
first_kept : (p : BuiltSingle → Bool) (a : BuiltSingle) (es : List BuiltSingle) → In a es → p a ≡ true → (e : BuiltSingle) × In e es × (p e ≡ true) × (first_glyph (keep p es) ≡ e.glyph)
first_kept p a [] i h = absurd i
first_kept p a (x ∷ xs) i h = go (p x) refl i (first_kept p a xs)
  where
    go : (b : Bool) → p x ≡ b → In a (x ∷ xs) → (In a xs → p a ≡ true → (e : BuiltSingle) × In e xs × (p e ≡ true) × (first_glyph (keep p xs) ≡ e.glyph))
        → (e : BuiltSingle) × In e (x ∷ xs) × (p e ≡ true) × (first_glyph (elim b [ true ↦ x ∷ keep p xs | false ↦ keep p xs ]) ≡ e.glyph)
    go true f i r = (x, inl refl, f, refl)
    go false f (inl e) r = false_true (sym f ∙ ap p (sym e) ∙ h)
    go false f (inr i) r = let (e, j, g, k) = r i h in (e, inr j, g, k)

module _ (es : List BuiltSingle) (rise : Rises glyph_before es) where
  -- two glyphs that are together have one subtable
  joined : (a b : BuiltSingle) → together es a b ≡ true → subtable_of es a ≡ subtable_of es b
  joined a b h = let t = together_is_equivalence es in
      ap (λ p. keep p es) (fun_ext (λ x. same_tests (together es a x) (together es b x) (t.transitive b a x (t.symmetric a b h)) (t.transitive a b x h)))

  -- subtables with the same first glyph are one
  keyed : (a b : BuiltSingle) → In a es → In b es → subtable_key (subtable_of es a) ≡ subtable_key (subtable_of es b) → subtable_of es a ≡ subtable_of es b
  keyed a b i j h = let t = together_is_equivalence es in
      let (x, k, f, m) = first_kept (together es a) a es i (t.reflexive a) in
      let (y, n, g, o) = first_kept (together es b) b es j (t.reflexive b) in
      let s : x ≡ y = rises_one by_glyph es rise k n (sym m ∙ ap (λ z. z.1) h ∙ o) in
      joined a x f ∙ ap (subtable_of es) s ∙ sym (joined b y g)

  -- EACH GLYPH ONCE
  singles_once : (g : ℕ) → sum_of (count (λ e. eqb e.glyph g)) (single_subtables es) ≡ one_if (any (λ e. eqb e.glyph g) es)
  singles_once g = parted by_glyph (lex_linear falling_linear numbers_linear) subtable_key es rise (subtable_of es) (together es)
      (together_is_equivalence es).reflexive joined keyed
      (λ e. eqb e.glyph g) (λ a b h k. numbers_linear.equal _ _ h ∙ sym (numbers_linear.equal _ _ k))
      (count (λ e. eqb e.glyph g)) (λ a i. count_keep (together es a) (λ e. eqb e.glyph g) es)

module _ (devices : List Device) (rs : List SingleRule) (ids : List ℕ) where
  abbrev pub built_singles : List BuiltSingle
  built_singles = built_each single_lists (built_single devices) (standing_singles rs) ids

  pub singles_rise : Rises glyph_before built_singles
  singles_rise = built_rises (λ r. r.glyph) (λ e. e.glyph) single_lists (built_single devices) (λ r i. refl) ltb (standing_singles rs) ids (sorted_rises (by_key numbers_linear (λ r. r.glyph)) rs)

  section_stands : (sets : List (List ℕ)) → SinglesStand sets rs (single_build.subtables sets devices rs ids)
  section_stands sets g = singles_once built_singles singles_rise g
      ∙ ap one_if (built_any (λ r. r.glyph) (λ e. e.glyph) single_lists (built_single devices) (λ r i. refl) (λ n. eqb n g) (standing_singles rs) ids
      ∙ any_sorted (by_key numbers_linear (λ r. r.glyph)) (λ r. eqb r.glyph g) (λ x y e. ap (λ n. eqb n g) e) rs)

pub singles_stand : AllSinglesStand
singles_stand l ids = each_section (SinglesStand l.sets) _ _ (λ rs i. section_stands l.devices rs i l.sets) (sections l) ids
