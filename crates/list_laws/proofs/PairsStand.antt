-- Each glyph pair with a rule stands in one pair set of its section, once; with the sets apart, pairs stand.
use Rattle.std.proofs.Common.{◌≡◌, ℕ, ◌+◌, ◌*◌, Bool, true, false, ◌&&◌, eqb, ltb, List, [], ◌∷◌, map, reverse, sym, refl, ap, ◌∙◌, ap₂, add-zero, add-mul, one-mul, zero-mul, arith}
use Rattle.spec.specs.Lists.{keep, one_if, count, sum_of, any}
use Rattle.spec.specs.Entries.{Device}
use Rattle.spec.specs.Values.{pair_lists, built_pair}
use Rattle.spec.specs.Rules.{sections}
use Rattle.spec.specs.Kinds.{Pair, PairRule, glyph_rules, standing_pairs}
use Rattle.spec.specs.Build.{BuiltPair, glyph_pairs, formats, of_formats, pair_subtables, first_glyphs, pair_set, pair_build}
use Rattle.spec.specs.Promise.{pair_count, PairsStandOnce, PairsStand}
use Rattle.list_laws.specs.Standing.{AllPairsStandOnce, AllPairsStand, glyphs_before}
use Rattle.list_laws.proofs.Orders.{Rises, sorted_rises}
use Rattle.list_laws.proofs.Linear.{Linear, by_key, lex, lex_linear, numbers_linear}
use Rattle.list_laws.proofs.Within.{in_every, in_map, none_in, any_reverse}
use Rattle.list_laws.proofs.Counting.{count_none, count_keep, sum_ones, sum_append, sum_map}
use Rattle.list_laws.proofs.Rising.{any_sorted, count_sorted}
use Rattle.list_laws.proofs.Parting.{parted}
use Rattle.list_laws.proofs.Building.{built_any, built_rises, each_section}
use Rattle.list_laws.proofs.PairBuild.{built_pairs, class_subtables, every_class}
use Rattle.list_laws.proofs.SetsApart.{section_apart}

-- two numbers, the first first
abbrev pub two_before : ℕ × ℕ → ℕ × ℕ → Bool
two_before = lex ltb eqb ltb

abbrev pub two_same : ℕ × ℕ → ℕ × ℕ → Bool
two_same x y = eqb x.0 y.0 && eqb x.1 y.1

pub two_linear : Linear two_before two_same
two_linear = lex_linear numbers_linear numbers_linear

abbrev built_key : BuiltPair → ℕ × ℕ
built_key e = (e.first, e.second)

abbrev rule_key : Pair → ℕ × ℕ
rule_key r = (r.first, r.second)

-- ---- the pair sets of a first glyph

sum_equal : (f : ℕ → ℕ) (g : ℕ) (xs : List ℕ) → sum_of f (keep (λ x. eqb x g) xs) ≡ count (λ x. eqb x g) xs * f g
sum_equal f g [] = sym (zero-mul (f g))
sum_equal f g (x ∷ xs) = go (eqb x g) refl (sum_equal f g xs)
  where
    go : (b : Bool) → eqb x g ≡ b → sum_of f (keep (λ y. eqb y g) xs) ≡ count (λ y. eqb y g) xs * f g
        → sum_of f (elim b [ true ↦ x ∷ keep (λ y. eqb y g) xs | false ↦ keep (λ y. eqb y g) xs ]) ≡ (one_if b + count (λ y. eqb y g) xs) * f g
    go true e r = ap₂ (λ m n. m + n) (ap f (numbers_linear.equal x g e) ∙ sym (one-mul (f g))) r ∙ sym (add-mul 1 (count (λ y. eqb y g) xs) (f g))
    go false e r = r ∙ ap (λ n. n * f g) (omega arith)

module _ (g h : ℕ) where
  abbrev asked : BuiltPair → Bool
  asked e = eqb e.first g && eqb e.second h

  -- pair sets hold a pair as often as the subtable does
  in_sets : (f1 f2 : ℕ) (es : List BuiltPair) → pair_count g h (glyph_pairs f1 f2 es) ≡ count asked es
  in_sets f1 f2 es = sum_equal (λ x. count (λ e. eqb e.second h) (pair_set es x)) g (first_glyphs es)
      ∙ ap₂ (λ m n. m * n) (count_sorted numbers_linear (λ x. x) g (map (λ e. e.first) es)) (count_keep (λ e. eqb e.first g) (λ e. eqb e.second h) es)
      ∙ go (any (λ x. eqb x g) (map (λ e. e.first) es)) refl
    where
      go : (b : Bool) → any (λ x. eqb x g) (map (λ e. e.first) es) ≡ b → one_if b * count asked es ≡ count asked es
      go true e = one-mul (count asked es)
      go false e = zero-mul (count asked es) ∙ sym (count_none asked es (λ x i. ap (λ b. b && eqb x.second h) (none_in (λ n. eqb n g) (map (λ y. y.first) es) e (in_map (λ y. y.first) es x i))))

  -- EACH PAIR ONCE
  pairs_once : (es : List BuiltPair) → Rises glyphs_before es → sum_of (pair_count g h) (pair_subtables es) ≡ one_if (any asked es)
  pairs_once es rise = sum_map (pair_count g h) (of_formats es) _
      ∙ parted (by_key two_linear built_key) two_linear (λ f. f) es rise formats (λ a b. two_same (formats b) (formats a))
      (λ a. two_linear.self (formats a)) (λ a b s. sym (two_linear.equal (formats b) (formats a) s)) (λ a b i j e. e)
      asked (λ a b s t. two_linear.equal (built_key a) (g, h) s ∙ sym (two_linear.equal (built_key b) (g, h) t))
      (λ f. pair_count g h (of_formats es f)) (λ a i. in_sets (formats a).0 (formats a).1 _ ∙ count_keep (λ e. two_same (formats e) (formats a)) asked es)

module _ (sets : List (List ℕ)) (devices : List Device) (rs : List PairRule) (ids : List ℕ) where
  pub pairs_rise : Rises glyphs_before (built_pairs sets devices rs ids)
  pairs_rise = built_rises rule_key built_key pair_lists (built_pair devices) (λ r i. refl) two_before (standing_pairs (glyph_rules rs)) ids
      (sorted_rises (by_key two_linear rule_key) (reverse (glyph_rules rs)))

  section_stands : PairsStandOnce rs (pair_build.subtables sets devices rs ids)
  section_stands g h =
      let p : ℕ × ℕ → Bool = λ k. two_same k (g, h) in
      let a = sum_append (pair_count g h) (pair_subtables (built_pairs sets devices rs ids)) (class_subtables sets devices rs ids) in
      let b = pairs_once g h (built_pairs sets devices rs ids) pairs_rise in
      let c = sum_ones (pair_count g h) (λ s. false) _ (every_class sets devices (λ s. pair_count g h s ≡ 0) rs ids (in_every _ (λ x m i. refl))) ∙ count_none (λ s. false) (class_subtables sets devices rs ids) (λ x i. refl) in
      let d = built_any rule_key built_key pair_lists (built_pair devices) (λ r i. refl) p (standing_pairs (glyph_rules rs)) ids in
      let e = any_sorted (by_key two_linear rule_key) (λ r. p (rule_key r)) (λ x y s. ap p s) (reverse (glyph_rules rs)) in
      a ∙ ap₂ (λ i j. i + j) b c ∙ add-zero _ ∙ ap one_if (d ∙ e ∙ any_reverse _ (glyph_rules rs))

pub pairs_stand_once : AllPairsStandOnce
pairs_stand_once l ids = each_section PairsStandOnce _ _ (section_stands l.sets l.devices) (sections l) ids

pub pairs_stand : AllPairsStand
pairs_stand l ids = each_section (PairsStand l.sets) _ _ (λ rs i. (section_stands l.sets l.devices rs i, section_apart l.sets l.devices rs i)) (sections l) ids
