-- Different sets that share no glyph have different class numbers.
use Rattle.std.proofs.Common.{◌≡◌, ℕ, ◌+◌, ◌<◌, Bool, true, false, List, [], ◌∷◌, length, get_or, sym, refl, ap, ◌∙◌, subst, inl, inr, arith}
use Rattle.std.proofs.lemmas.Bool.{or_left}
use Rattle.spec.specs.Lists.{has, list_before}
use Rattle.spec.specs.Classes.{set_before, rank, class_among, class_of}
use Rattle.spec.specs.Promise.{SetsApart}
use Rattle.list_laws.proofs.Orders.{Order, Rises, false_true}
use Rattle.list_laws.proofs.Linear.{by_key, lex_linear, numbers_linear, falling_linear, lists_linear}
use Rattle.list_laws.proofs.Within.{In, refuted, in_place}
use Rattle.list_laws.proofs.Counting.{count_less}
use Rattle.list_laws.proofs.Rising.{one_place}
use Rattle.list_laws.proofs.Sides.{Apart}

-- what sets are numbered by
abbrev set_key : List ℕ → ℕ × ℕ
set_key s = (length s, get_or s 0 0)

by_size : Order set_before set_key
by_size = by_key (lex_linear falling_linear numbers_linear) set_key

-- the first glyph of a set that holds one
first_held : (g : ℕ) (s : List ℕ) → has g s ≡ true → has (get_or s 0 0) s ≡ true
first_held g [] h = false_true h
first_held g (x ∷ xs) h = or_left _ _ (numbers_linear.self x)

module _ (ss : List (List ℕ)) where
  earlier : (s t : List ℕ) → In s ss → set_before s t ≡ true → rank ss s < rank ss t
  earlier s t i h = count_less (λ u. set_before u s) (λ u. set_before u t) (λ u k. by_size.trans u s t k h) ss s i (by_size.same s s refl) h

  module _ (apart : Apart (λ s. s) ss) where
    ranks_differ : (s t : List ℕ) → In s ss → In t ss → (g h : ℕ) → has g s ≡ true → has h t ≡ true → rank ss s ≡ rank ss t → s ≡ t
    ranks_differ s t i j g h k m e = go (set_before s t) (set_before t s) refl refl
      where
        go : (b c : Bool) → set_before s t ≡ b → set_before t s ≡ c → s ≡ t
        go true c p q = let r = earlier s t i p in absurd (omega arith)
        go false true p q = let r = earlier t s j q in absurd (omega arith)
        go false false p q = let f : get_or s 0 0 ≡ get_or t 0 0 = ap (λ z. z.1) (by_size.total s t p q) in
            apart s t i j (get_or s 0 0) (first_held g s k) (subst (λ n. has n t ≡ true) (sym f) (first_held h t m))

    -- the class of a glyph is by the set that holds it
    by_set : (from g : ℕ) (s : List ℕ) → has g s ≡ true → (ts : List (List ℕ)) → In s ts → ((t : List ℕ) → In t ts → has g t ≡ true → t ≡ s) → class_among ss from ts g ≡ from + rank ss s
    by_set from g s h [] i only = absurd i
    by_set from g s h (t ∷ ts) i only = go (has g t) refl i (λ j. by_set from g s h ts j (λ u k. only u (inr k)))
      where
        go : (b : Bool) → has g t ≡ b → In s (t ∷ ts) → (In s ts → class_among ss from ts g ≡ from + rank ss s) → ◌≡◌ {A = ℕ} (elim b [ true ↦ from + rank ss t | false ↦ class_among ss from ts g ]) (from + rank ss s)
        go true e i r = ap (λ u. from + rank ss u) (only t (inl refl) e)
        go false e (inl d) r = false_true (sym e ∙ ap (has g) (sym d) ∙ h)
        go false e (inr j) r = r j

    class_is : (from g : ℕ) (s : List ℕ) → In s ss → has g s ≡ true → class_of ss from g ≡ from + rank ss s
    class_is from g s i h = by_set from g s h ss i (λ t j k. apart t s j i g k h)

    -- DIFFERENT SETS SHARE NO GLYPH AND NO CLASS NUMBER
    pub sets_apart : Rises list_before ss → (from : ℕ) → SetsApart ss from
    sets_apart rise from i j m n d =
        let s = get_or ss i [] in let t = get_or ss j [] in let k = in_place ss i [] m in let o = in_place ss j [] n in
        let differ : s ≡ t → ⊥ = λ e. d (one_place (by_key lists_linear (λ x. x)) ss rise [] i j m n e) in (
          λ g h. refuted (has g t) (λ f. differ (apart s t k o g h f)),
          λ g h p q e. differ (ranks_differ s t k o g h p q (let a = class_is from g s k p in let b = class_is from h t o q in omega arith)),
        )
