-- The classes of a span, one glyph after the other.
use Rattle.std.proofs.Common.{◌≡◌, ℕ, suc, ◌+◌, ◌-◌, ◌<◌, List, [], ◌∷◌, ◌++◌, map, drop, sym, ap, ◌∙◌, subst, arith}
use Rattle.std.proofs.lemmas.List.{drop-map}
use Rattle.spec.specs.Fields.{big_endian}
use Rattle.spec.specs.Lists.{numbers}
use Rattle.spec.specs.Classes.{class_at}
use Rattle.layout.specs.declared.glyph_class.GlyphClass.{GlyphClass}
use Rattle.layout.specs.Listing.{listed, here}
use Rattle.layout.proofs.Listing.{Onward, walk}

-- the classes from glyph g on, n of them
abbrev pub classes_from : List (ℕ × ℕ) → ℕ → ℕ → List ℕ
classes_from ps g n = big_endian (map (class_at ps) (numbers g n))

pub classes_next : (ps : List (ℕ × ℕ)) (g end x : ℕ) → g < end → x ≡ class_at ps g → classes_from ps g (end - g) ≡ big_endian (x ∷ []) ++ classes_from ps (g + 1) (end - (g + 1))
classes_next ps g end x h e =
    let m : end - g ≡ suc (end - (g + 1)) = omega arith in
    ap (classes_from ps g) m ∙ ap (λ c. big_endian (c ∷ map (class_at ps) (numbers (g + 1) (end - (g + 1))))) (sym e)

-- one glyph more
module _ (ps : List (ℕ × ℕ)) (left behind : List GlyphClass) (g : ℕ) (o : Onward ps (listed left) g) where
  pub class_next : (x : ℕ) → x ≡ (here (listed left) g).0 → x ≡ class_at ps g
  class_next x e = e ∙ (walk ps (listed left) g o).class

  pub onward_next : behind ≡ drop (here (listed left) g).1 left → Onward ps (listed behind) (g + 1)
  onward_next e = subst (λ q. Onward ps q (g + 1)) (drop-map (λ e. (e.glyph, e.class)) (here (listed left) g).1 left ∙ ap listed (sym e)) (walk ps (listed left) g o).onward
