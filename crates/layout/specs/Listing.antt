-- Glyphs with their classes, as class definitions list them.
use Rattle.std.specs.Prelude.{ℕ, true, false, List, [], ◌∷◌, map, ◌==◌}
use Rattle.layout.specs.declared.glyph_class.GlyphClass.{GlyphClass}

abbrev pub listed : List GlyphClass → List (ℕ × ℕ)
listed cs = map (λ e. (e.glyph, e.class)) cs

-- the class of a glyph if it is the first listed, else 0; and how many of those listed it takes
abbrev pub here : List (ℕ × ℕ) → ℕ → ℕ × ℕ
here [] g = (0, 0)
here (p ∷ ps) g = elim (p.0 == g) [ true ↦ (p.1, 1) | false ↦ (0, 0) ]
