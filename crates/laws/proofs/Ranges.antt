-- A search over ranges that stand in bytes gives what the ranges say.
use Rattle.std.proofs.Common.{◌≡◌, ℕ, ◌+◌, ◌≤◌, Bool, true, false, leb, List, [], ◌∷◌, length, Some, None, Ok, Option, Result, refl, arith}
use Rattle.std.proofs.lemmas.Bool.Decides.{nat_tests}
use Rattle.spec.specs.Lists.{Every}
use Rattle.spec.specs.Fields.{field, and_then, Stand}
use Rattle.spec.specs.Coverage.{Range, joined, ranges}
use Rattle.spec.specs.Classes.{class_range_fields}
use Rattle.spec.specs.Meaning.{range_search}
use Rattle.laws.proofs.Standing.{spread}

-- start and class of the first range that holds a glyph
abbrev pub holding : ℕ → List Range → Option (ℕ × ℕ)
holding g [] = None
holding g (r ∷ rs) = elim (leb r.start g) [ true ↦ elim (leb g r.end) [ true ↦ Some (r.start, r.class) | false ↦ holding g rs ] | false ↦ holding g rs ]

-- one range, by its two tests; `rest` is the search over the others
module _ (bs : List ℕ) (g k s : ℕ) (rest : Result (Option (ℕ × ℕ)) ℕ) where
  abbrev end_test : Bool → Result (Option (ℕ × ℕ)) ℕ
  end_test b = elim b [ true ↦ and_then (field bs (k + 4)) (λ x. Ok (Some (s, x))) | false ↦ rest ]

  abbrev start_test : Bool → Result (Option (ℕ × ℕ)) ℕ
  start_test b = elim b [ true ↦ and_then (field bs (k + 2)) (λ e. end_test (leb g e)) | false ↦ rest ]

  module _ (e x : ℕ) (o : Option (ℕ × ℕ)) (last : field bs (k + 2) ≡ Ok e) (third : field bs (k + 4) ≡ Ok x) (others : rest ≡ Ok o) where
    end_tested : (b : Bool) → end_test b ≡ Ok (elim b [ true ↦ Some (s, x) | false ↦ o ])
    end_tested true = rw third
    end_tested false = others

    start_tested : (b : Bool) → start_test b ≡ Ok (elim b [ true ↦ elim (leb g e) [ true ↦ Some (s, x) | false ↦ o ] | false ↦ o ])
    start_tested true = rw last (end_tested (leb g e))
    start_tested false = others

pub ranges_read : (bs : List ℕ) (g k : ℕ) (rs : List Range) → Stand bs k (class_range_fields rs) → range_search bs g k (length rs) ≡ Ok (holding g rs)
ranges_read bs g k [] h = refl
ranges_read bs g k (r ∷ rs) h =
    let p = spread bs k 1 (r.end ∷ r.class ∷ []) (class_range_fields rs) h.1 in
    let others = ranges_read bs g (k + 6) rs p.1.1 in
    rw h.0 (start_tested bs g k r.start (range_search bs g (k + 6) (length rs)) r.end r.class (holding g rs) p.0 p.1.0 others (leb r.start g))

-- every range begins at or before its end
abbrev pub Sound : List Range → Type 0
Sound rs = Every (λ r. r.start ≤ r.end) rs

joined_sound : (g c : ℕ) (rs : List Range) → Sound rs → Sound (joined g c rs)
joined_sound g c [] h = (omega arith, tt)
joined_sound g c (r ∷ rs) h = grind (arith, nat_tests)

pub ranges_sound : (ps : List (ℕ × ℕ)) → Sound (ranges ps)
ranges_sound [] = tt
ranges_sound (p ∷ ps) = joined_sound p.0 p.1 (ranges ps) (ranges_sound ps)
