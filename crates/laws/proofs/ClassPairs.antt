-- PairPos subtables of format 2 that lie in bytes read as they are described.
use Rattle.std.proofs.Common.{◌≡◌, ℕ, ◌+◌, ◌*◌, ◌<◌, true, ◌&&◌, eqb, List, [], ◌∷◌, map, length, Some, None, Ok, Option, sym, ap, ◌∙◌, subst, ap₂, inl, inr, add-zero, zero-add, arith}
use Rattle.std.proofs.lemmas.Bool.{lt-ltb}
use Rattle.spec.specs.Lists.{Every, any, has, first, numbers}
use Rattle.spec.specs.Fields.{field, and_then}
use Rattle.spec.specs.Values.{format, encoded_size}
use Rattle.spec.specs.Classes.{rank, class_of, classed, glyphs_of}
use Rattle.spec.specs.Build.{Cell, class_pairs}
use Rattle.spec.specs.Bytes.{head, own, size, Lies, coverage, class_def, side, union, rows, cell_at, matrix, class_pair_table}
use Rattle.spec.specs.Meaning.{covered, if_covered, class_below, class_pair, pair}
use Rattle.list_laws.specs.Says.{cell_or_zeros, pair_says}
use Rattle.list_laws.proofs.Orders.{every_map}
use Rattle.list_laws.proofs.Within.{in_any, every_over}
use Rattle.list_laws.proofs.Rising.{any_sorted}
use Rattle.list_laws.proofs.Members.{every_all, first_found, any_mapped}
use Rattle.laws.specs.Conditions.{FitsRecord, Group}
use Rattle.laws.specs.Descriptions.{two_read, pairs_read}
use Rattle.laws.specs.Parts.{RestLies}
use Rattle.laws.proofs.Standing.{spread}
use Rattle.laws.proofs.Finding.{Found, absent, there, found, every_both, every_first, first_same, none_any, lists_order}
use Rattle.laws.proofs.Covering.{coverage_reads}
use Rattle.laws.proofs.Classing.{class_reads}
use Rattle.laws.proofs.Formats.{union_small}
use Rattle.laws.proofs.Records.{Behind, FitsIn, union_fits, empty_fits}
use Rattle.laws.proofs.Lookups.{Leads}
use Rattle.laws.proofs.Ranking.{Known, class_less, class_tells}
use Rattle.laws.proofs.Sides.{side_known, has_glyphs, classed_at, classed_rising}
use Rattle.laws.proofs.Matrix.{place_below, place_at, FitsCell, CellReads, matrix_read}

-- ---- the parts of the subtable

abbrev firsts : List Cell → List (List ℕ)
firsts es = side (map (λ e. e.first) es)

abbrev seconds : List Cell → List (List ℕ)
seconds es = side (map (λ e. e.second) es)

abbrev format1 : List Cell → ℕ
format1 es = union (map (λ e. format e.values1) es)

abbrev format2 : List Cell → ℕ
format2 es = union (map (λ e. format e.values2) es)

-- all cells, row by row
abbrev cells : List Cell → List (Option Cell)
cells es = map (cell_at (firsts es) (seconds es) es) (rows (numbers 0 (length (firsts es))) (numbers 0 (length (seconds es) + 1)))

-- a glyph is in one of the different first sets exactly if a cell has it in its first set
held : (g : ℕ) (es : List Cell) → any (has g) (firsts es) ≡ any (λ e. has g e.first) es
held g es = any_sorted lists_order (has g) (λ s t. ap (has g)) (map (λ e. e.first) es) ∙ any_mapped (has g) (λ e. e.first) es

-- ---- the cell of two glyphs

module _ (es : List Cell) (g h : ℕ) (some : any (has g) (firsts es) ≡ true) where
  first_below : class_of (firsts es) 0 g < length (firsts es)
  first_below = subst (λ n. class_of (firsts es) 0 g < n) (add-zero (length (firsts es))) (class_less (firsts es) 0 g (inl some))

  second_below : class_of (seconds es) 1 h < length (seconds es) + 1
  second_below = class_less (seconds es) 1 h (inr (omega arith))

  both_tell : (e : Cell) → Known (firsts es) e.first × Known (seconds es) e.second
      → (eqb (rank (firsts es) e.first) (class_of (firsts es) 0 g) && eqb (1 + rank (seconds es) e.second) (class_of (seconds es) 1 h)) ≡ (has g e.first && has h e.second)
  both_tell e k = ap₂ (λ a b. a && b)
      (ap (λ n. eqb n (class_of (firsts es) 0 g)) (sym (zero-add (rank (firsts es) e.first))) ∙ class_tells (firsts es) 0 g (inl some) e.first k.0)
      (class_tells (seconds es) 1 h (inr (omega arith)) e.second k.1)

  -- the cell of their classes is the first whose sets hold both
  cell_found : Group es → cell_at (firsts es) (seconds es) es (class_of (firsts es) 0 g, class_of (seconds es) 1 h) ≡ first (λ e. has g e.first && has h e.second) es
  cell_found group = first_same _ _ es (every_map both_tell es (every_both (λ e. Known (firsts es) e.first) (λ e. Known (seconds es) e.second) es
      (side_known (λ e. e.first) es group.firsts) (side_known (λ e. e.second) es group.seconds)))

-- ---- its records

cells_fit : (es : List Cell) → Group es → Every (FitsCell (format1 es) (format2 es)) (cells es)
cells_fit es group =
    let fit = FitsCell (format1 es) (format2 es) in
    let none : fit None = (empty_fits (format1 es) (union_small (λ e. e.values1) es), empty_fits (format2 es) (union_small (λ e. e.values2) es)) in
    let places = rows (numbers 0 (length (firsts es))) (numbers 0 (length (seconds es) + 1)) in
    every_over fit (cell_at (firsts es) (seconds es) es) places (every_all (λ k. every_first fit _ es none each) places)
  where
    each : Every (λ e. FitsIn (format1 es) e.values1 × FitsIn (format2 es) e.values2) es
    each = every_both (λ e. FitsIn (format1 es) e.values1) (λ e. FitsIn (format2 es) e.values2) es
        (union_fits (λ e. e.values1) es (every_map {Q = λ e. FitsRecord e.values1} (λ e p. p.0) es group.fits))
        (union_fits (λ e. e.values2) es (every_map {Q = λ e. FitsRecord e.values2} (λ e p. p.1) es group.fits))

module _ (bs : List ℕ) (s at : ℕ) where
  -- the class of a glyph, below its count
  class_read : (k g n from c : ℕ) (sets : List (List ℕ)) → Lies bs k (class_def (classed sets c)) → class_of sets c g < n → class_below bs k g n from ≡ Ok (class_of sets c g)
  class_read k g n from c sets h l = rw (class_reads bs k (classed sets c) g (classed_rising sets c) h ∙ ap Ok (classed_at sets c g)) (rw (lt-ltb (class_of sets c g) n l, and_then))

  -- the cell in row i and column j
  matrix_at : (f1 f2 n1 n2 i j next : ℕ) (cell : ℕ × ℕ → Option Cell) → i < n1 → j < n2 → 0 < next → Every (FitsCell f1 f2) (map cell (rows (numbers 0 n1) (numbers 0 n2)))
      → RestLies bs at next (at + 16) (matrix f1 f2 (map cell (rows (numbers 0 n1) (numbers 0 n2)))) → CellReads bs at s f1 f2 (at + 16 + (i * n2 + j) * (encoded_size f1 + encoded_size f2)) (cell (i, j))
  matrix_at f1 f2 n1 n2 i j next cell l m z fits h =
      let cs = map cell (rows (numbers 0 n1) (numbers 0 n2)) in
      subst (CellReads bs at s f1 f2 (at + 16 + (i * n2 + j) * (encoded_size f1 + encoded_size f2))) (place_at cell n1 n2 i j l m None)
      (matrix_read bs at s f1 f2 cs (at + 16) next (i * n2 + j) fits z h (place_below cell n1 n2 i j l m))

  module _ (q : ℕ × ℕ) (es : List Cell) (group : Group es) where
    abbrev n1 : ℕ
    n1 = length (firsts es)

    abbrev n2 : ℕ
    n2 = length (seconds es) + 1

    -- the fields and tables behind the coverage offset
    record Parts : Type 0 where
      formats : (field bs (at + 4) ≡ Ok (format1 es)) × (field bs (at + 6) ≡ Ok (format2 es))
      counts : (field bs (at + 12) ≡ Ok n1) × (field bs (at + 14) ≡ Ok n2)
      classes1 : Leads bs at (at + 8) (class_def (classed (firsts es) 0))
      classes2 : Leads bs at (at + 10) (class_def (classed (seconds es) 1))
      lines : Behind bs at (at + 16) (matrix (format1 es) (format2 es) (cells es))

    -- the records of two classes
    classes_read : any (has q.0) (firsts es) ≡ true → Parts
        → class_pair bs s q.0 q.1 at (format1 es) (format2 es) ≡ Ok (Some (two_read s (cell_or_zeros (first (λ e. has q.0 e.first && has q.1 e.second) es))))
    classes_read some p =
        let l = first_below es q.0 q.1 some in
        let m = second_below es q.0 q.1 some in
        let c1 = class_read (at + p.classes1.offset) q.0 n1 (at + 12) 0 (firsts es) p.classes1.lies l in
        let c2 = class_read (at + p.classes2.offset) q.1 n2 (at + 14) 1 (seconds es) p.classes2.lies m in
        let r = matrix_at (format1 es) (format2 es) n1 n2 (class_of (firsts es) 0 q.0) (class_of (seconds es) 1 q.1) p.lines.next (cell_at (firsts es) (seconds es) es) l m p.lines.later (cells_fit es group) p.lines.rest in
        rw p.counts.0 (rw p.counts.1 (rw p.classes1.stands (rw c1 (rw p.classes2.stands (rw c2 (r ∙ ap (λ o. Ok (Some (two_read s (cell_or_zeros o)))) (cell_found es q.0 q.1 some group)))))))

    -- by whether the first glyph is covered
    covered_read : Found (λ x. eqb x q.0) 0 (glyphs_of (firsts es)) → (k : ℕ) → Lies bs k (coverage (glyphs_of (firsts es))) → Parts
        → and_then (covered bs k q.0) (λ c. if_covered c (λ i. and_then (field bs (at + 4)) (λ f1. and_then (field bs (at + 6)) (λ f2. class_pair bs s q.0 q.1 at f1 f2)))) ≡ Ok (pairs_read s q (class_pairs es))
    covered_read (absent n fi) k c p =
        let none = sym (has_glyphs q.0 (firsts es)) ∙ none_any (λ x. eqb x q.0) (glyphs_of (firsts es)) fi in
        rw (coverage_reads bs k (glyphs_of (firsts es)) q.0 c ∙ ap Ok n) (rw (sym (held q.0 es) ∙ none, pair_says))
    covered_read (there j x l n fi e t) k c p =
        let m = (first_found (λ x. eqb x q.0) (glyphs_of (firsts es)) x fi).0 in
        let some = sym (has_glyphs q.0 (firsts es)) ∙ in_any (λ x. eqb x q.0) {x = x} (glyphs_of (firsts es)) m t in
        rw (coverage_reads bs k (glyphs_of (firsts es)) q.0 c ∙ ap Ok n)
        (rw p.formats.0 (rw p.formats.1 (rw (sym (held q.0 es) ∙ some, pair_says) (classes_read some p))))

    pub class_pairs_read : Lies bs at (class_pair_table es) → pair bs s q at ≡ Ok (pairs_read s q (class_pairs es))
    class_pairs_read h =
        let o = own (class_pair_table es) in
        let o1 = o + size (coverage (glyphs_of (firsts es))) in
        let o2 = o1 + size (class_def (classed (firsts es) 0)) in
        let next = o2 + size (class_def (classed (seconds es) 1)) in
        let p = spread bs at 1 (o ∷ format1 es ∷ format2 es ∷ o1 ∷ o2 ∷ n1 ∷ n2 ∷ []) (head next (matrix (format1 es) (format2 es) (cells es))) h.0.1 in
        rw h.0.0 (rw p.0 (covered_read (found (λ x. eqb x q.0) 0 (glyphs_of (firsts es))) (at + o) (h.1.0, h.1.1) (record {
          formats = (p.1.0, p.1.1.0);
          counts = (p.1.1.1.1.1.0, p.1.1.1.1.1.1.0);
          classes1 = record { offset = o1; stands = p.1.1.1.0; lies = (h.1.2.0, h.1.2.1) };
          classes2 = record { offset = o2; stands = p.1.1.1.1.0; lies = (h.1.2.2.0, h.1.2.2.1) };
          lines = record { next = next; later = omega arith; rest = (p.1.1.1.1.1.1.1, h.1.2.2.2) };
        })))
