-- The matrix of a class subtable: the two records of two classes stand in row-major order.
use Rattle.std.proofs.Common.{◌≡◌, ℕ, zero, suc, ◌+◌, ◌*◌, ◌<◌, List, [], ◌∷◌, map, length, get_or, Some, None, Ok, Option, sym, refl, ap, ◌∙◌, subst, ap₂, suc-mul, zero-add, zero-mul, arith}
use Rattle.std.proofs.lemmas.List.{length-map, length-append, get_or-map, get_or_append_left, get_or-append-add}
use Rattle.std.proofs.lemmas.Nat.{mul-add-lt}
use Rattle.spec.specs.Lists.{Every, numbers}
use Rattle.spec.specs.Values.{encoded_size}
use Rattle.spec.specs.Build.{Cell}
use Rattle.spec.specs.Bytes.{Table, values, cell_values, matrix, row, rows}
use Rattle.spec.specs.Meaning.{two_records}
use Rattle.list_laws.specs.Says.{cell_or_zeros}
use Rattle.laws.specs.Descriptions.{two_read}
use Rattle.laws.specs.Parts.{RestLies}
use Rattle.laws.proofs.Standing.{length_numbers, getD_numbers}
use Rattle.laws.proofs.Records.{FitsIn, Behind, records_then}

-- ---- places

length_row : (i : ℕ) (js : List ℕ) → length (row i js) ≡ length js
length_row i js = length-map js (λ j. (i, j))

length_rows : (is js : List ℕ) → length (rows is js) ≡ length is * length js
length_rows [] js = sym (zero-mul (length js))
length_rows (i ∷ is) js = length-append (row i js) (rows is js) ∙ omega (arith, length_row i js, length_rows is js, suc-mul (length is) (length js))

rows_at : (is js : List ℕ) (i j : ℕ) (d : ℕ × ℕ) → i < length is → j < length js → get_or (rows is js) (i * length js + j) d ≡ (get_or is i 0, get_or js j 0)
rows_at [] js i j d l m = absurd (omega arith)
rows_at (x ∷ is) js zero j d l m =
    let e : 0 * length js + j ≡ j = omega arith in
    ap (λ k. get_or (rows (x ∷ is) js) k d) e ∙ get_or_append_left (row x js) (rows is js) d j (omega (arith, length_row x js)) ∙ get_or-map (λ j. (x, j)) js j 0 d m
rows_at (x ∷ is) js (suc i) j d l m =
    let e : suc i * length js + j ≡ length (row x js) + (i * length js + j) = omega (arith, length_row x js, suc-mul i (length js)) in
    ap (λ k. get_or (rows (x ∷ is) js) k d) e ∙ get_or-append-add (row x js) (rows is js) (i * length js + j) d ∙ rows_at is js i j d (omega arith) m

module _ {A : Type 0} (f : ℕ × ℕ → A) (n1 n2 i j : ℕ) (l : i < n1) (m : j < n2) where
  abbrev all_places : List (ℕ × ℕ)
  all_places = rows (numbers 0 n1) (numbers 0 n2)

  below_places : i * n2 + j < length all_places
  below_places = let e : length all_places ≡ n1 * n2 = length_rows (numbers 0 n1) (numbers 0 n2) ∙ ap₂ (λ a b. a * b) (length_numbers 0 n1) (length_numbers 0 n2) in
      omega (arith, mul-add-lt i n2 j n1 l m)

  pub place_below : i * n2 + j < length (map f all_places)
  place_below = omega (arith, below_places, length-map all_places f)

  -- row i, column j
  pub place_at : (d : A) → get_or (map f all_places) (i * n2 + j) d ≡ f (i, j)
  place_at d =
      let e = length_numbers 0 n2 in
      let at = rows_at (numbers 0 n1) (numbers 0 n2) i j (0, 0) (omega (arith, length_numbers 0 n1)) (omega arith) in
      let is = ap₂ (λ a b. (a, b)) (getD_numbers 0 n1 i 0 l ∙ zero-add i) (getD_numbers 0 n2 j 0 m ∙ zero-add j) in
      get_or-map f all_places (i * n2 + j) (0, 0) d below_places ∙ ap f (ap (λ n. get_or all_places (i * n + j) (0, 0)) (sym e) ∙ at ∙ is)

-- ---- records

first_place : (k a b : ℕ) → k ≡ k + 0 * (a + b)
first_place k a b = omega arith

next_place : (k a b i : ℕ) → k + a + b + i * (a + b) ≡ k + suc i * (a + b)
next_place k a b i = omega (arith, suc-mul i (a + b))

-- the records of a cell, or empty ones, in their value formats
abbrev pub FitsCell : ℕ → ℕ → Option Cell → Type 0
FitsCell f1 f2 o = FitsIn f1 (cell_or_zeros o).0 × FitsIn f2 (cell_or_zeros o).1

module _ (bs : List ℕ) (base s f1 f2 : ℕ) where
  cell_table : (o : Option Cell) (t : Table) → cell_values f1 f2 o t ≡ values f1 (cell_or_zeros o).0 (values f2 (cell_or_zeros o).1 t)
  cell_table None t = refl
  cell_table (Some e) t = refl

  -- the records of a cell, or empty ones, are read at k
  abbrev pub CellReads : ℕ → Option Cell → Type 0
  CellReads k o = two_records bs s base k f1 f2 ≡ Ok (Some (two_read s (cell_or_zeros o)))

  cell_then : (o : Option Cell) (k at : ℕ) (t : Table) → FitsCell f1 f2 o → 0 < at → RestLies bs base at k (cell_values f1 f2 o t) → CellReads k o × Behind bs base (k + encoded_size f1 + encoded_size f2) t
  cell_then o k at t fits z h = records_then bs base s (cell_or_zeros o).0 (cell_or_zeros o).1 f1 f2 k at t fits.0 fits.1 z (subst (RestLies bs base at k) (cell_table o t) h)

  -- the records at place i
  pub matrix_read : (cs : List (Option Cell)) (k at i : ℕ) → Every (FitsCell f1 f2) cs → 0 < at → RestLies bs base at k (matrix f1 f2 cs) → i < length cs → CellReads (k + i * (encoded_size f1 + encoded_size f2)) (get_or cs i None)
  matrix_read [] k at i fits z h l = absurd (omega arith)
  matrix_read (c ∷ cs) k at zero fits z h l = subst (λ n. CellReads n c) (first_place k (encoded_size f1) (encoded_size f2)) (cell_then c k at (matrix f1 f2 cs) fits.0 z h).0
  matrix_read (c ∷ cs) k at (suc i) fits z h l =
      let b = (cell_then c k at (matrix f1 f2 cs) fits.0 z h).1 in
      let less : i < length cs = omega arith in
      subst (λ n. CellReads n (get_or cs i None)) (next_place k (encoded_size f1) (encoded_size f2) i) (matrix_read cs (k + encoded_size f1 + encoded_size f2) b.next i fits.1 b.later b.rest less)
