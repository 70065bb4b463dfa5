-- Rows that are picked by their numbers.
use Rattle.std.proofs.Common.{◌≡◌, ℕ, zero, suc, ◌+◌, ◌<◌, ◌≤◌, ◌≢◌, ◌⊎◌, List, [], ◌∷◌, ◌++◌, length, get_or, take, drop, set, sym, refl, ap, ◌∙◌, inl, inr, append_assoc, arith, length-set, take-append-drop}
use Rattle.std.specs.List.{insert}
use Rattle.std.proofs.lemmas.List.{drop_more, get_or-set_other, get_or-set_same, length-take-le, take_at, drop_at, same_lists}
use Rattle.std.proofs.lemmas.List.Elements.{All-head, All-tail, All-cons, All-append, All-take, All-drop, All-weaker}
use Rattle.std.proofs.lemmas.Bool.{cases_eq}
use Rattle.tables.specs.Tables.{Below, picked}

-- ---- numbers below a bound
head_below : (m n : ℕ) (ns : List ℕ) → Below m (n ∷ ns) → n < m
head_below m n ns h = All-head (λ a. a < m) n ns h

tail_below : (m n : ℕ) (ns : List ℕ) → Below m (n ∷ ns) → Below m ns
tail_below m n ns h = All-tail (λ a. a < m) n ns h

pub below_wider : (m m' : ℕ) (ns : List ℕ) → m ≤ m' → Below m ns → Below m' ns
below_wider m m' ns l h = All-weaker (λ a. a < m) (λ a. a < m') (λ a q. omega arith) ns h

-- the next number, at any place
pub below_inserted : (m i : ℕ) (ns : List ℕ) → Below m ns → Below (m + 1) (insert ns i m)
below_inserted m i ns h =
    let g : Below (m + 1) ns = below_wider m (m + 1) ns (omega arith) h in
    let P : ℕ → Type 0 = λ a. a < m + 1 in
    All-append P (take i ns) (m ∷ drop i ns) (All-take P i ns g) (All-cons P m (drop i ns) (omega arith) (All-drop P i ns g))

module _ {A : Type 0} where
  one : (rows : List A) (n : ℕ) (d : A) → n < length rows → take 1 (drop n rows) ≡ get_or rows n d ∷ []
  one rows n d h = ap (take 1) (drop_more rows n d h)

  -- ---- what is picked
  pub length_picked : (rows : List A) (ns : List ℕ) → Below (length rows) ns → length (picked rows ns) ≡ length ns
  length_picked rows [] h = refl
  length_picked rows (n ∷ ns) h =
      long rows n (head_below (length rows) n ns h) ∙ ap suc (length_picked rows ns (tail_below (length rows) n ns h))
    where
      long : (xs : List A) (m : ℕ) → m < length xs → length (take 1 (drop m xs) ++ picked rows ns) ≡ suc (length (picked rows ns))
      long [] m l = absurd (let z : ⊥ = omega arith in z)
      long (x ∷ xs) m l = ap (λ ys. length (ys ++ picked rows ns)) (one (x ∷ xs) m x l)

  pub get_d_picked : (rows : List A) (ns : List ℕ) → Below (length rows) ns → (i : ℕ) (d : A) → i < length ns → get_or (picked rows ns) i d ≡ get_or rows (get_or ns i 0) d
  get_d_picked rows [] h i d l = absurd (let z : ⊥ = omega arith in z)
  get_d_picked rows (n ∷ ns) h zero d l =
      ap (λ xs. get_or (xs ++ picked rows ns) 0 d) (one rows n d (head_below (length rows) n ns h))
  get_d_picked rows (n ∷ ns) h (suc i) d l =
      ap (λ xs. get_or (xs ++ picked rows ns) (suc i) d) (one rows n d (head_below (length rows) n ns h)) ∙ get_d_picked rows ns (tail_below (length rows) n ns h) i d (omega arith)

  -- ---- a row is written behind those that are picked
  picked_kept : (rows : List A) (m : ℕ) (x : A) (ns : List ℕ) → Below m ns → m < length rows → picked (set rows m x) ns ≡ picked rows ns
  picked_kept rows m x [] h l = refl
  picked_kept rows m x (n ∷ ns) h l =
      let q : n < m = head_below m n ns h in
      let w : n < length rows = omega arith in
      let e : length (set rows m x) ≡ length rows = length-set rows m x in
      let w' : n < length (set rows m x) = omega arith in
      let ne : n ≢ m = omega arith in
      (λ i. (one (set rows m x) n x w' ∙ ap (λ y. y ∷ []) (get_or-set_other rows m n x x ne) ∙ sym (one rows n x w)) i ++ picked_kept rows m x ns (tail_below m n ns h) l i)

  picked_append : (rows : List A) (ms ns : List ℕ) → picked rows (ms ++ ns) ≡ picked rows ms ++ picked rows ns
  picked_append rows [] ns = refl
  picked_append rows (m ∷ ms) ns = ap (λ ys. take 1 (drop m rows) ++ ys) (picked_append rows ms ns) ∙ sym (append_assoc (take 1 (drop m rows)) (picked rows ms) (picked rows ns))

  picked_cut : (rows : List A) (ns : List ℕ) (i : ℕ) → Below (length rows) ns → i ≤ length ns → (picked rows (take i ns) ≡ take i (picked rows ns)) × (picked rows (drop i ns) ≡ drop i (picked rows ns))
  picked_cut rows ns i h l =
      let long : length (picked rows (take i ns)) ≡ i = length_picked rows (take i ns) (All-take (λ a. a < length rows) i ns h) ∙ length-take-le i ns l in
      let whole : picked rows ns ≡ picked rows (take i ns) ++ picked rows (drop i ns) = ap (picked rows) (sym (take-append-drop i ns)) ∙ picked_append rows (take i ns) (drop i ns) in
      (sym (ap (take i) whole ∙ take_at (picked rows (take i ns)) (picked rows (drop i ns)) i long), sym (ap (drop i) whole ∙ drop_at (picked rows (take i ns)) (picked rows (drop i ns)) i long))

  pub picked_inserted : (rows : List A) (m i : ℕ) (x : A) (ns : List ℕ) → Below m ns → m < length rows → i ≤ length ns → picked (set rows m x) (insert ns i m) ≡ insert (picked rows ns) i x
  picked_inserted rows m i x ns h l le =
      let e : length (set rows m x) ≡ length rows = length-set rows m x in
      let w : m < length (set rows m x) = omega arith in
      let b : Below (length rows) ns = below_wider m (length rows) ns (omega arith) h in
      let p = picked_cut rows ns i b le in
      let here : take 1 (drop m (set rows m x)) ≡ x ∷ [] = one (set rows m x) m x w ∙ ap (λ y. y ∷ []) (get_or-set_same rows m x x l) in
      picked_append (set rows m x) (take i ns) (m ∷ drop i ns)
      ∙ (λ t. (picked_kept rows m x (take i ns) (All-take (λ a. a < m) i ns h) l ∙ p.0) t ++ (here t ++ (picked_kept rows m x (drop i ns) (All-drop (λ a. a < m) i ns h) l ∙ p.1) t))

  -- ---- a row is written that is picked once
  pub picked_set : (rows : List A) (ns : List ℕ) (i : ℕ) (x : A) → Below (length rows) ns → i < length ns → ((j : ℕ) → j < length ns → get_or ns j 0 ≡ get_or ns i 0 → j ≡ i)
      → picked (set rows (get_or ns i 0) x) ns ≡ set (picked rows ns) i x
  picked_set rows ns i x h l once = same_lists _ _ long at_each
    where
      wide : Below (length (set rows (get_or ns i 0) x)) ns
      wide = rw (length-set rows (get_or ns i 0) x) h

      n_picked : length (picked rows ns) ≡ length ns
      n_picked = length_picked rows ns h

      long : length (picked (set rows (get_or ns i 0) x) ns) ≡ length (set (picked rows ns) i x)
      long = length_picked (set rows (get_or ns i 0) x) ns wide ∙ sym (length-set (picked rows ns) i x ∙ n_picked)

      by_place : (k : ℕ) (d : A) → k < length ns → (k ≡ i) ⊎ (k ≡ i → ⊥) → get_or (set rows (get_or ns i 0) x) (get_or ns k 0) d ≡ get_or (set (picked rows ns) i x) k d
      by_place k d t (inl e) =
          let w : get_or ns i 0 < length rows = h i 0 l in
          let v : i < length (picked rows ns) = omega (arith, n_picked) in
          ap (λ m. get_or (set rows (get_or ns i 0) x) (get_or ns m 0) d) e ∙ get_or-set_same rows (get_or ns i 0) x d w
          ∙ sym (ap (λ m. get_or (set (picked rows ns) i x) m d) e ∙ get_or-set_same (picked rows ns) i x d v)
      by_place k d t (inr e) =
          get_or-set_other rows (get_or ns i 0) (get_or ns k 0) x d (λ q. e (once k t q)) ∙ sym (get_or-set_other (picked rows ns) i k x d e ∙ get_d_picked rows ns h k d t)

      at_each : (k : ℕ) (d : A) → k < length (picked (set rows (get_or ns i 0) x) ns) → get_or (picked (set rows (get_or ns i 0) x) ns) k d ≡ get_or (set (picked rows ns) i x) k d
      at_each k d t =
          let s : k < length ns = omega (arith, length_picked (set rows (get_or ns i 0) x) ns wide) in
          get_d_picked (set rows (get_or ns i 0) x) ns wide k d s ∙ by_place k d s (cases_eq k i)
