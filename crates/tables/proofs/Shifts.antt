-- Numbers that move up by one place.
use Rattle.std.proofs.Common.{◌≡◌, ℕ, ◌+◌, ◌-◌, ◌<◌, ◌≤◌, min, ◌≢◌, ◌⊎◌, List, length, get_or, take, set, sym, ap, ◌∙◌, inl, inr, arith, length-set, length-take}
use Rattle.std.specs.List.{insert}
use Rattle.std.proofs.lemmas.List.Edits.{length-insert, get_or-insert_below, get_or-insert_at, get_or-insert_above}
use Rattle.std.proofs.lemmas.List.{get_or-set_same, get_or-set_other, get_or-take, same_lists}
use Rattle.std.proofs.lemmas.Bool.{cases_order}

module _ {A : Type 0} where
  -- rows' has the rows from i up to n one place further up
  pub opened : (rows rows' : List A) (n i : ℕ) (x : A) → n < length rows → length rows' ≡ length rows → i ≤ n
      → ((k : ℕ) (d : A) → k ≤ i → get_or rows' k d ≡ get_or rows k d)
      → ((k : ℕ) (d : A) → i < k → k ≤ n → get_or rows' k d ≡ get_or rows (k - 1) d)
      → take (n + 1) (set rows' i x) ≡ insert (take n rows) i x
  opened rows rows' n i x h l le below above = same_lists _ _ long at_each
    where
      front : length (take n rows) ≡ n
      front = let e : length (take n rows) ≡ min n (length rows) = length-take n rows in omega arith

      le' : i ≤ length (take n rows)
      le' = omega (arith, front)

      cut : length (take (n + 1) (set rows' i x)) ≡ n + 1
      cut = let e : length (take (n + 1) (set rows' i x)) ≡ min (n + 1) (length (set rows' i x)) = length-take (n + 1) (set rows' i x) in
          let f : length (set rows' i x) ≡ length rows' = length-set rows' i x in
          omega arith

      long : length (take (n + 1) (set rows' i x)) ≡ length (insert (take n rows) i x)
      long = let a = length-insert (take n rows) i x le' in omega (arith, a, cut, front)

      by_place : (k : ℕ) (d : A) → k < n + 1 → (k ≡ i) ⊎ ((k < i) ⊎ (i < k)) → get_or (set rows' i x) k d ≡ get_or (insert (take n rows) i x) k d
      by_place k d t (inl e) =
          let w : i < length rows' = omega arith in
          ap (λ m. get_or (set rows' i x) m d) e ∙ get_or-set_same rows' i x d w ∙ sym (get_or-insert_at (take n rows) i x d le') ∙ ap (λ m. get_or (insert (take n rows) i x) m d) (sym e)
      by_place k d t (inr (inl u)) =
          let ne : k ≢ i = omega arith in
          get_or-set_other rows' i k x d ne ∙ below k d (omega arith) ∙ sym (get_or-take n rows k d (omega arith)) ∙ sym (get_or-insert_below (take n rows) i x d k u le')
      by_place k d t (inr (inr u)) =
          let ne : k ≢ i = omega arith in
          let q : (k - 1) + 1 ≡ k = omega arith in
          get_or-set_other rows' i k x d ne ∙ above k d u (omega arith) ∙ sym (get_or-take n rows (k - 1) d (omega arith)) ∙ sym (get_or-insert_above (take n rows) i x d (k - 1) (omega arith) le') ∙ ap (λ m. get_or (insert (take n rows) i x) m d) q

      at_each : (k : ℕ) (d : A) → k < length (take (n + 1) (set rows' i x)) → get_or (take (n + 1) (set rows' i x)) k d ≡ get_or (insert (take n rows) i x) k d
      at_each k d t = let s : k < n + 1 = omega (arith, cut) in get_or-take (n + 1) (set rows' i x) k d s ∙ by_place k d s (cases_order k i)
