-- What the calls of an ordered table answer and leave, from where the key stands.
use Rattle.std.proofs.Common.{◌≡◌, ℕ, ◌+◌, ◌-◌, ◌<◌, ◌≤◌, true, ◌⊎◌, List, [], ◌∷◌, length, get_or, take, set, Some, None, Ok, Err, Result, Ordering, Equal, refl, sym, ap, subst, ◌∙◌, inl, inr, arith, le-ltb, lt-ltb, length-set}
use Rattle.std.specs.Cmp.{IsTotalOrder}
use Rattle.std.specs.List.{insert, CopiedTo, SameBelow}
use Rattle.std.specs.Result.{result_ok}
use Rattle.std.specs.Ordering.{is_lt, ordering_reverse}
use Rattle.std.proofs.lemmas.List.Edits.{length-insert}
use Rattle.std.proofs.lemmas.List.{length-take-le, get_or-take}
use Rattle.std.proofs.lemmas.Bool.{cases_order}
use Rattle.spec.specs.Denials.{Word, Part, Answer, arises, when}
use Rattle.spec.specs.Lists.{at, map_some}
use Rattle.denials.specs.declared.denial.Denial as code_denial
use Rattle.denials.specs.Answers.{denied_or, left_by}
use Rattle.denials.specs.Denials.{denial_of}
use Rattle.tables.specs.Tables.{Below, picked, rises, lookup, at_or_above, full_denial, Contents, contents, Placed, Inserted, IsOrdered, IsStored}
use Rattle.list_laws.proofs.Cuts.{at_getD}
use Rattle.tables.proofs.KeyOrder.{lookup_at, lookup_none, above_at, rises_put, rises_set, apart}
use Rattle.tables.proofs.Picks.{below_wider, below_inserted, length_picked, get_d_picked, picked_inserted, picked_set}
use Rattle.tables.proofs.Shifts.{opened}

-- ---- the answer
module _ {K V : Type 0} (t : Contents K V) (ps : List (K × V)) where
  -- the pairs are few enough
  pub told_taken : length ps ≤ t.most → (u : Contents K V) → u.pairs ≡ ps → u.most ≡ t.most → Inserted t u ps (Ok tt)
  told_taken l u e m =
      let none : full_denial t ps ≡ None = ap (λ b. when b (arises Word.full 0 Part.rules)) (le-ltb t.most (length ps) l) in
      record { answer = sym (ap (λ d. denied_or d Answer.taken) none); after = e ∙ sym (ap (λ d. left_by d t.pairs ps) none); same_most = m }

  -- they are too many
  pub told_full : t.most < length ps → (d : code_denial.Denial) → denial_of d ≡ arises Word.full 0 Part.rules → Inserted t t ps (Err d)
  told_full l d e =
      let full : full_denial t ps ≡ Some (arises Word.full 0 Part.rules) = ap (λ b. when b (arises Word.full 0 Part.rules)) (lt-ltb t.most (length ps) l) in
      record { answer = ap Answer.denied e ∙ sym (ap (λ d. denied_or d Answer.taken) full); after = sym (ap (λ d. left_by d t.pairs ps) full); same_most = refl }

-- ---- what a place says
at_lookup : {K V : Type 0} (c : K → K → Ordering) (ps : List (K × V)) (k : K) (i : ℕ) → Placed c ps k (Ok i) → map_some (λ p. p.1) (at ps i) ≡ lookup c ps k
at_lookup c [] k i h = absurd (let z : ⊥ = omega (arith, h.0) in z)
at_lookup c (p ∷ ps) k i h = ap (map_some (λ q. q.1)) (sym (at_getD (p ∷ ps) i p h.0)) ∙ sym (lookup_at c (p ∷ ps) k i p h.0 h.1 (h.2 p))

found : {K V : Type 0} (c : K → K → Ordering) (ps : List (K × V)) (k : K) (r : Result ℕ ℕ) (i : ℕ) → Placed c ps k r → result_ok r ≡ Some i → Placed c ps k (Ok i)
found c ps k (Ok j) i h e = let q : j ≡ i = cc in subst (λ n. Placed c ps k (Ok n)) q h
found c ps k (Err j) i h e = absurd (let z : ⊥ = cc in z)

pub lookup_found : {K V : Type 0} (c : K → K → Ordering) (ps : List (K × V)) (k : K) (r : Result ℕ ℕ) (i : ℕ) → Placed c ps k r → result_ok r ≡ Some i → map_some (λ p. p.1) (at ps i) ≡ lookup c ps k
lookup_found c ps k r i h e = at_lookup c ps k i (found c ps k r i h e)

pub lookup_missing : {K V : Type 0} (c : K → K → Ordering) (ps : List (K × V)) (k : K) (r : Result ℕ ℕ) → Placed c ps k r → result_ok r ≡ None → None ≡ lookup c ps k
lookup_missing c ps k (Ok i) h e = absurd (let z : ⊥ = cc in z)
lookup_missing c ps k (Err i) h e = sym (lookup_none c ps k i h.1 h.2)

module _ {K V : Type 0} {c : K → K → Ordering} where
  -- ---- what is stored
  module _ {rows : List (K × V)} {order : List ℕ} {used : ℕ} (s : IsStored c rows order used) where
    pub wide : Below (length rows) (take used order)
    wide = below_wider used (length rows) (take used order) s.in_rows s.numbers

    pub length_numbers : length (take used order) ≡ used
    length_numbers = length-take-le used order s.in_order

    pub length_stored : length (picked rows (take used order)) ≡ used
    length_stored = length_picked rows (take used order) wide ∙ length_numbers

    pub ordered : used ≤ 65535 → IsOrdered c (contents rows order used)
    ordered l =
        let n = length_stored in
        let a = s.in_rows in
        let b = s.in_order in
        record { rising = s.rising; in_places = omega arith; few_places = omega arith }

    -- the table t of these fields, and a place in it where a new key would stand
    module _ (t : Contents K V) (e : contents rows order used ≡ t) where
      pub gap_within : (k : K) (i : ℕ) → Placed c t.pairs k (Err i) → i ≤ used
      gap_within k i h = let n = length_stored in let v = ap (λ u. length u.pairs) e in omega (arith, h.0)

      pub room : used ≤ 65535 → (used ≡ t.most → ⊥) → (used < length rows) × (used < length order) × (used < 65535)
      room l free =
          let v = ap (λ u. u.most) e in
          let a = s.in_rows in
          let b = s.in_order in
          (omega arith, omega arith, omega arith)

      pub told_full_when : (k : K) (v : V) (i : ℕ) → Placed c t.pairs k (Err i) → used ≡ t.most → (d : code_denial.Denial) → denial_of d ≡ arises Word.full 0 Part.rules → Inserted t t (insert t.pairs i (k, v)) (Err d)
      told_full_when k v i h full =
          let n = length_stored in
          let u = ap (λ u. length u.pairs) e in
          let m = length-insert t.pairs i (k, v) h.0 in
          told_full t (insert t.pairs i (k, v)) (omega arith)

    -- a row comes behind the others, and its number at i, the numbers from i on having moved up
    module _ (o : IsTotalOrder c) (k : K) (v : V) (i : ℕ) (gap : Placed c (picked rows (take used order)) k (Err i)) (free : (used < length rows) × (used < length order) × (used < 65535)) (moved : List ℕ)
        (long : length moved ≡ length order) (copied : CopiedTo order moved i (i + 1) (used - i)) (same : SameBelow order moved (i + 1)) where
      within : i ≤ used
      within = let n = length_stored in omega (arith, gap.0)

      numbers : take (used + 1) (set moved i used) ≡ insert (take used order) i used
      numbers = opened order moved used i used free.1 long within (λ j d l. same j d (omega arith)) up
        where
          up : (j d : ℕ) → i < j → j ≤ used → get_or moved j d ≡ get_or order (j - 1) d
          up j d l m = let w = within in let e : i + (j - (i + 1)) ≡ j - 1 = omega arith in copied j d (omega arith) (omega arith) ∙ ap (λ a. get_or order a d) e

      added : picked (set rows used (k, v)) (take (used + 1) (set moved i used)) ≡ insert (picked rows (take used order)) i (k, v)
      added = let n = length_numbers in let w = within in ap (picked (set rows used (k, v))) numbers ∙ picked_inserted rows used i (k, v) (take used order) s.numbers free.0 (omega arith)

      pub stored : IsStored c (set rows used (k, v)) (set moved i used) (used + 1)
      stored =
          let a = length-set rows used (k, v) in
          let b = length-set moved i used in
          let f = free in
          record {
            in_rows = omega arith;
            in_order = omega arith;
            numbers = rw numbers (below_inserted used i (take used order) s.numbers);
            rising = ap (rises c) added ∙ rises_put c o (picked rows (take used order)) k v i s.rising gap.0 gap.1 (λ d m. gap.2 i d (omega arith) m);
          }

      pub told_added : Inserted (contents rows order used) (contents (set rows used (k, v)) (set moved i used) (used + 1)) (insert (picked rows (take used order)) i (k, v)) (Ok tt)
      told_added =
          let a = length-set rows used (k, v) in
          let b = length-set moved i used in
          let n = length_stored in
          let m = length-insert (picked rows (take used order)) i (k, v) gap.0 in
          let f = free in
          told_taken (contents rows order used) (insert (picked rows (take used order)) i (k, v)) (omega arith) (contents (set rows used (k, v)) (set moved i used) (used + 1)) added (omega arith)

  module _ (o : IsTotalOrder c) where
    pub above : (ps : List (K × V)) (k : K) (r : Result ℕ ℕ) → Placed c ps k r → elim r [ Ok i ↦ i | Err i ↦ i ] ≡ at_or_above c ps k
    above ps k (Ok i) h = let l : i ≤ length ps = omega (arith, h.0) in above_at c o ps k i l h.1 (λ d m. ap is_lt (o.antisymm _ k ∙ ap ordering_reverse (h.2 d)))
    above ps k (Err i) h = above_at c o ps k i h.0 h.1 (λ d m. ap is_lt (o.antisymm _ k ∙ ap ordering_reverse (h.2 i d (omega arith) m)))

    -- no number stands twice
    once : (rows : List (K × V)) (ns : List ℕ) → Below (length rows) ns → rises c (picked rows ns) ≡ true → (i j : ℕ) (d : K × V) → i < length ns → j < length ns → get_or ns j 0 ≡ get_or ns i 0 → j ≡ i
    once rows ns h r i j d l m e = by_order (cases_order j i)
      where
        n : length (picked rows ns) ≡ length ns
        n = length_picked rows ns h

        same : (get_or (picked rows ns) j d).0 ≡ (get_or (picked rows ns) i d).0
        same = ap (λ p. p.0) (get_d_picked rows ns h j d m ∙ ap (λ a. get_or rows a d) e ∙ sym (get_d_picked rows ns h i d l))

        by_order : (j ≡ i) ⊎ ((j < i) ⊎ (i < j)) → j ≡ i
        by_order (inl q) = q
        by_order (inr (inl q)) = absurd (apart c o (picked rows ns) r j i d q (omega (arith, n)) same)
        by_order (inr (inr q)) = absurd (apart c o (picked rows ns) r i j d q (omega (arith, n)) (sym same))

    -- a row is written over
    pub set_row : (rows : List (K × V)) (ns : List ℕ) (i n : ℕ) (x : K × V) → Below (length rows) ns → rises c (picked rows ns) ≡ true → i < length ns → n ≡ get_or ns i 0
        → picked (set rows n x) ns ≡ set (picked rows ns) i x
    set_row rows ns i n x h r l e = ap (λ m. picked (set rows m x) ns) e ∙ picked_set rows ns i x h l (λ j m q. once rows ns h r i j x l m q)

    -- another pair with its key
    module _ {rows : List (K × V)} {order : List ℕ} {used : ℕ} (s : IsStored c rows order used) (i : ℕ) (x : K × V) (l : i < length (picked rows (take used order))) (same : (d : K × V) → c x.0 (get_or (picked rows (take used order)) i d).0 ≡ Equal) where
      pub within_used : i < used
      within_used = let n = length_stored s in omega arith

      pub row_within : get_or order i 0 < length rows
      row_within =
          let w = within_used in
          let n = length_numbers s in
          let b = wide s i 0 (omega arith) in
          rw (← get_or-take used order i 0 w) b

      pub replaced_pair : picked (set rows (get_or order i 0) x) (take used order) ≡ set (picked rows (take used order)) i x
      replaced_pair =
          let w = within_used in
          let n = length_numbers s in
          set_row rows (take used order) i (get_or order i 0) x (wide s) s.rising (omega arith) (sym (get_or-take used order i 0 w))

      pub still_stored : IsStored c (set rows (get_or order i 0) x) order used
      still_stored =
          let e = length-set rows (get_or order i 0) x in
          let a = s.in_rows in
          record { in_rows = omega arith; in_order = s.in_order; numbers = s.numbers; rising = ap (rises c) replaced_pair ∙ rises_set c o x.0 x.1 (picked rows (take used order)) i same ∙ s.rising }
