-- The models of the flat and the sharing store meet the meaning of a store.
use Rattle.std.proofs.Common.{◌≡◌, ℕ, zero, suc, ◌+◌, ◌<◌, Bool, true, false, List, [], ◌∷◌, ◌++◌, length, get_or, Some, None, Ok, Err, Option, Result, sym, refl, ap, subst, inl, inr, lt_irrefl, arith}
use Rattle.std.proofs.lemmas.List.{length-append, get_or_append_left, get_or_at}
use Rattle.std.proofs.lemmas.Bool.{cases_lt, both_ways}
use Rattle.spec.specs.Lists.{place_of}
use Rattle.spec.specs.Denials.{Word, Part, Denial, arises}
use Rattle.spec.specs.Entries.{Delta, delta_at, deltas_fault, is_alike}
use Rattle.spec.specs.Stores.{Store, Added, Keeps, Known, Unchanged}
use Rattle.spec.specs.StoreModels.{Rows, Held, Within, value, flat, sharing, take_place, FlatAdds, SharingAdds}
use Rattle.stores.proofs.Alikes.{is_alike_true, alike_is}
use Rattle.stores.proofs.Faults.{some_none}

-- rows that recognise by R
abbrev rows_store : (Rows → List Delta → Type 0) → Store Rows
rows_store R = record { held = Held; value = value; free = λ s. s.free; recognises = R; layers = 0 }

pub unchanged : {S : Type 0} (m : Store S) (s : S) → Unchanged m s s
unchanged m s = ((λ k h. (h, λ r. refl), λ k h. (h, λ r. refl), refl), λ l h. h, λ l h. h)

module _ (R : Rows → List Delta → Type 0) (s : Rows) (l : List Delta) where
  abbrev longer : ℕ → Rows
  longer n = record { rows = s.rows ++ l ∷ []; free = n }

  keeps_rows : (n : ℕ) → Keeps (rows_store R) s (longer n)
  keeps_rows n k h = let e = length-append s.rows (l ∷ []) in ((omega arith, h.1), λ r. ap (λ x. delta_at x r) (get_or_append_left s.rows (l ∷ []) [] k h.0))

  -- an unknown list takes the next place, if there is one
  takes : (n : ℕ) → s.free ≡ n → Within s → deltas_fault l ≡ None → (Known (rows_store R) s l → ⊥) → Added (rows_store R) s (take_place s l n).0 l (take_place s l n).1
  takes zero none w good unknown = (unchanged (rows_store R) s, inr (good, unknown, none, refl))
  takes (suc n) some w good unknown =
      let e = length-append s.rows (l ∷ []) in (
        good,
        inr (record {
          unknown = unknown;
          fresh = λ h. lt_irrefl _ h.0;
          holds = ((omega arith, omega arith), λ r. ap (λ x. delta_at x r) (get_or_at s.rows l [] [] (length s.rows) refl));
          keeps = keeps_rows n;
          only = λ i h. elim (cases_lt i (length s.rows)) [ inl a ↦ inl (a, h.1) | inr b ↦ inr (omega arith) ];
          falls = omega arith;
        }),
      )

  -- a list that is denied
  pub denies : (i : ℕ) → deltas_fault l ≡ Some i → Added (rows_store R) s s l (Err (arises Word.bad_deltas i Part.store))
  denies i bad = (unchanged (rows_store R) s, inl (i, bad, refl))

-- ---- what a search in the rows tells

found : (p : List Delta → Bool) (ls : List (List Delta)) (i k : ℕ) → place_of p i ls ≡ Some k → (j : ℕ) × (k ≡ i + j) × (j < length ls) × (p (get_or ls j []) ≡ true)
found p [] i k h = some_none k (sym h)
found p (x ∷ ls) i k h = go (p x) refl h (λ h. found p ls (i + 1) k h)
  where
    go : (t : Bool) → p x ≡ t → (elim t [ true ↦ Some i | false ↦ place_of p (i + 1) ls ]) ≡ Some k
        → (place_of p (i + 1) ls ≡ Some k → (j : ℕ) × (k ≡ i + 1 + j) × (j < length ls) × (p (get_or ls j []) ≡ true))
        → (j : ℕ) × (k ≡ i + j) × (j < suc (length ls)) × (p (get_or (x ∷ ls) j []) ≡ true)
    go true e h later = let q : i ≡ k = cc in (0, omega arith, omega arith, e)
    go false e h later = let r = later h in (suc r.0, omega (arith, r.1), omega (arith, r.2), r.3)

passed_over : (p : List Delta → Bool) (x : List Delta) (ls : List (List Delta)) (i : ℕ) → place_of p i (x ∷ ls) ≡ None → (p x ≡ false) × (place_of p (i + 1) ls ≡ None)
passed_over p x ls i h = go (p x) refl h
  where
    go : (t : Bool) → p x ≡ t → ◌≡◌ {A = Option ℕ} (elim t [ true ↦ Some i | false ↦ place_of p (i + 1) ls ]) None → (p x ≡ false) × (place_of p (i + 1) ls ≡ None)
    go true e h = some_none i h
    go false e h = (e, h)

missing : (p : List Delta → Bool) (ls : List (List Delta)) (i : ℕ) → place_of p i ls ≡ None → (k : ℕ) → k < length ls → p (get_or ls k []) ≡ false
missing p [] i h k b = absurd (omega arith)
missing p (x ∷ ls) i h zero b = (passed_over p x ls i h).0
missing p (x ∷ ls) i h (suc k) b = missing p ls (i + 1) (passed_over p x ls i h).1 k (omega arith)

-- THE FLAT STORE
pub flat_adds : FlatAdds
flat_adds s l w = go (deltas_fault l) refl
  where
    go : (o : Option ℕ) → deltas_fault l ≡ o
        → let r : Rows × Result ℕ Denial = elim o [ None ↦ take_place s l s.free | Some i ↦ (s, Err (arises Word.bad_deltas i Part.store)) ] in Added flat s r.0 l r.1
    go None good = takes (λ s l. ⊥) s l s.free refl w good (λ h. h.1)
    go (Some i) bad = denies (λ s l. ⊥) s l i bad

-- THE SHARING STORE
module _ (s : Rows) (l : List Delta) (w : Within s) where
  -- the list is known by the one that was found
  knows : (k : ℕ) → deltas_fault l ≡ None → place_of (is_alike l) 0 s.rows ≡ Some k → Added sharing s s l (Ok k)
  knows k good h =
      let f = found (is_alike l) s.rows 0 k h in
      let e : f.0 ≡ k = omega (arith, f.1) in
      let held : Held s k = (omega (arith, f.2), omega (arith, f.2)) in
      let alike = is_alike_true l (get_or s.rows k []) (subst (λ j. is_alike l (get_or s.rows j []) ≡ true) e f.3) in
      let same = (unchanged sharing s).0 in
      (good, inl ((get_or s.rows k [], (k, held, refl), alike), same, (held, λ r. sym (alike r))))

  knows_not : place_of (is_alike l) 0 s.rows ≡ None → Known sharing s l → ⊥
  knows_not h q =
      let k = q.1.0 in
      both_ways (is_alike l (get_or s.rows k [])) (missing (is_alike l) s.rows 0 h k q.1.1.0) (subst (λ x. is_alike l x ≡ true) (sym q.1.2) (alike_is l q.0 q.2))

pub sharing_adds : SharingAdds
sharing_adds s l w = go (deltas_fault l) refl (place_of (is_alike l) 0 s.rows) refl
  where
    go : (o : Option ℕ) → deltas_fault l ≡ o → (q : Option ℕ) → place_of (is_alike l) 0 s.rows ≡ q
        → let r : Rows × Result ℕ Denial = elim o [ None ↦ elim q [ Some k ↦ (s, Ok k) | None ↦ take_place s l s.free ] | Some i ↦ (s, Err (arises Word.bad_deltas i Part.store)) ] in
        Added sharing s r.0 l r.1
    go None good (Some k) h = knows s l w k good h
    go None good None h = takes sharing.recognises s l s.free refl w good (knows_not s l w h)
    go (Some i) bad q h = denies sharing.recognises s l i bad
