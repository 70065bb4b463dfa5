-- Spans that stand one after another in a pool, and a list that is written behind them.
use Rattle.std.proofs.Common.{◌≡◌, ℕ, ◌+◌, ◌-◌, ◌<◌, ◌≤◌, Bool, true, false, ◌&&◌, eqb, List, [], ◌∷◌, ◌++◌, map, length, take, drop, set, sym, refl, ap, ◌∙◌, true≢false, arith, length-drop, length-take, eq-eqb, eqb-true}
use lib.ListN.{length-map}
use Rattle.std.proofs.lemmas.List.{take_more_set, take-take, take_at, drop_at, drop-take, length-take-le, map_push}
use Rattle.spec.specs.Lists.{sum_of}
use Rattle.storage.specs.declared.span.Span.{Span}
use Rattle.storage.specs.Interners.{laid, entry}

pub both : (a b : Bool) → (a && b) ≡ true → (a ≡ true) × (b ≡ true)
both true b h = (refl, h)
both false b h = absurd (true≢false (sym h))

module _ {H : Type 0} where
  laid_le : (at : ℕ) (ss : List (Span H)) (end : ℕ) → laid at ss end ≡ true → at ≤ end
  laid_le at [] end h = let e : at ≡ end = eqb-true at end h in omega arith
  laid_le at (s ∷ ss) end h = let r : at + s.len ≤ end = laid_le (at + s.len) ss end (both (eqb s.start at) _ h).1 in omega arith

  laid_push : (at : ℕ) (ss : List (Span H)) (end : ℕ) (s : Span H) → laid at ss end ≡ true → s.start ≡ end → laid at (ss ++ s ∷ []) (end + s.len) ≡ true
  laid_push at [] end s h e =
      let a : at ≡ end = eqb-true at end h in
      let p : s.start ≡ at = omega arith in
      let q : at + s.len ≡ end + s.len = omega arith in
      (λ i. eq-eqb s.start at p i && eq-eqb (at + s.len) (end + s.len) q i)
  laid_push at (x ∷ ss) end s h e =
      let b = both _ _ h in
      (λ i. b.0 i && laid_push (at + x.len) ss end s b.1 e i)

  -- the table with one span more
  pub laid_more : (table table' : List (Span H)) (used filled : ℕ) (s : Span H) → table' ≡ table → used < length table → laid 0 (take used table) filled ≡ true → s.start ≡ filled
      → laid 0 (take (used + 1) (set table' used s)) (filled + s.len) ≡ true
  laid_more table table' used filled s t h l e =
      ap (λ tb. laid 0 (take (used + 1) (set tb used s)) (filled + s.len)) t
      ∙ ap (λ ss. laid 0 ss (filled + s.len)) (take_more_set table used s h)
      ∙ laid_push 0 (take used table) filled s l e

module _ {T H : Type 0} where
  -- ---- how many elements the lists have together
  weight_from : (pool : List T) (at : ℕ) (ss : List (Span H)) (end : ℕ) → laid at ss end ≡ true → end ≤ length pool → at + sum_of (λ e. length e.1) (map (entry pool) ss) ≡ end
  weight_from pool at [] end h k = let e : at ≡ end = eqb-true at end h in omega arith
  weight_from pool at (s ∷ ss) end h k =
      let b = both _ _ h in
      let e : s.start ≡ at = eqb-true s.start at b.0 in
      let l : at + s.len ≤ end = laid_le (at + s.len) ss end b.1 in
      let d : length (drop s.start pool) ≡ length pool - s.start = length-drop s.start pool in
      let t = length-take s.len (drop s.start pool) in
      let o : length (entry pool s).1 ≡ s.len = omega arith in
      let r : (at + s.len) + sum_of (λ e. length e.1) (map (entry pool) ss) ≡ end = weight_from pool (at + s.len) ss end b.1 k in
      omega arith

  pub weight_is : (pool : List T) (ss : List (Span H)) (end : ℕ) → laid 0 ss end ≡ true → end ≤ length pool → sum_of (λ e. length e.1) (map (entry pool) ss) ≡ end
  weight_is pool ss end h k = let w : 0 + sum_of (λ e. length e.1) (map (entry pool) ss) ≡ end = weight_from pool 0 ss end h k in omega arith

  pub length_is : (pool : List T) (table : List (Span H)) (used : ℕ) → used ≤ length table → length (map (entry pool) (take used table)) ≡ used
  length_is pool table used h = length-map (take used table) (entry pool) ∙ length-take-le used table h

  -- ---- what is written
  entry_kept : (pool pool' : List T) (end : ℕ) → take end pool' ≡ take end pool → (s : Span H) → s.start + s.len ≤ end → entry pool' s ≡ entry pool s
  entry_kept pool pool' end e s h =
      let cut : (p : List T) → take s.len (drop s.start p) ≡ drop s.start (take (s.start + s.len) (take end p)) =
      λ p. sym (ap (drop s.start) (take-take (s.start + s.len) end p h) ∙ drop-take s.start s.len p) in
      ap (λ ys. (s.head, ys)) (cut pool' ∙ ap (λ p. drop s.start (take (s.start + s.len) p)) e ∙ sym (cut pool))

  kept : (pool pool' : List T) (at : ℕ) (ss : List (Span H)) (end : ℕ) → laid at ss end ≡ true → take end pool' ≡ take end pool → map (entry pool') ss ≡ map (entry pool) ss
  kept pool pool' at [] end h e = refl
  kept pool pool' at (s ∷ ss) end h e =
      let b = both _ _ h in
      let q : s.start ≡ at = eqb-true s.start at b.0 in
      let l : at + s.len ≤ end = laid_le (at + s.len) ss end b.1 in
      let w : s.start + s.len ≤ end = omega arith in
      (λ i. entry_kept pool pool' end e s w i ∷ kept pool pool' (at + s.len) ss end b.1 e i)

  -- pool' is the pool with the list behind what it held, and the table has its span at `used`
  pub pushed : (pool pool' list : List T) (table table' : List (Span H)) (used filled : ℕ) (head : H) → table' ≡ table → used < length table → filled ≤ length pool → laid 0 (take used table) filled ≡ true
      → take (filled + length list) pool' ≡ take filled pool ++ list
      → map (entry pool') (take (used + 1) (set table' used (record { start = filled; len = length list; head = head }))) ≡ map (entry pool) (take used table) ++ (head, list) ∷ []
  pushed pool pool' list table table' used filled head t h k l w =
      let s : Span H = record { start = filled; len = length list; head = head } in
      let long : length (take filled pool) ≡ filled = length-take-le filled pool k in
      let le : filled ≤ filled + length list = omega arith in
      let front : take filled pool' ≡ take filled pool = sym (take-take filled (filled + length list) pool' le) ∙ ap (take filled) w ∙ take_at (take filled pool) list filled long in
      let back : take (length list) (drop filled pool') ≡ list = sym (drop-take filled (length list) pool') ∙ ap (drop filled) w ∙ drop_at (take filled pool) list filled long in
      ap (λ tb. map (entry pool') (take (used + 1) (set tb used s))) t
      ∙ ap (map (entry pool')) (take_more_set table used s h)
      ∙ map_push (entry pool') (take used table) s
      ∙ (λ i. kept pool pool' 0 (take used table) filled l front i ++ (head, back i) ∷ [])
