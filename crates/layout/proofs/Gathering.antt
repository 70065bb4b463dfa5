-- Glyphs gathered one after the other make the ranges of the definitions.
use Rattle.std.proofs.Common.{◌≡◌, ℕ, ◌+◌, ◌<◌, ◌≤◌, Bool, true, false, ◌&&◌, eqb, List, [], ◌∷◌, map, length, get_or, drop, Some, None, Option, sym, refl, ap, ◌∙◌, arith}
use Rattle.std.proofs.lemmas.Bool.Decides.{nat_tests}
use Rattle.std.specs.Option.{is_some}
use Rattle.std.specs.Int.{from_bool}
use Rattle.std.proofs.lemmas.List.{length-map, drop_more, drop_all}
use Rattle.spec.specs.Coverage.{Range, joined, ranges}
use Rattle.layout.specs.declared.gather.RangeRecord.{RangeRecord}
use Rattle.layout.specs.declared.ranges.Ranges.{Ranges}
use Rattle.layout.specs.Gathering.{step_if, step, emitted, gathered, coming, ranged}

abbrev join_if : Bool → Range → Range → List Range → List Range
join_if true r q qs = record { start = r.start; end = q.end; class = r.class } ∷ qs
join_if false r q qs = r ∷ q ∷ qs

-- a range before the ranges behind it: it takes the next if that begins one higher with its class
abbrev before : Range → List Range → List Range
before r [] = r ∷ []
before r (q ∷ qs) = join_if (eqb q.start (r.end + 1) && eqb q.class r.class) r q qs

joined_before : (g c : ℕ) (rs : List Range) → joined g c rs ≡ before (record { start = g; end = g; class = c }) rs
joined_before g c [] = refl
joined_before g c (q ∷ qs) = go (eqb q.start (g + 1) && eqb q.class c)
  where
    go : (b : Bool) → ◌≡◌ {A = List Range} (elim b [ true ↦ record { start = g; end = q.end; class = c } ∷ qs | false ↦ record { start = g; end = g; class = c } ∷ q ∷ qs ]) (join_if b (record { start = g; end = g; class = c }) q qs)
    go true = refl
    go false = refl

-- before rs, a range that ends at g with class c ends there, and these stand behind it
abbrev end_if : Bool → ℕ → Range → ℕ
end_if true g q = q.end
end_if false g q = g

abbrev end_of : ℕ → ℕ → List Range → ℕ
end_of g c [] = g
end_of g c (q ∷ qs) = end_if (eqb q.start (g + 1) && eqb q.class c) g q

abbrev behind_if : Bool → Range → List Range → List Range
behind_if true q qs = qs
behind_if false q qs = q ∷ qs

abbrev behind : ℕ → ℕ → List Range → List Range
behind g c [] = []
behind g c (q ∷ qs) = behind_if (eqb q.start (g + 1) && eqb q.class c) q qs

shape : (a g c : ℕ) (rs : List Range) → before (record { start = a; end = g; class = c }) rs ≡ record { start = a; end = end_of g c rs; class = c } ∷ behind g c rs
shape a g c [] = refl
shape a g c (q ∷ qs) = go (eqb q.start (g + 1) && eqb q.class c)
  where
    go : (b : Bool) → join_if b (record { start = a; end = g; class = c }) q qs ≡ record { start = a; end = end_if b g q; class = c } ∷ behind_if b q qs
    go true = refl
    go false = refl

abbrev before_if : Bool → RangeRecord → ℕ → ℕ → List Range → List Range
before_if true r g c rs = before (record { start = r.start; end = g; class = c }) rs
before_if false r g c rs = ranged r ∷ before (record { start = g; end = g; class = c }) rs

-- the open range takes the glyph, or stands before the range that the glyph begins
before_twice : (r : RangeRecord) (g c : ℕ) (rs : List Range) → before (ranged r) (before (record { start = g; end = g; class = c }) rs) ≡ before_if (eqb g (r.end + 1) && eqb c r.class) r g c rs
before_twice r g c rs = ap (before (ranged r)) (shape g g c rs) ∙ go (eqb g (r.end + 1) && eqb c r.class) refl
  where
    go : (b : Bool) → eqb g (r.end + 1) && eqb c r.class ≡ b → join_if b (ranged r) (record { start = g; end = end_of g c rs; class = c }) (behind g c rs) ≡ before_if b r g c rs
    go true e = let k : r.class ≡ c = grind (arith, nat_tests) in ap (λ d. record { start = r.start; end = end_of g c rs; class = d } ∷ behind g c rs) k ∙ sym (shape r.start g c rs)
    go false e = ap (λ l. ranged r ∷ l) (sym (shape g g c rs))

gather_if : (b : Bool) (r : RangeRecord) (g c : ℕ) (ps : List (ℕ × ℕ)) → ((q : RangeRecord) → map ranged (gathered (Some q) ps) ≡ before (ranged q) (ranges ps))
    → map ranged (emitted (step_if b r g c).1 (gathered (step_if b r g c).0 ps)) ≡ before_if b r g c (ranges ps)
gather_if true r g c ps h = h (record { start = r.start; end = g; class = c })
gather_if false r g c ps h = ap (λ l. ranged r ∷ l) (h (record { start = g; end = g; class = c }))

gather_open : (r : RangeRecord) (ps : List (ℕ × ℕ)) → map ranged (gathered (Some r) ps) ≡ before (ranged r) (ranges ps)
gather_open r [] = refl
gather_open r (p ∷ ps) =
    gather_if (eqb p.0 (r.end + 1) && eqb p.1 r.class) r p.0 p.1 ps (λ q. gather_open q ps)
    ∙ sym (ap (before (ranged r)) (joined_before p.0 p.1 (ranges ps)) ∙ before_twice r p.0 p.1 (ranges ps))

pub gather_all : (ps : List (ℕ × ℕ)) → map ranged (gathered None ps) ≡ ranges ps
gather_all [] = refl
gather_all (p ∷ ps) = gather_open (record { start = p.0; end = p.0; class = p.1 }) ps ∙ sym (joined_before p.0 p.1 (ranges ps))

-- ---- how many there are

few : (o : Option RangeRecord) (ps : List (ℕ × ℕ)) → length (gathered o ps) ≤ length (emitted o []) + length ps
few o [] = omega arith
few None (p ∷ ps) = let h = few (Some (record { start = p.0; end = p.0; class = p.1 })) ps in omega arith
few (Some r) (p ∷ ps) = go (eqb p.0 (r.end + 1) && eqb p.1 r.class) (λ q. few (Some q) ps)
  where
    go : (b : Bool) → ((q : RangeRecord) → length (gathered (Some q) ps) ≤ 1 + length ps) → length (emitted (step_if b r p.0 p.1).1 (gathered (step_if b r p.0 p.1).0 ps)) ≤ 1 + length (p ∷ ps)
    go true h = let k = h (record { start = r.start; end = p.0; class = p.1 }) in omega arith
    go false h = let k = h (record { start = p.0; end = p.0; class = p.1 }) in omega arith

pub few_all : {E : Type 0} (f : E → ℕ × ℕ) (xs : List E) → length (ranges (map f xs)) ≤ length xs
few_all f xs = omega (arith, few None (map f xs), length-map xs f, length-map (gathered None (map f xs)) ranged, ap length (gather_all (map f xs)))

-- ---- counting them

emits : (x : Option RangeRecord) (rs : List RangeRecord) → length (emitted x rs) ≡ from_bool (is_some x) + length rs
emits None rs = omega arith
emits (Some r) rs = omega arith

module _ {E : Type 0} (f : E → ℕ × ℕ) where
  pub count_none : (xs : List E) → length (gathered None (map f xs)) ≡ length (ranges (map f xs))
  count_none xs = sym (length-map (gathered None (map f xs)) ranged) ∙ ap length (gather_all (map f xs))

  -- one entry more, a being its glyph and b its class: before it o is open, behind it q, and it closes r
  pub count_next : (xs : List E) (i : ℕ) (x : E) → i < length xs → x ≡ get_or xs i x → (a b : ℕ) → a ≡ (f x).0 → b ≡ (f x).1 → (o q r : Option RangeRecord) → q ≡ (step o a b).0 → r ≡ (step o a b).1
      → length (gathered o (map f (drop i xs))) ≡ from_bool (is_some r) + length (gathered q (map f (drop (i + 1) xs)))
  count_next xs i x h e a b m n o q r s t =
      let ys = map f (drop (i + 1) xs) in
      ap (λ l. length (gathered o (map f l))) (drop_more xs i x h ∙ ap (λ y. y ∷ drop (i + 1) xs) (sym e))
      ∙ ap (λ k. length (emitted (step o k (f x).1).1 (gathered (step o k (f x).1).0 ys))) (sym m)
      ∙ ap (λ k. length (emitted (step o a k).1 (gathered (step o a k).0 ys))) (sym n)
      ∙ emits (step o a b).1 (gathered (step o a b).0 ys)
      ∙ ap (λ z. from_bool (is_some z) + length (gathered (step o a b).0 ys)) (sym t)
      ∙ ap (λ z. from_bool (is_some r) + length (gathered z ys)) (sym s)

  pub count_last : (xs : List E) (i : ℕ) (o : Option RangeRecord) → length xs ≤ i → length (gathered o (map f (drop i xs))) ≡ from_bool (is_some o)
  count_last xs i o h = let e = emits o [] in omega (arith, ap (λ l. length (gathered o (map f l))) (drop_all i xs h))

-- at the beginning all ranges are to come
module _ {E : Type 0} (f : E → ℕ × ℕ) (xs : List E) (s : Ranges E) (p : s.gatherer.open ≡ None) (q : s.entries.now ≡ xs) where
  pub coming_all : coming f s ≡ gathered None (map f xs)
  coming_all = ap (λ o. gathered o (map f s.entries.now)) p ∙ ap (λ l. gathered None (map f l)) q

  pub ranges_coming : map ranged (coming f s) ≡ ranges (map f xs)
  ranges_coming = ap (map ranged) coming_all ∙ gather_all (map f xs)

  pub count_coming : length (coming f s) ≡ length (ranges (map f xs))
  count_coming = ap length coming_all ∙ count_none f xs

  pub few_coming : length (coming f s) ≤ length xs
  few_coming = omega (arith, count_coming, few_all f xs)
