-- PairPos subtables of format 1 that lie in bytes read as they are described.
use Rattle.std.proofs.Common.{◌≡◌, ℕ, ◌+◌, ◌*◌, ◌<◌, false, ◌&&◌, eqb, List, [], ◌∷◌, map, length, get_or, Some, None, Ok, sym, ap, ◌∙◌, subst, zero-add}
use Rattle.std.proofs.lemmas.List.{length-map, get_or-map}
use Rattle.std.proofs.lemmas.Bool.{eqb-true, lt-ltb}
use Rattle.spec.specs.Lists.{has, first, map_some}
use Rattle.spec.specs.Fields.{field, and_then}
use Rattle.spec.specs.Build.{BuiltPair, first_glyphs, pair_set}
use Rattle.spec.specs.Bytes.{Table, end, head, own, size, Lies, coverage, children, pair_set_table, glyph_pair_table}
use Rattle.spec.specs.Meaning.{covered, if_covered, pair_search, glyph_pair, pair}
use Rattle.list_laws.proofs.Within.{every_keep}
use Rattle.list_laws.proofs.Rising.{any_sorted}
use Rattle.laws.specs.Conditions.{OfFormat, PairsOf}
use Rattle.laws.specs.Descriptions.{records_read, pair_read}
use Rattle.laws.proofs.Standing.{spread}
use Rattle.laws.proofs.Finding.{Found, absent, there, found, numbers_order, none_any, first_none, first_keep}
use Rattle.laws.proofs.Covering.{coverage_reads}
use Rattle.laws.proofs.PairSets.{pair_set_reads}
use Rattle.laws.proofs.Lookups.{Leads, child_at}

-- a first glyph that is not listed has no pair
no_pair : (g h : ℕ) (es : List BuiltPair) → first (λ x. eqb x g) (first_glyphs es) ≡ None → first (λ e. eqb e.first g && eqb e.second h) es ≡ None
no_pair g h es n =
    let a : has g (map (λ e. e.first) es) ≡ false = sym (any_sorted numbers_order (λ x. eqb x g) (λ x y. ap (λ x. eqb x g)) (map (λ e. e.first) es)) ∙ none_any (λ x. eqb x g) (first_glyphs es) n in
    first_none (λ x. eqb x g) (λ e. eqb e.second h) (λ e. e.first) es a

module _ (bs : List ℕ) (s at f1 f2 : ℕ) (q : ℕ × ℕ) (es : List BuiltPair) (fits : PairsOf f1 f2 es) where
  -- the pair set of the first glyph, found through the offset at k
  set_read : (k : ℕ) → Leads bs at k (pair_set_table f1 f2 (pair_set es q.0))
      → and_then (field bs k) (λ o. and_then (field bs (at + o)) (λ m. pair_search bs s q.1 f1 f2 (at + o) (at + o + 2) m)) ≡ Ok (pair_read s q es)
  set_read k c =
      let ps = pair_set es q.0 in
      let r = pair_set_reads bs s q.1 (at + c.offset) f1 f2 ps (every_keep (λ e. eqb e.first q.0) (λ e. OfFormat f1 e.values1 × OfFormat f2 e.values2) es fits) c.lies in
      rw c.stands (rw c.lies.0.0 (r ∙ ap (λ o. Ok (map_some (records_read s) o)) (first_keep (λ e. eqb e.first q.0) (λ e. eqb e.second q.1) es)))

  -- by where the first glyph is covered
  covered_read : Found (λ x. eqb x q.0) 0 (first_glyphs es) → (k : ℕ) → Lies bs k (coverage (first_glyphs es)) → field bs (at + 4) ≡ Ok f1 → field bs (at + 6) ≡ Ok f2 → field bs (at + 8) ≡ Ok (length (first_glyphs es))
      → ((i : ℕ) (d : ℕ) → i < length (first_glyphs es) → Leads bs at (at + 10 + 2 * i) (pair_set_table f1 f2 (pair_set es (get_or (first_glyphs es) i d))))
      → and_then (covered bs k q.0) (λ c. if_covered c (λ i. and_then (field bs (at + 4)) (λ f1. and_then (field bs (at + 6)) (λ f2. glyph_pair bs s q.1 at i f1 f2)))) ≡ Ok (pair_read s q es)
  covered_read (absent n fi) k c u v m sets = rw (coverage_reads bs k (first_glyphs es) q.0 c ∙ ap Ok n) (rw (no_pair q.0 q.1 es fi))
  covered_read (there j x l n fi e t) k c u v m sets =
      let is : get_or (first_glyphs es) j x ≡ q.0 = e ∙ eqb-true x q.0 t in
      let set = subst (λ g. Leads bs at (at + 10 + 2 * j) (pair_set_table f1 f2 (pair_set es g))) is (sets j x l) in
      rw (coverage_reads bs k (first_glyphs es) q.0 c ∙ ap Ok (n ∙ ap Some (zero-add j)))
      (rw u (rw v (rw m (rw (lt-ltb j (length (first_glyphs es)) l, and_then) (set_read (at + 10 + 2 * j) set)))))

  pub glyph_pairs_read : Lies bs at (glyph_pair_table f1 f2 es) → pair bs s q at ≡ Ok (pair_read s q es)
  glyph_pairs_read h =
      let firsts = first_glyphs es in
      let set : ℕ → Table = λ g. pair_set_table f1 f2 (pair_set es g) in
      let o = own (glyph_pair_table f1 f2 es) in
      let next = o + size (coverage firsts) in
      let p = spread bs at 1 (o ∷ f1 ∷ f2 ∷ length firsts ∷ []) (head next (children (map set firsts) end)) h.0.1 in
      let sets : (i : ℕ) (d : ℕ) → i < length firsts → Leads bs at (at + 10 + 2 * i) (set (get_or firsts i d)) = λ i d l.
      subst (Leads bs at (at + 10 + 2 * i)) (get_or-map set firsts i d end l)
      (child_at bs at (at + 10) next (map set firsts) end i end (p.1.1.1.1, h.1.2) (subst (λ n. i < n) (sym (length-map firsts set)) l)) in
      rw h.0.0 (rw p.0 (covered_read (found (λ x. eqb x q.0) 0 firsts) (at + o) (h.1.0, h.1.1) p.1.0 p.1.1.0 p.1.1.1.0 sets))
