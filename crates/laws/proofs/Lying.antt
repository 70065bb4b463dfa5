-- Tables lie where their offsets say.
use Rattle.std.proofs.Common.{◌≡◌, ℕ, ◌+◌, ◌*◌, List, [], ◌∷◌, ◌++◌, length, drop, sym, refl, ap, ◌∙◌, subst, arith}
use Rattle.std.proofs.lemmas.List.{append_assoc, length-append, drop-drop, drop_at}
use Rattle.spec.specs.Fields.{big_endian}
use Rattle.spec.specs.Bytes.{Table, end, field, count, child, fields, own, size, head, below, bytes, Below, Lies}
use Rattle.laws.proofs.Standing.{stand}

length_big_endian : (ws : List ℕ) → length (big_endian ws) ≡ 2 * length ws
length_big_endian [] = refl
length_big_endian (w ∷ ws) = let a = length_big_endian ws in omega arith

length_head : (t : Table) (at : ℕ) → 2 * length (head at t) ≡ own t
length_head end at = refl
length_head (field n t) at = let a = length_head t at in omega arith
length_head (count n t) at = let a = length_head t at in omega arith
length_head (child c t) at = let a = length_head t (at + size c) in omega arith

-- the bytes of a table's own fields
length_own : (t : Table) → length (big_endian (head (own t) t)) ≡ own t
length_own t = length_big_endian (head (own t) t) ∙ length_head t (own t)

length_below : (t : Table) → own t + length (below t) ≡ size t
length_below end = refl
length_below (field n t) = let a = length_below t in omega arith
length_below (count n t) = let a = length_below t in omega arith
length_below (child c t) =
    let a = length_below t in
    let b = length_below c in
    let d = length-append (bytes c) (below t) in
    let e = length-append (big_endian (head (own c) c)) (below c) in
    omega (arith, length_own c)

length_bytes : (t : Table) → length (bytes t) ≡ size t
length_bytes t = length-append (big_endian (head (own t) t)) (below t) ∙ omega (arith, length_own t, length_below t)

-- what is behind the first p bytes of a stretch
behind : (bs p q : List ℕ) (k n : ℕ) → drop k bs ≡ p ++ q → length p ≡ n → drop (k + n) bs ≡ q
behind bs p q k n h l = sym (drop-drop n k bs) ∙ ap (drop n) h ∙ drop_at p q n l

-- the children lie at their offsets
below_lies : (t : Table) (bs back : List ℕ) (base at : ℕ) → drop (base + at) bs ≡ below t ++ back → Below bs base at t
below_lies end bs back base at h = tt
below_lies (field n t) bs back base at h = below_lies t bs back base at h
below_lies (count n t) bs back base at h = below_lies t bs back base at h
below_lies (child c t) bs back base at h =
    let rest = below t ++ back in
    let whole : drop (base + at) bs ≡ bytes c ++ rest = h ∙ append_assoc (bytes c) (below t) back in
    let parts : drop (base + at) bs ≡ big_endian (head (own c) c) ++ (below c ++ rest) = whole ∙ append_assoc (big_endian (head (own c) c)) (below c) rest in
    let e : base + at + size c ≡ base + (at + size c) = omega arith in
    let next = behind bs (bytes c) rest (base + at) (size c) whole (length_bytes c) in (
      stand bs (below c ++ rest) (base + at) (head (own c) c) parts,
      below_lies c bs rest (base + at) (own c) (behind bs (big_endian (head (own c) c)) (below c ++ rest) (base + at) (own c) parts (length_own c)),
      below_lies t bs back base (at + size c) (subst (λ n. drop n bs ≡ rest) e next),
    )

-- a table lies where its bytes stand
pub lies : (t : Table) (bs back : List ℕ) (base : ℕ) → drop base bs ≡ bytes t ++ back → Lies bs base t
lies t bs back base h =
    let parts : drop base bs ≡ big_endian (head (own t) t) ++ (below t ++ back) = h ∙ append_assoc (big_endian (head (own t) t)) (below t) back in (
      stand bs (below t ++ back) base (head (own t) t) parts,
      below_lies t bs back base (own t) (behind bs (big_endian (head (own t) t)) (below t ++ back) base (own t) parts (length_own t)),
    )

-- fields have no children, whatever comes before the next
pub fields_head : (ns : List ℕ) (at : ℕ) → head at (fields ns end) ≡ ns
fields_head [] at = refl
fields_head (n ∷ ns) at = ap (λ xs. n ∷ xs) (fields_head ns at)
