-- Fields that stand in bytes: from the bytes themselves, one by one, and in parts.
use Rattle.std.proofs.Common.{◌≡◌, ℕ, zero, suc, ◌+◌, ◌*◌, ◌/◌, ◌%◌, ◌<◌, List, [], ◌∷◌, ◌++◌, map, length, get_or, drop, Ok, sym, refl, ap, ◌∙◌, subst, arith}
use Rattle.std.proofs.lemmas.List.{length-drop, drop-drop, get_or-drop, length-map, get_or-map}
use Rattle.std.proofs.lemmas.Bool.Decides.{nat_tests}
use Rattle.spec.specs.Lists.{numbers}
use Rattle.spec.specs.Fields.{big_endian, field, Stand}

field_at : (bs back : List ℕ) (k w : ℕ) → drop k bs ≡ w / 256 ∷ w % 256 ∷ back → field bs k ≡ Ok w
field_at bs back k w h =
    let a = get_or-drop k bs 0 0 in
    let b = get_or-drop k bs 1 0 in
    let n = length-drop k bs in
    let m = ap length h in
    grind (arith, nat_tests)

pub stand : (bs back : List ℕ) (k : ℕ) (ws : List ℕ) → drop k bs ≡ big_endian ws ++ back → Stand bs k ws
stand bs back k [] h = tt
stand bs back k (w ∷ ws) h = (field_at bs (big_endian ws ++ back) k w h, stand bs back (k + 2) ws (sym (drop-drop 2 k bs) ∙ ap (drop 2) h))

pub stand_at : (bs : List ℕ) (k : ℕ) (ws : List ℕ) (i : ℕ) → Stand bs k ws → i < length ws → field bs (k + 2 * i) ≡ Ok (get_or ws i 0)
stand_at bs k [] i h l = absurd (omega arith)
stand_at bs k (w ∷ ws) zero h l = let e : k ≡ k + 2 * 0 = omega arith in subst (λ n. field bs n ≡ Ok w) e h.0
stand_at bs k (w ∷ ws) (suc i) h l =
    let e : k + 2 + 2 * i ≡ k + 2 * suc i = omega arith in
    subst (λ n. field bs n ≡ Ok (get_or ws i 0)) e (stand_at bs (k + 2) ws i h.1 (omega arith))

-- fields one by one, the first at k + 2 * i, and then others together
abbrev pub Spread : List ℕ → ℕ → ℕ → List ℕ → List ℕ → Type 0
Spread bs k i [] ws = Stand bs (k + 2 * i) ws
Spread bs k i (u ∷ us) ws = (field bs (k + 2 * i) ≡ Ok u) × Spread bs k (i + 1) us ws

pub spread : (bs : List ℕ) (k i : ℕ) (us ws : List ℕ) → Stand bs (k + 2 * i) (us ++ ws) → Spread bs k i us ws
spread bs k i [] ws h = h
spread bs k i (u ∷ us) ws h =
    let e : k + 2 * i + 2 ≡ k + 2 * (i + 1) = omega arith in
    (h.0, spread bs k (i + 1) us ws (subst (λ n. Stand bs n (us ++ ws)) e h.1))

pub stand_parts : (bs : List ℕ) (k : ℕ) (us ws : List ℕ) → Stand bs k (us ++ ws) → Stand bs k us × Stand bs (k + 2 * length us) ws
stand_parts bs k [] ws h = (tt, let e : k ≡ k + 2 * 0 = omega arith in subst (λ n. Stand bs n ws) e h)
stand_parts bs k (u ∷ us) ws h =
    let r = stand_parts bs (k + 2) us ws h.1 in
    let e : k + 2 + 2 * length us ≡ k + 2 * length (u ∷ us) = omega arith in
    ((h.0, r.0), subst (λ n. Stand bs n ws) e r.1)

-- numbers in a row, and fields made from them
pub length_numbers : (i n : ℕ) → length (numbers i n) ≡ n
length_numbers i zero = refl
length_numbers i (suc n) = ap suc (length_numbers (i + 1) n)

pub getD_numbers : (i n j d : ℕ) → j < n → get_or (numbers i n) j d ≡ i + j
getD_numbers i zero j d l = absurd (omega arith)
getD_numbers i (suc n) zero d l = omega arith
getD_numbers i (suc n) (suc j) d l = let r = getD_numbers (i + 1) n j d (omega arith) in omega arith

pub length_map_numbers : {A : Type 0} (f : ℕ → A) (i n : ℕ) → length (map f (numbers i n)) ≡ n
length_map_numbers f i n = length-map (numbers i n) f ∙ length_numbers i n

pub getD_map_numbers : {A : Type 0} (f : ℕ → A) (i n j : ℕ) (d : A) → j < n → get_or (map f (numbers i n)) j d ≡ f (i + j)
getD_map_numbers f i n j d l = get_or-map f (numbers i n) j 0 d (omega (arith, length_numbers i n)) ∙ ap f (getD_numbers i n j 0 l)
