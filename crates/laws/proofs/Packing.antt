-- Values packed into words, in any of the three delta formats, come out again.
use Rattle.std.proofs.Common.{◌≡◌, ℕ, zero, suc, ◌+◌, ◌-◌, ◌*◌, ◌/◌, ◌%◌, ◌^◌, ◌<◌, ◌≤◌, min, List, [], ◌∷◌, length, get_or, take, drop, ℤ, pos, negsuc, sym, refl, ap, ◌∙◌, subst, mod-eq_of_lt, mul_assoc, mul-one, mul-add, arith}
use native.Mathlib.Nat.{mul-add-div_right, mul-add-mod_self_right}
use lib.Arith.{digits_lt, digits_div}
use Rattle.std.proofs.lemmas.Bool.Decides.{nat_tests}
use Rattle.std.proofs.lemmas.Nat.{pow_pos, pow-add, mod_below, mul-le, div-add-mod'}
use Rattle.std.proofs.lemmas.List.{length-drop, length-take, get_or-take, get_or-drop}
use Rattle.spec.specs.Fields.{bits_of, signed}
use Rattle.spec.specs.Devices.{needed_format, delta_format, per_word, pack, word, unpack}
use Rattle.laws.specs.Conditions.{Within}

-- ---- delta formats

needed_bounds : (v : ℤ) → (1 ≤ needed_format v) × (needed_format v ≤ 3)
needed_bounds (pos n) = grind (arith, nat_tests)
needed_bounds (negsuc n) = grind (arith, nat_tests)

pub format_bounds : (vs : List ℤ) → (1 ≤ delta_format vs) × (delta_format vs ≤ 3)
format_bounds [] = (omega arith, omega arith)
format_bounds (v ∷ vs) = let a = needed_bounds v in let b = format_bounds vs in (omega arith, omega arith)

needed_below : (vs : List ℤ) (k : ℕ) → k < length vs → needed_format (get_or vs k (pos 0)) ≤ delta_format vs
needed_below [] k h = absurd (omega arith)
needed_below (v ∷ vs) zero h = omega arith
needed_below (v ∷ vs) (suc k) h = omega (arith, needed_below vs k (omega arith))

by_format : (P : ℕ → Type 0) (f : ℕ) → 1 ≤ f → f ≤ 3 → P 1 → P 2 → P 3 → P f
by_format P zero a b x y z = absurd (omega arith)
by_format P (suc zero) a b x y z = x
by_format P (suc (suc zero)) a b x y z = y
by_format P (suc (suc (suc zero))) a b x y z = z
by_format P (suc (suc (suc (suc f)))) a b x y z = absurd (omega arith)

-- ---- one word

bits_below : (w : ℕ) (v : ℤ) → bits_of w v < 2 ^ w
bits_below w (pos n) = mod_below n (2 ^ w) (pow_pos w)
bits_below w (negsuc n) = omega (arith, pow_pos w)

-- one value more before those from place i + 1 on
one_more : (w i n : ℕ) → w * (i + suc n) ≡ w * ((i + 1) + n)
one_more w i n = ap (λ x. w * x) (omega arith)

pack_below : (w i : ℕ) (vs : List ℤ) → w * (i + length vs) ≤ 16 → pack w i vs < 2 ^ (16 - w * i)
pack_below w i [] h = pow_pos (16 - w * i)
pack_below w i (v ∷ vs) h =
    let e = one_more w i (length vs) in
    let a = mul-add w (i + 1) (length vs) in
    let b : w * (i + 1) ≡ w * i + w = mul-add w i 1 ∙ ap (λ x. w * i + x) (mul-one w) in
    let r = pack_below w (i + 1) vs (omega arith) in
    let k : w + (16 - w * (i + 1)) ≡ 16 - w * i = omega arith in
    let p : 2 ^ w * 2 ^ (16 - w * (i + 1)) ≡ 2 ^ (16 - w * i) = sym (pow-add 2 w (16 - w * (i + 1))) ∙ ap (λ x. 2 ^ x) k in
    subst (λ x. pack w i (v ∷ vs) < x) p (digits_lt (bits_below w v) r)

-- the bits of a value that stands w * j + w + t bits up, taken apart
shifted : (w j t s b : ℕ) → s ≡ (w * j + w) + t → b * 2 ^ s ≡ (b * 2 ^ (w * j) * 2 ^ w) * 2 ^ t
shifted w j t s b e = ap (λ x. b * 2 ^ x) e ∙ ap (λ x. b * x) (pow-add 2 (w * j + w) t ∙ ap (λ x. x * 2 ^ t) (pow-add 2 (w * j) w))
    ∙ sym (mul_assoc b (2 ^ (w * j) * 2 ^ w) (2 ^ t)) ∙ ap (λ x. x * 2 ^ t) (sym (mul_assoc b (2 ^ (w * j)) (2 ^ w)))

-- the bits at place j are those of value j
pack_at : (w i : ℕ) (vs : List ℤ) (j t : ℕ) → w * (i + length vs) ≤ 16 → j < length vs → t + w * (i + j + 1) ≡ 16
    → pack w i vs / 2 ^ t % 2 ^ w ≡ bits_of w (get_or vs j (pos 0))
pack_at w i [] j t h l q = absurd (omega arith)
pack_at w i (v ∷ vs) zero t h l q =
    let z : w * (i + 0 + 1) ≡ w * (i + 1) = ap (λ x. w * x) (omega arith) in
    let s : 16 - w * (i + 1) ≡ t = omega arith in
    let e = one_more w i (length vs) in
    let r : pack w (i + 1) vs < 2 ^ t = subst (λ x. pack w (i + 1) vs < 2 ^ x) s (pack_below w (i + 1) vs (omega arith)) in
    ap (λ x. (bits_of w v * 2 ^ x + pack w (i + 1) vs) / 2 ^ t % 2 ^ w) s
    ∙ ap (λ x. x % 2 ^ w) (digits_div (bits_of w v) r) ∙ mod-eq_of_lt (bits_below w v)
pack_at w i (v ∷ vs) (suc j) t h l q =
    let e = one_more w i (length vs) in
    let z : w * (i + suc j + 1) ≡ w * ((i + 1) + j + 1) = ap (λ x. w * x) (omega arith) in
    let y : w * ((i + 1) + j + 1) ≡ w * (i + 1) + (w * j + w) =
    ap (λ x. w * x) (omega arith) ∙ mul-add w (i + 1) (j + 1) ∙ ap (λ x. w * (i + 1) + x) (mul-add w j 1 ∙ ap (λ x. w * j + x) (mul-one w)) in
    ap (λ x. (x + pack w (i + 1) vs) / 2 ^ t % 2 ^ w) (shifted w j t (16 - w * (i + 1)) (bits_of w v) (omega arith))
    ∙ ap (λ x. x % 2 ^ w) (mul-add-div_right (pow_pos t) (bits_of w v * 2 ^ (w * j) * 2 ^ w) (pack w (i + 1) vs))
    ∙ mul-add-mod_self_right (bits_of w v * 2 ^ (w * j)) (2 ^ w) (pack w (i + 1) vs / 2 ^ t)
    ∙ pack_at w (i + 1) vs j t (omega arith) (omega arith) (omega arith)

-- ---- all words

-- the value that is read back from its word, if its bits give it back
word_at : (w per : ℕ) (vs : List ℤ) (k : ℕ) → 0 < per → w * per ≡ 16 → k < length vs
    → pack w 0 (take per (drop (k / per * per) vs)) / 2 ^ (16 - w * (k % per + 1)) % 2 ^ w ≡ bits_of w (get_or vs k (pos 0))
word_at w per vs k z e h =
    let m : k % per < per = mod_below k per z in
    let d : k / per * per + k % per ≡ k = div-add-mod' k per in
    let part = take per (drop (k / per * per) vs) in
    let n : length part ≡ min per (length vs - k / per * per) = length-take per (drop (k / per * per) vs) ∙ ap (min per) (length-drop (k / per * per) vs) in
    let x : w * (0 + length part) ≤ 16 = omega (arith, mul-le w (0 + length part) w per (omega arith) (omega arith)) in
    let q : 0 + k % per + 1 ≡ k % per + 1 = omega arith in
    let y : (16 - w * (k % per + 1)) + w * (0 + k % per + 1) ≡ 16 = omega (arith, mul-le w (k % per + 1) w per (omega arith) (omega arith), ap (λ i. w * i) q) in
    let g : get_or part (k % per) (pos 0) ≡ get_or vs k (pos 0) =
    get_or-take per (drop (k / per * per) vs) (k % per) (pos 0) m ∙ get_or-drop (k / per * per) vs (k % per) (pos 0) ∙ ap (λ i. get_or vs i (pos 0)) d in
    pack_at w 0 part (k % per) (16 - w * (k % per + 1)) x (omega arith) y ∙ ap (bits_of w) g

back2 : (v : ℤ) → needed_format v ≤ 1 → signed 2 (bits_of 2 v) ≡ v
back2 (pos n) h = grind (arith, nat_tests)
back2 (negsuc n) h = grind (arith, nat_tests)

back4 : (v : ℤ) → needed_format v ≤ 2 → signed 4 (bits_of 4 v) ≡ v
back4 (pos n) h = grind (arith, nat_tests)
back4 (negsuc n) h = grind (arith, nat_tests)

back8 : (v : ℤ) → Within 128 v → signed 8 (bits_of 8 v) ≡ v
back8 (pos n) h = grind (arith, nat_tests)
back8 (negsuc n) h = grind (arith, nat_tests)

pub back16 : (v : ℤ) → Within 32768 v → signed 16 (bits_of 16 v) ≡ v
back16 (pos n) h = grind (arith, nat_tests)
back16 (negsuc n) h = grind (arith, nat_tests)

module _ (vs : List ℤ) (i : ℕ) (inside : i < length vs) where
  -- the word of value i is one of the words
  pub word_below : i / per_word (delta_format vs) < (length vs + per_word (delta_format vs) - 1) / per_word (delta_format vs)
  word_below = let b = format_bounds vs in
      by_format (λ f. i / per_word f < (length vs + per_word f - 1) / per_word f) (delta_format vs) b.0 b.1 (omega arith) (omega arith) (omega arith)

  abbrev Unpacks : ℕ → Type 0
  Unpacks f = needed_format (get_or vs i (pos 0)) ≤ f → unpack f (word f vs (i / per_word f)) (i % per_word f) ≡ get_or vs i (pos 0)

  -- value i comes out of its word
  pub unpacks : Within 128 (get_or vs i (pos 0)) → unpack (delta_format vs) (word (delta_format vs) vs (i / per_word (delta_format vs))) (i % per_word (delta_format vs)) ≡ get_or vs i (pos 0)
  unpacks small = let b = format_bounds vs in by_format Unpacks (delta_format vs) b.0 b.1
      (λ q. ap (signed 2) (word_at 2 8 vs i (omega arith) refl inside) ∙ back2 (get_or vs i (pos 0)) q)
      (λ q. ap (signed 4) (word_at 4 4 vs i (omega arith) refl inside) ∙ back4 (get_or vs i (pos 0)) q)
      (λ q. ap (signed 8) (word_at 8 2 vs i (omega arith) refl inside) ∙ back8 (get_or vs i (pos 0)) small) (needed_below vs i inside)
