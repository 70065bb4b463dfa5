-- How device values are packed: one value more in a word, and the widest format.
use Rattle.std.proofs.Common.{◌≡◌, ℕ, ◌+◌, ◌-◌, ◌*◌, ◌%◌, ◌^◌, ◌<◌, ◌≤◌, max, List, [], ◌∷◌, length, get_or, drop, ℤ, pos, negsuc, sym, ap, ◌∙◌, subst, add-mul, one-mul, mul-add, arith, w8, SFits}
use Rattle.std.proofs.lemmas.Bool.Decides.{nat_tests}
use Rattle.std.proofs.lemmas.Nat.{pow_pos, pow-add, mod_below, shl_whole, mul-le}
use Rattle.std.proofs.lemmas.List.{at_drop_more, drop_more}
use Rattle.spec.specs.Fields.{bits_of}
use Rattle.spec.specs.Devices.{needed_format, delta_format, pack}
use Rattle.spec.specs.Lists.{Every}
use Rattle.laws.specs.Conditions.{Within}

pub asks_bounds : (v : ℤ) → (1 ≤ needed_format v) × (needed_format v ≤ 3)
asks_bounds (pos n) = grind (arith, nat_tests)
asks_bounds (negsuc n) = grind (arith, nat_tests)

pub format_bounds : (vs : List ℤ) → (1 ≤ delta_format vs) × (delta_format vs ≤ 3)
format_bounds [] = (omega arith, omega arith)
format_bounds (v ∷ vs) = let a = asks_bounds v in let b = format_bounds vs in (omega arith, omega arith)

pub format_more : (vs : List ℤ) (i : ℕ) → i < length vs → delta_format (drop i vs) ≡ max (needed_format (get_or vs i (pos 0))) (delta_format (drop (i + 1) vs))
format_more vs i h = at_drop_more delta_format vs i (pos 0) h

pub low_below : (w : ℕ) (v : ℤ) → bits_of w v < 2 ^ w
low_below w (pos n) = mod_below n (2 ^ w) (pow_pos w)
low_below w (negsuc n) = omega (arith, pow_pos w)

pub add_step : (w s word lo : ℕ) → w ≤ s → s ≤ 16 → lo < 2 ^ w → word + 2 ^ s ≤ 65536 →
    ((lo * 2 ^ (s - w)) % 65536 ≡ lo * 2 ^ (s - w)) × (word + (lo * 2 ^ (s - w)) % 65536 + 2 ^ (s - w) ≤ 65536)
add_step w s word lo h t b q =
    let k : w + (s - w) ≡ s = omega arith in
    let t' : w + (s - w) ≤ 16 = omega arith in
    let e : (lo * 2 ^ (s - w)) % 65536 ≡ lo * 2 ^ (s - w) = shl_whole lo w (s - w) 16 b t' in
    let p : 2 ^ s ≡ 2 ^ w * 2 ^ (s - w) = ap (λ x. 2 ^ x) (sym k) ∙ pow-add 2 w (s - w) in
    let l : lo + 1 ≤ 2 ^ w = omega arith in
    let r : 2 ^ (s - w) ≤ 2 ^ (s - w) = omega arith in
    let m = mul-le (lo + 1) (2 ^ (s - w)) (2 ^ w) (2 ^ (s - w)) l r in
    let d : (lo + 1) * 2 ^ (s - w) ≡ lo * 2 ^ (s - w) + 2 ^ (s - w) = add-mul lo 1 (2 ^ (s - w)) ∙ ap (λ x. lo * 2 ^ (s - w) + x) (one-mul (2 ^ (s - w))) in
    (e, omega arith)

pub word_more : (w s : ℕ) (vs : List ℤ) (i : ℕ) → i < length vs → s + w * i ≡ 16 →
    pack w i (drop i vs) ≡ bits_of w (get_or vs i (pos 0)) * 2 ^ (s - w) + pack w (i + 1) (drop (i + 1) vs)
word_more w s vs i h e =
    let k : 16 - w * (i + 1) ≡ s - w = omega (arith, mul-add w i 1) in
    at_drop_more (pack w i) vs i (pos 0) h ∙ ap (λ x. bits_of w (get_or vs i (pos 0)) * 2 ^ x + pack w (i + 1) (drop (i + 1) vs)) k

within : (v : ℤ) → SFits w8 v → Within 128 v
within (pos n) h = h.sfits
within (negsuc n) h = h.sfits

-- one more value that is a signed byte
pub one_within : (vs : List ℤ) (i : ℕ) → i < length vs → SFits w8 (get_or vs i (pos 0)) → Every (Within 128) (drop (i + 1) vs) → Every (Within 128) (drop i vs)
one_within vs i h f e = subst (λ l. Every (Within 128) l) (sym (drop_more vs i (pos 0) h)) (within (get_or vs i (pos 0)) f, e)
