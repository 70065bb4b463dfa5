-- Reading a number digit by digit.
use Rattle.std.proofs.Common.{◌≡◌, ℕ, ◌+◌, ◌*◌, ◌<◌, ◌≤◌, List, [], ◌∷◌, length, get_or, drop, Some, None, Option, sym, refl, ap, ◌∙◌, mul-le-mul_left, mul-one, arith}
use Rattle.std.proofs.lemmas.List.{at_drop_more}
use Rattle.std.proofs.lemmas.Bool.Decides.{nat_tests}
use Rattle.rulefile.specs.Numbers.{digit_of, digits_value, digits_up_to, read_on, up_to}

pub read_digit : (base n b d : ℕ) (bs : List ℕ) → Some d ≡ digit_of base b → read_on base n (b ∷ bs) ≡ read_on base (n * base + d) bs
read_digit base n b d bs e = ap (λ o. elim o [ Some d ↦ read_on base (n * base + d) bs | None ↦ None ]) (sym e)

-- one digit more is read
pub read_more : (base n d i : ℕ) (word : List ℕ) {all : Option ℕ} → i < length word → Some d ≡ digit_of base (get_or word i 0) → read_on base n (drop i word) ≡ all → read_on base (n * base + d) (drop (i + 1) word) ≡ all
read_more base n d i word h e inv =
    sym (read_digit base n (get_or word i 0) d (drop (i + 1) word) e) ∙ sym (at_drop_more (read_on base n) word i 0 h) ∙ inv

grows : (base n d : ℕ) → 1 ≤ base → n ≤ n * base + d
grows base n d h = let a = mul-le-mul_left n h in let b = mul-one n in omega arith

past_at : (base limit n : ℕ) (o : Option ℕ) (bs : List ℕ) → 1 ≤ base → limit < n → ((m : ℕ) → limit < m → up_to limit (read_on base m bs) ≡ None) → up_to limit (elim o [ Some d ↦ read_on base (n * base + d) bs | None ↦ None ]) ≡ None
past_at base limit n None bs h past rest = refl
past_at base limit n (Some d) bs h past rest = let g = grows base n d h in rest (n * base + d) (omega arith)

-- a number that has passed its limit stays past it
pub read_past : (base limit n : ℕ) (bs : List ℕ) → 1 ≤ base → limit < n → up_to limit (read_on base n bs) ≡ None
read_past base limit n [] h past = grind (arith, nat_tests)
read_past base limit n (b ∷ bs) h past = past_at base limit n (digit_of base b) bs h past (λ m p. read_past base limit m bs h p)

pub starts : (base : ℕ) (word : List ℕ) → 0 < length word → digits_value base word ≡ read_on base 0 word
starts base [] h = absurd (omega arith)
starts base (b ∷ bs) h = refl

pub refused_size : (base limit n d i : ℕ) (word : List ℕ) → 1 ≤ base → i < length word → Some d ≡ digit_of base (get_or word i 0) → limit < n * base + d → read_on base n (drop i word) ≡ read_on base 0 word → None ≡ digits_up_to base limit word
refused_size base limit n d i word b h e past inv =
    sym (read_past base limit (n * base + d) (drop (i + 1) word) b past)
    ∙ ap (up_to limit) (read_more base n d i word h e inv ∙ sym (starts base word (omega arith)))
