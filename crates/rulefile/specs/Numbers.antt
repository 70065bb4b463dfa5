-- What a word stands for as a number: decimal, or hexadecimal after `0x`, with no limit on its digits.
use Rattle.std.specs.Prelude.{ℕ, ◌+◌, ◌-◌, ◌*◌, true, false, cond, ◌&&◌, List, [], ◌∷◌, ℤ, pos, neg_ℤ, Some, None, Option, ◌==◌, nat_le, nat_lt}

-- what a digit counts: 0 to 9, then a to f in either case; any other byte counts more than a base has
abbrev pub digit_value : ℕ → ℕ
digit_value b =
    cond (nat_le 48 b && nat_le b 57) (b - 48)
    (cond (nat_le 97 b && nat_le b 102) (b - 97 + 10) (cond (nat_le 65 b && nat_le b 70) (b - 65 + 10) 99))

-- a digit of the base, if the byte is one
abbrev pub digit_of : ℕ → ℕ → Option ℕ
digit_of base b = cond (nat_lt (digit_value b) base) (Some (digit_value b)) None

-- the number that is read on from n, digit by digit
abbrev pub read_on : ℕ → ℕ → List ℕ → Option ℕ
read_on base n [] = Some n
read_on base n (b ∷ bs) = elim (digit_of base b) [ Some d ↦ read_on base (n * base + d) bs | None ↦ None ]

-- what one or more digits of a base stand for
abbrev pub digits_value : ℕ → List ℕ → Option ℕ
digits_value base [] = None
digits_value base (b ∷ bs) = read_on base 0 (b ∷ bs)

-- a number that fits its field
abbrev pub up_to : ℕ → Option ℕ → Option ℕ
up_to limit None = None
up_to limit (Some n) = cond (nat_le n limit) (Some n) None

-- digits of a base that stand for at most `limit`
abbrev pub digits_up_to : ℕ → ℕ → List ℕ → Option ℕ
digits_up_to base limit bs = up_to limit (digits_value base bs)

-- decimal or 0x-hexadecimal
abbrev pub unsigned_value : List ℕ → Option ℕ
unsigned_value [] = None
unsigned_value (a ∷ []) = digits_value 10 (a ∷ [])
unsigned_value (a ∷ b ∷ bs) = elim (a == 48 && b == 120) [ true ↦ digits_value 16 bs | false ↦ digits_value 10 (a ∷ b ∷ bs) ]

-- a number from 0 to `limit`
abbrev pub unsigned_up_to : ℕ → List ℕ → Option ℕ
unsigned_up_to limit bs = up_to limit (unsigned_value bs)

-- a number with no sign
abbrev pub positive : Option ℕ → Option ℤ
positive None = None
positive (Some n) = Some (pos n)

-- a number after `-`
abbrev pub negative : Option ℕ → Option ℤ
negative None = None
negative (Some n) = Some (neg_ℤ (pos n))

-- a signed number from -(limit + 1) to limit: `-` stands before the number
abbrev pub signed_up_to : ℕ → List ℕ → Option ℤ
signed_up_to limit [] = None
signed_up_to limit (b ∷ bs) =
    elim (b == 45) [ true ↦ negative (unsigned_up_to (limit + 1) bs) | false ↦ positive (unsigned_up_to limit (b ∷ bs)) ]
