-- Device tables: how wide the values are, and how they are packed into words. Variation index tables stand in their place.
use Rattle.std.specs.Prelude.{ℕ, ◌+◌, ◌-◌, ◌*◌, ◌/◌, ◌%◌, ◌^◌, max, cond, List, [], ◌∷◌, map, length, take, drop, ℤ, pos, negsuc, nat_lt}
use Rattle.spec.specs.Lists.{numbers}
use Rattle.spec.specs.Fields.{bits_of, signed}
use Rattle.spec.specs.Entries.{Device}

-- the delta format that a value needs: −2 to 1 is 1, −8 to 7 is 2, others 3
abbrev pub needed_format : ℤ → ℕ
needed_format (pos n) = cond (nat_lt n 2) 1 (cond (nat_lt n 8) 2 3)
needed_format (negsuc n) = cond (nat_lt n 2) 1 (cond (nat_lt n 8) 2 3)

-- the widest wins
abbrev pub delta_format : List ℤ → ℕ
delta_format [] = 1
delta_format (v ∷ vs) = max (needed_format v) (delta_format vs)

-- a value has 2, 4 or 8 bits, and 8, 4 or 2 values fill a word
abbrev pub width : ℕ → ℕ
width f = 2 ^ f

abbrev pub per_word : ℕ → ℕ
per_word f = 16 / 2 ^ f

-- values of w bits in one word, the first at place i; places go from the high end down, and what is left is 0
abbrev pub pack : ℕ → ℕ → List ℤ → ℕ
pack w i [] = 0
pack w i (v ∷ vs) = bits_of w v * 2 ^ (16 - w * (i + 1)) + pack w (i + 1) vs

-- word k of the values
abbrev pub word : ℕ → List ℤ → ℕ → ℕ
word f vs k = pack (width f) 0 (take (per_word f) (drop (k * per_word f) vs))

abbrev pub words : List ℤ → List ℕ
words vs = let f = delta_format vs in map (word f vs) (numbers 0 ((length vs + per_word f - 1) / per_word f))

-- first size, last size, delta format, words
abbrev pub device_fields : Device → List ℕ
device_fields d = d.first_size ∷ (d.first_size + length d.values - 1) ∷ delta_format d.values ∷ words d.values

-- outer index, inner index, delta format 0x8000
abbrev pub variation_fields : ℕ → List ℕ
variation_fields n = n / 65536 ∷ n % 65536 ∷ 0x8000 ∷ []

-- the value at place j of a word, in a delta format
abbrev pub unpack : ℕ → ℕ → ℕ → ℤ
unpack f w j = signed (width f) (w / 2 ^ (16 - width f * (j + 1)) % 2 ^ width f)
