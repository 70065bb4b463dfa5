-- Bytes, and the 16-bit fields in them, high byte first, as OpenType stores every number of a positioning table.
use Rattle.std.specs.Prelude.{◌≡◌, ℕ, ◌+◌, ◌-◌, ◌*◌, ◌/◌, ◌%◌, ◌^◌, Bool, false, cond, List, [], ◌∷◌, length, ℤ, pos, negsuc, Ok, Err, Result, ◌==◌, nat_lt, slice_index}

-- fields as bytes
abbrev pub big_endian : List ℕ → List ℕ
big_endian [] = []
big_endian (w ∷ ws) = w / 256 ∷ w % 256 ∷ big_endian ws

-- the number in the two bytes at a position
abbrev pub word_at : List ℕ → ℕ → ℕ
word_at bs k = slice_index bs k * 256 + slice_index bs (k + 1)

-- the field that begins at a byte position, or that position if the field does not lie whole inside
abbrev pub field : List ℕ → ℕ → Result ℕ ℕ
field bs k = cond (nat_lt (length bs) (k + 2)) (Err k) (Ok (word_at bs k))

-- reading goes on with what was read, and ends at the first fault: the byte position of a field
abbrev pub and_then : {A B : Type 0} → Result A ℕ → (A → Result B ℕ) → Result B ℕ
and_then (Ok x) f = f x
and_then (Err k) f = Err k

-- these fields stand in the bytes from position k on
abbrev pub Stand : List ℕ → ℕ → List ℕ → Type 0
Stand bs k [] = Unit {0}
Stand bs k (w ∷ ws) = (field bs k ≡ Ok w) × Stand bs (k + 2) ws

-- a signed number in w bits (two's complement), and back
abbrev pub bits_of : ℕ → ℤ → ℕ
bits_of w (pos n) = n % 2 ^ w
bits_of w (negsuc n) = 2 ^ w - 1 - n % 2 ^ w

abbrev pub signed : ℕ → ℕ → ℤ
signed w n = cond (nat_lt n (2 ^ (w - 1))) (pos n) (negsuc (2 ^ w - 1 - n))

-- the same signed number
abbrev pub same_signed : ℤ → ℤ → Bool
same_signed (pos m) (pos n) = m == n
same_signed (pos m) (negsuc n) = false
same_signed (negsuc m) (pos n) = false
same_signed (negsuc m) (negsuc n) = m == n
