-- How a line is cut into words, and what makes a name.
use Rattle.std.specs.Prelude.{ℕ, ◌+◌, Bool, true, false, ◌&&◌, ◌||◌, List, [], ◌∷◌, ◌++◌, map, take, drop, Option, ◌==◌, nat_le, slice_index_or, position}
use Rattle.std.specs.Borrow.{Bor}
use Rattle.std.specs.List.{list_all}
use Rattle.std.specs.Option.{option_map, option_map_or}
use Rattle.std.specs.Str.{bytes_eq}

-- two words of the same bytes
abbrev pub same_word : List ℕ → List ℕ → Bool
same_word a b = bytes_eq a b

-- a word that has come to its end, unless it is empty
abbrev pub flush : List ℕ → List (List ℕ)
flush [] = []
flush (b ∷ bs) = (b ∷ bs) ∷ []

-- the pieces of a line between its spaces, where `word` is what has been read of the first
abbrev pub pieces_after : List ℕ → List ℕ → List (List ℕ)
pieces_after word [] = flush word
pieces_after word (b ∷ bs) = elim (b == 32) [ true ↦ flush word ++ pieces_after [] bs | false ↦ pieces_after (word ++ b ∷ []) bs ]

-- the pieces of a line between its spaces
abbrev pub pieces : List ℕ → List (List ℕ)
pieces line = pieces_after [] line

-- `#` at the start of a line or after a space begins a comment when a space or the line's end follows:
-- so a piece that is `#` alone, and all after it, are left out
abbrev pub before_comment : List (List ℕ) → List (List ℕ)
before_comment [] = []
before_comment (w ∷ ws) = elim (same_word w (35 ∷ [])) [ true ↦ [] | false ↦ w ∷ before_comment ws ]

-- the words of a line
abbrev pub words_of : List ℕ → List (List ℕ)
words_of line = before_comment (pieces line)

-- the words that the slices hold
abbrev pub words_in : List (Bor (List ℕ)) → List (List ℕ)
words_in ws = map (λ w. w.now) ws

-- the word at a place, which is empty past the last
abbrev pub word : List (List ℕ) → ℕ → List ℕ
word ws at = slice_index_or ws at []

-- A to Z and a to z
abbrev pub letter : ℕ → Bool
letter b = (nat_le 65 b && nat_le b 90) || (nat_le 97 b && nat_le b 122)

-- what a name goes on with: letters, digits, `_`, `.` and `-`
abbrev pub name_byte : ℕ → Bool
name_byte b = letter b || ((nat_le 48 b && nat_le b 57) || (b == 95 || (b == 46 || b == 45)))

-- every byte is one that a name goes on with
abbrev pub name_bytes : List ℕ → Bool
name_bytes bs = list_all name_byte bs

-- a name begins with a letter
abbrev pub is_name : List ℕ → Bool
is_name [] = false
is_name (b ∷ bs) = letter b && name_bytes bs

-- what stands before and after the first of a byte in a word, if the word has one
abbrev pub split_once : ℕ → List ℕ → Option (List ℕ × List ℕ)
split_once byte w = option_map (λ at. (take at w, drop (at + 1) w)) (position (λ b. b == byte) w)

-- a word taken apart at a byte: what stands before and after the first such byte, or another answer where there is none
abbrev pub cut_at : {X : Type 0} → ℕ → List ℕ → (List ℕ → List ℕ → X) → X → X
cut_at byte w f other = option_map_or (λ p. f p.0 p.1) (split_once byte w) other
