-- The words of a device, one after the other.
use Rattle.std.proofs.Common.{◌≡◌, ℕ, suc, ◌+◌, ◌-◌, ◌*◌, ◌/◌, ◌<◌, ◌≤◌, min, ◌⊎◌, List, [], ◌∷◌, ◌++◌, map, length, take, drop, ℤ, sym, ap, ◌∙◌, inl, inr, append-nil, le-div_iff_mul-le, add-mul, arith}
use Rattle.std.proofs.lemmas.List.{length-append, length-drop, drop-drop, take_all, take_at, drop_all, drop_at, nil_from_length}
use Rattle.std.proofs.lemmas.Bool.{cases_lt}
use Rattle.spec.specs.Fields.{big_endian}
use Rattle.spec.specs.Lists.{numbers}
use Rattle.spec.specs.Devices.{width, per_word, pack, word}
use Rattle.laws.proofs.Standing.{length_map_numbers}
use Rattle.layout.specs.Faults.{word_count, words_in}

-- the words from k on
abbrev pub words_from : ℕ → List ℤ → ℕ → List ℕ
words_from f vs k = map (word f vs) (numbers k (word_count f vs - k))

pub words_length : (f : ℕ) (vs : List ℤ) → length (words_in f vs) ≡ word_count f vs
words_length f vs = length_map_numbers (word f vs) 0 (word_count f vs)

pub count_is : (f per : ℕ) (vs : List ℤ) → per ≡ per_word f → (length vs + per - 1) / per ≡ word_count f vs
count_is f per vs q = ap (λ u. (length vs + u - 1) / u) q

-- a chunk is the first of what is left, and the others are left behind it
module _ {A : Type 0} (size : ℕ) (rest chunk behind : List A) (e : rest ≡ chunk ++ behind) (l : length chunk ≡ min size (length rest)) where
  last : length rest < size → behind ≡ []
  last h = let k = ap length e in nil_from_length behind (omega (arith, length-append chunk behind))

  chunk_taken : take size rest ≡ chunk
  chunk_taken = go (cases_lt (length rest) size)
    where
      go : (length rest < size) ⊎ (size ≤ length rest) → take size rest ≡ chunk
      go (inl h) = take_all size rest (omega arith) ∙ e ∙ ap (λ r. chunk ++ r) (last h) ∙ append-nil chunk
      go (inr h) = ap (take size) e ∙ take_at chunk behind size (omega arith)

  chunk_left : drop size rest ≡ behind
  chunk_left = go (cases_lt (length rest) size)
    where
      go : (length rest < size) ⊎ (size ≤ length rest) → drop size rest ≡ behind
      go (inl h) = drop_all size rest (omega arith) ∙ sym (last h)
      go (inr h) = ap (drop size) e ∙ drop_at chunk behind size (omega arith)

-- while a chunk is left, a word is left
module _ (f size : ℕ) (vs : List ℤ) (k : ℕ) (q : size ≡ per_word f) (z : 0 < size) where
  words_more : k * size < length vs → k < word_count f vs
  words_more h =
      let c = count_is f size vs q in
      let a = add-mul k 1 size in
      let m : k + 1 ≤ (length vs + size - 1) / size = (le-div_iff_mul-le z).1 (omega arith) in omega arith

  module _ (rest chunk behind : List ℤ) (d : rest ≡ drop (k * size) vs) (e : rest ≡ chunk ++ behind) (l : length chunk ≡ min size (length rest)) where
    pub words_next : 0 < length rest → (x : ℕ) → x ≡ pack (width f) 0 chunk → big_endian (words_from f vs k) ≡ big_endian (x ∷ []) ++ big_endian (words_from f vs (k + 1))
    words_next h x p =
        let m : k < word_count f vs = words_more (omega (arith, ap length d, length-drop (k * size) vs)) in
        let n : word_count f vs - k ≡ suc (word_count f vs - (k + 1)) = omega arith in
        let t : take size rest ≡ chunk = chunk_taken size rest chunk behind e l in
        let y : x ≡ word f vs k = p ∙ ap (pack (width f) 0) (sym t ∙ ap (take size) d) ∙ ap (λ u. pack (width f) 0 (take u (drop (k * u) vs))) q in
        ap (λ u. big_endian (map (word f vs) (numbers k u))) n ∙ ap (λ u. big_endian (u ∷ words_from f vs (k + 1))) (sym y)

    pub left_next : behind ≡ drop ((k + 1) * size) vs
    left_next =
        let n : k * size + size ≡ (k + 1) * size = omega (arith, add-mul k 1 size) in
        sym (chunk_left size rest chunk behind e l) ∙ ap (drop size) d ∙ drop-drop size (k * size) vs ∙ ap (λ j. drop j vs) n
