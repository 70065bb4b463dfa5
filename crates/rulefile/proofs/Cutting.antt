-- Cutting a text into lines, and a line into words.
use Rattle.std.proofs.Common.{◌≡◌, ℕ, ◌+◌, ◌<◌, Bool, true, false, cond, eqb, ltb, not, List, [], ◌∷◌, ◌++◌, length, map, take, Some, None, sym, refl, ap, ◌∙◌, append_assoc, append-nil, arith, suc}
use Rattle.std.proofs.lemmas.Bool.Decides.{nat_tests}
use Rattle.std.specs.Prelude.{filter, position}
use Rattle.std.specs.List.{slice_split, onto_first, prefix_len}
use Rattle.std.proofs.lemmas.List.{length-map}
use Rattle.std.proofs.lemmas.List.Splits.{length-slice_split}
use Rattle.rulefile.specs.Files.{lines_after, lines_of}
use Rattle.rulefile.specs.Words.{before_comment, flush, pieces, pieces_after, same_word}

-- what has been read of the first part stands before it
abbrev onto : List ℕ → List (List ℕ) → List (List ℕ)
onto front [] = []
onto front (part ∷ parts) = (front ++ part) ∷ parts

onto_nil : (parts : List (List ℕ)) → onto [] parts ≡ parts
onto_nil [] = refl
onto_nil (part ∷ parts) = refl

onto_onto : (front : List ℕ) (b : ℕ) (parts : List (List ℕ)) → 0 < length parts → onto (front ++ b ∷ []) parts ≡ onto front (onto_first b parts)
onto_onto front b [] h = absurd (omega arith)
onto_onto front b (part ∷ parts) h = ap (λ p. p ∷ parts) (append_assoc front (b ∷ []) part)

some_part : (p : ℕ → Bool) (bs : List ℕ) → 0 < length (slice_split p bs)
some_part p bs = omega (arith, length-slice_split p bs)

line_step : (t : Bool) (front : List ℕ) (b : ℕ) (rest more : List (List ℕ)) (parts : List (List ℕ)) → 0 < length parts → rest ≡ onto [] parts → more ≡ onto (front ++ b ∷ []) parts → elim t [ true ↦ front ∷ rest | false ↦ more ] ≡ onto front (cond t ([] ∷ parts) (onto_first b parts))
line_step true front b rest more parts some p q = ap (λ l. front ∷ l) (p ∙ onto_nil parts) ∙ ap (λ l. l ∷ parts) (sym (append-nil front))
line_step false front b rest more parts some p q = q ∙ onto_onto front b parts some

lines_split : (front text : List ℕ) → lines_after front text ≡ onto front (slice_split (λ b. eqb b 10) text)
lines_split front [] = ap (λ l. l ∷ []) (sym (append-nil front))
lines_split front (b ∷ bs) =
    line_step (eqb b 10) front b (lines_after [] bs) (lines_after (front ++ b ∷ []) bs) (slice_split (λ b. eqb b 10) bs) (some_part (λ b. eqb b 10) bs)
    (lines_split [] bs) (lines_split (front ++ b ∷ []) bs)

-- the lines of a text are its parts between line ends
pub parts_are_lines : (text : List ℕ) → slice_split (λ b. eqb b 10) text ≡ lines_of text
parts_are_lines text = sym (lines_split [] text ∙ onto_nil (slice_split (λ b. eqb b 10) text))

abbrev pub not_empty : List ℕ → Bool
not_empty w = not (eqb (length w) 0)

flush_front : (front : List ℕ) (parts : List (List ℕ)) → flush front ++ filter not_empty parts ≡ filter not_empty (front ∷ parts)
flush_front [] parts = refl
flush_front (b ∷ bs) parts =
    let e : false ≡ eqb (length (b ∷ bs)) 0 = grind (arith, nat_tests) in
    ap (λ t. cond (not t) ((b ∷ bs) ∷ filter not_empty parts) (filter not_empty parts)) e

piece_step : (t : Bool) (front : List ℕ) (b : ℕ) (rest more : List (List ℕ)) (parts : List (List ℕ)) → 0 < length parts → rest ≡ filter not_empty (onto [] parts) → more ≡ filter not_empty (onto (front ++ b ∷ []) parts) → elim t [ true ↦ flush front ++ rest | false ↦ more ] ≡ filter not_empty (onto front (cond t ([] ∷ parts) (onto_first b parts)))
piece_step true front b rest more parts some p q =
    ap (λ l. flush front ++ l) (p ∙ ap (filter not_empty) (onto_nil parts)) ∙ flush_front front parts ∙ ap (λ l. filter not_empty (l ∷ parts)) (sym (append-nil front))
piece_step false front b rest more parts some p q = q ∙ ap (filter not_empty) (onto_onto front b parts some)

pieces_split : (front line : List ℕ) → pieces_after front line ≡ filter not_empty (onto front (slice_split (λ b. eqb b 32) line))
pieces_split front [] = sym (append-nil (flush front)) ∙ flush_front front [] ∙ ap (λ l. filter not_empty (l ∷ [])) (sym (append-nil front))
pieces_split front (b ∷ bs) =
    piece_step (eqb b 32) front b (pieces_after [] bs) (pieces_after (front ++ b ∷ []) bs) (slice_split (λ b. eqb b 32) bs) (some_part (λ b. eqb b 32) bs)
    (pieces_split [] bs) (pieces_split (front ++ b ∷ []) bs)

abbrev pub no_comment : List ℕ → Bool
no_comment w = not (same_word w (35 ∷ []))

comment_step : (t : Bool) (w : List ℕ) (ws rest : List (List ℕ)) → take (prefix_len no_comment ws) ws ≡ rest → take (cond (not t) (1 + prefix_len no_comment ws) 0) (w ∷ ws) ≡ elim t [ true ↦ [] | false ↦ w ∷ rest ]
comment_step true w ws rest e = refl
comment_step false w ws rest e =
    let n : ℕ = prefix_len no_comment ws in
    let more : 1 + n ≡ suc n = omega arith in
    ap (λ m. take m (w ∷ ws)) more ∙ ap (λ l. w ∷ l) e

words_front : (ws : List (List ℕ)) → take (prefix_len no_comment ws) ws ≡ before_comment ws
words_front [] = refl
words_front (w ∷ ws) = comment_step (same_word w (35 ∷ [])) w ws (before_comment ws) (words_front ws)

-- the words of a line are its parts between spaces that are not empty, up to a comment
pub parts_are_words : (line : List ℕ) → (let ps = filter not_empty (slice_split (λ b. eqb b 32) line) in take (prefix_len no_comment ps) ps) ≡ before_comment (pieces line)
parts_are_words line =
    words_front (filter not_empty (slice_split (λ b. eqb b 32) line))
    ∙ ap before_comment (sym (pieces_split [] line ∙ ap (filter not_empty) (onto_nil (slice_split (λ b. eqb b 32) line))))

prefix_len-map : {X Y : Type 0} (test : Y → Bool) (f : X → Y) (xs : List X) → prefix_len test (map f xs) ≡ prefix_len (λ x. test (f x)) xs
prefix_len-map test f [] = refl
prefix_len-map test f (x ∷ xs) = ap (λ n. cond (test (f x)) (1 + n) 0) (prefix_len-map test f xs)

-- the first that passes a test of what is seen of it
pub position-map : {X Y : Type 0} (test : Y → Bool) (f : X → Y) (xs : List X) → position test (map f xs) ≡ position (λ x. test (f x)) xs
position-map test f xs =
    let p = prefix_len-map (λ y. not (test y)) f xs in
    let l = length-map xs f in
    ap (λ (n : ℕ). cond (ltb (prefix_len (λ y. not (test y)) (map f xs)) n) (Some (prefix_len (λ y. not (test y)) (map f xs))) None) l
    ∙ ap (λ (n : ℕ). cond (ltb n (length xs)) (Some n) None) p
