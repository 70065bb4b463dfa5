-- What the words of a statement stand for.
use Rattle.std.specs.Prelude.{ℕ, cond, List, [], ◌∷◌, drop, Some, None, Ok, Err, codes, Option, Result}
use Rattle.std.specs.Option.{unwrap_or}
use Rattle.rulefile.specs.declared.fault.Fault.{Fault}
use Rattle.rulefile.specs.declared.fault.Fault.TheVariants as fault
use Rattle.rulefile.specs.declared.rules.Lookup.{Lookup}
use Rattle.rulefile.specs.declared.rules.LookupKind.{LookupKind}
use Rattle.rulefile.specs.declared.rules.LookupKind.TheVariants as kind
use Rattle.rulefile.specs.declared.rules.Question.{Question}
use Rattle.rulefile.specs.declared.rules.Statement.{Statement}
use Rattle.rulefile.specs.declared.rules.Statement.TheVariants as statement
use Rattle.rulefile.specs.declared.rules.StoreKind.{StoreKind}
use Rattle.rulefile.specs.declared.rules.StoreKind.TheVariants as store
use Rattle.rulefile.specs.declared.statements.Asked.{Asked}
use Rattle.rulefile.specs.Lists.{glyph_of}
use Rattle.rulefile.specs.Names.{Named, set_reference_of}
use Rattle.rulefile.specs.Numbers.{unsigned_up_to}
use Rattle.rulefile.specs.Outcomes.{wanted, then}
use Rattle.rulefile.specs.Records.{record_of, records_of}
use Rattle.rulefile.specs.Words.{same_word, word}

-- KEY N at the front of the words, or nothing
abbrev pub option_of : List (List ℕ) → List ℕ → Fault → Result (Option ℕ) Fault
option_of ws key f =
    cond (same_word (word ws 0) key) (then (wanted (unsigned_up_to 65535 (word ws 1)) f) (λ n. Ok (Some n))) (Ok None)

-- the words after it
abbrev pub after_option : Option ℕ → List (List ℕ) → List (List ℕ)
after_option None ws = ws
after_option (Some n) ws = drop 2 ws

-- the statement has no more words
abbrev pub no_more : List (List ℕ) → Result (Unit {0}) Fault
no_more [] = Ok tt
no_more (w ∷ ws) = Err fault.Extra

-- the kind of a lookup
abbrev pub lookup_kind_of : List ℕ → Result LookupKind Fault
lookup_kind_of w =
    cond (same_word w (codes "single")) (Ok kind.Single) (cond (same_word w (codes "pair")) (Ok kind.Pair) (Err fault.LookupKind))

-- lookup KIND FLAGS [markset N]
abbrev pub lookup_of : List (List ℕ) → Result Lookup Fault
lookup_of ws =
    then (lookup_kind_of (word ws 1)) (λ k.
    then (wanted (unsigned_up_to 4294967295 (word ws 2)) fault.Flags) (λ flags.
    then (option_of (drop 3 ws) (codes "markset") fault.MarkSet) (λ n.
    then (no_more (after_option n (drop 3 ws))) (λ _.
    Ok (record { kind = k; flags = flags; mark_set = n })))))

-- the kind of a store
abbrev pub store_kind_of : List ℕ → Result StoreKind Fault
store_kind_of w =
    cond (same_word w (codes "flat")) (Ok store.Flat)
    (cond (same_word w (codes "sharing")) (Ok store.Sharing)
    (cond (same_word w (codes "trim+flat")) (Ok store.TrimFlat)
    (cond (same_word w (codes "trim+sharing")) (Ok store.TrimSharing) (Err fault.StoreKind))))

-- store KIND
abbrev pub store_of : List (List ℕ) → Result StoreKind Fault
store_of ws = then (no_more (drop 2 ws)) (λ _. store_kind_of (word ws 1))

-- single GLYPH RECORD
abbrev pub single_of : List Named → List (List ℕ) → Result Statement Fault
single_of es ws =
    then (glyph_of (word ws 1)) (λ g.
    then (record_of es (drop 2 ws)) (λ r.
    Ok (statement.Single g r)))

-- pair GLYPH GLYPH RECORD [/ RECORD]
abbrev pub pair_of : List Named → List (List ℕ) → Result Statement Fault
pair_of es ws =
    then (glyph_of (word ws 1)) (λ a.
    then (glyph_of (word ws 2)) (λ b.
    then (records_of es (drop 3 ws)) (λ r.
    Ok (statement.Pair a b r))))

-- class SET SET RECORD [/ RECORD]
abbrev pub class_of : List Named → List (List ℕ) → Result Statement Fault
class_of es ws =
    then (set_reference_of es (word ws 1)) (λ a.
    then (set_reference_of es (word ws 2)) (λ b.
    then (records_of es (drop 3 ws)) (λ r.
    Ok (statement.Class a b r))))

-- a question has one glyph in a single lookup, two in a pair lookup
abbrev pub second_of : LookupKind → List (List ℕ) → Result (Option ℕ) Fault
second_of kind.Single ws = Ok None
second_of kind.Pair ws = then (glyph_of (word ws 2)) (λ g. Ok (Some g))

-- the place after the glyphs of a question
abbrev pub past_second : Option ℕ → ℕ
past_second None = 2
past_second (Some g) = 3

-- [ppem P] [region R] and no more: without a size it is 0
abbrev pub asked_of : List (List ℕ) → Result Asked Fault
asked_of ws =
    then (option_of ws (codes "ppem") fault.PixelSize) (λ p.
    then (option_of (after_option p ws) (codes "region") fault.Region) (λ r.
    then (no_more (after_option r (after_option p ws))) (λ _.
    Ok (record { ppem = unwrap_or p 0; region = r }))))

-- ask GLYPH [GLYPH] [ppem P] [region R]
abbrev pub question_of : LookupKind → List (List ℕ) → Result Question Fault
question_of k ws =
    then (glyph_of (word ws 1)) (λ a.
    then (second_of k ws) (λ b.
    then (asked_of (drop (past_second b) ws)) (λ q.
    Ok (record { first = a; second = b; ppem = q.ppem; region = q.region }))))
