-- Where a mistake is, and that the statements of a file stand on rising lines.
use Rattle.std.proofs.Common.{◌≡◌, ℕ, ◌+◌, ◌<◌, ◌≤◌, Bool, true, false, cond, eqb, ◌⊎◌, List, [], ◌∷◌, ◌++◌, length, is_some, IfOk, IfErr, Some, None, Ok, Err, Option, Result, sym, refl, subst, inl, inr, arith}
use Rattle.rulefile.specs.declared.fault.Fault.{Fault}
use Rattle.rulefile.specs.declared.fault.Fault.TheVariants as fault
use Rattle.rulefile.specs.declared.keywords.Keyword.{Keyword}
use Rattle.rulefile.specs.declared.keywords.Keyword.TheVariants as keyword
use Rattle.rulefile.specs.declared.rules.Error.{Error}
use Rattle.rulefile.specs.declared.rules.Error.TheVariants.{Memory, Wrong}
use Rattle.rulefile.specs.declared.rules.Lookup.{Lookup}
use Rattle.rulefile.specs.declared.rules.Mistake.{Mistake}
use Rattle.rulefile.specs.declared.rules.RuleFile.{RuleFile}
use Rattle.rulefile.specs.declared.rules.Storage.{Storage}
use Rattle.rulefile.specs.declared.rules.StoreKind.{StoreKind}
use Rattle.rulefile.specs.Entries.{Said, said}
use Rattle.rulefile.specs.Files.{File, Parsed, Rises, Within, afterwards, at_line, file_of, finished, lines_after, lines_from, lines_of, nothing, opened, parsed}
use Rattle.rulefile.specs.Keywords.{keyword_of}
use Rattle.rulefile.specs.Outcomes.{then}
use Rattle.rulefile.specs.Names.{name_given}
use Rattle.rulefile.specs.Statements.{lookup_of, store_of}
use Rattle.rulefile.specs.Steps.{State, Told, and_names, and_says, before_lookup, entry_here, keyword_step, line_step, rule_here, statement_step}
use Rattle.rulefile.specs.Storages.{storage_of}
use Rattle.rulefile.specs.Words.{word, words_of}

-- a line that is wrong is one of those that are read
placed_at : (n k : ℕ) (o : Result State Fault) (f : State → Result State Mistake) (m : Mistake) → ((s : State) → f s ≡ Err m → (n + 1 ≤ m.line) × (m.line < n + 1 + k)) → at_line n o f ≡ Err m → (n ≤ m.line) × (m.line < n + (k + 1))
placed_at n k (Ok s) f m rest e = let p = rest s e in (omega (arith, p.0), omega (arith, p.1))
placed_at n k (Err x) f m rest e = let p : n ≡ m.line = cc in (omega arith, omega arith)

placed : (s : State) (n : ℕ) (ls : List (List ℕ)) (m : Mistake) → lines_from s n ls ≡ Err m → (n ≤ m.line) × (m.line < n + length ls)
placed s n [] m e = absurd (cc)
placed s n (l ∷ ls) m e =
    let p = placed_at n (length ls) (line_step s n l) (λ more. lines_from more (n + 1) ls) m (λ t q. placed t (n + 1) ls m q) e in
    (p.0, omega (arith, p.1))

some_at : (w : List ℕ) (b : ℕ) (bs : List ℕ) (t : Bool) → 1 ≤ length (lines_after (w ++ b ∷ []) bs) → 1 ≤ length {A = List ℕ} (elim t [ true ↦ w ∷ lines_after [] bs | false ↦ lines_after (w ++ b ∷ []) bs ])
some_at w b bs true h = omega arith
some_at w b bs false h = h

-- a text has a line
some_line : (w bs : List ℕ) → 1 ≤ length (lines_after w bs)
some_line w [] = omega arith
some_line w (b ∷ bs) = some_at w b bs (eqb b 10) (some_line (w ++ b ∷ []) bs)

ended : (n : ℕ) (s : State) (o : Option Lookup) (m : Mistake) → opened n s o ≡ Err m → n ≡ m.line
ended n s None m e = cc
ended n s (Some l) m e = absurd (cc)

placed_whole : (n : ℕ) (o : Result State Mistake) (m : Mistake) → 1 ≤ n → ((p : Mistake) → o ≡ Err p → (1 ≤ p.line) × (p.line < 1 + n)) → afterwards o (finished n) ≡ Err m → (1 ≤ m.line) × (m.line ≤ n)
placed_whole n (Ok s) m some rest e = let p = ended n s s.lookup m e in (omega arith, omega arith)
placed_whole n (Err x) m some rest e =
    let p = rest x refl in
    let q : x.line ≡ m.line = cc in
    (omega (arith, p.0), omega (arith, p.1))

-- a mistake is on a line of the text
pub within_lines : (text : List ℕ) (r : Result RuleFile Error) → Parsed file_of r (parsed text) → IfErr r (Within (length (lines_of text)))
within_lines text (Ok f) h = tt
within_lines text (Err Memory) h = tt
within_lines text (Err (Wrong m)) h =
    placed_whole (length (lines_of text)) (lines_from nothing 1 (lines_of text)) m (some_line [] text) (λ p q. placed nothing 1 (lines_of text) p q) (sym h)

-- every statement stands before the line n
abbrev Below : ℕ → List Told → Type 0
Below n [] = Unit {0}
Below n (t ∷ ts) = (t.line < n) × Below n ts

rises_push : (k n : ℕ) (ts : List Told) (x : Said) → k < n → Rises k ts → Below n ts → Rises k (ts ++ record { line = n; says = x } ∷ [])
rises_push k n [] x h r b = (h, tt)
rises_push k n (t ∷ ts) x h r b = (r.0, rises_push t.line n ts x b.0 r.1 b.1)

below_more : (n : ℕ) (ts : List Told) → Below n ts → Below (n + 1) ts
below_more n [] b = tt
below_more n (t ∷ ts) b = (omega (arith, b.0), below_more n ts b.1)

below_push : (n : ℕ) (ts : List Told) (x : Said) → Below n ts → Below (n + 1) (ts ++ record { line = n; says = x } ∷ [])
below_push n [] x b = (omega arith, tt)
below_push n (t ∷ ts) x b = (omega (arith, b.0), below_push n ts x b.1)

-- a line adds one statement with its number, or none
abbrev Adds : State → State → ℕ → Type 0
Adds s t n = (t.statements ≡ s.statements) ⊎ ((x : Said) × (t.statements ≡ s.statements ++ record { line = n; says = x } ∷ []))

gone_on : {X : Type 0} (o : Result X Fault) (f : X → Result State Fault) (t : State) (P : Type 0) → ((x : X) → f x ≡ Ok t → P) → then o f ≡ Ok t → P
gone_on (Ok x) f t P k e = k x e
gone_on (Err y) f t P k e = absurd (cc)

either_way : (b : Bool) (x y : Result State Fault) (t : State) (P : Type 0) → (x ≡ Ok t → P) → (y ≡ Ok t → P) → cond b x y ≡ Ok t → P
either_way true x y t P f g e = f e
either_way false x y t P f g e = g e

abbrev with_storage : State → Storage → Result State Fault
with_storage s x = Ok (record { storage = Some x; store = s.store; lookup = s.lookup; entries = s.entries; statements = s.statements })

abbrev with_store : State → StoreKind → Result State Fault
with_store s x = Ok (record { storage = s.storage; store = Some x; lookup = s.lookup; entries = s.entries; statements = s.statements })

abbrev with_lookup : State → Lookup → Result State Fault
with_lookup s x = Ok (record { storage = s.storage; store = s.store; lookup = Some x; entries = s.entries; statements = s.statements })

keyword_adds : (s t : State) (n : ℕ) (ws : List (List ℕ)) (k : Option Keyword) → keyword_step s n ws k ≡ Ok t → Adds s t n
keyword_adds s t n ws None e = absurd (cc)
keyword_adds s t n ws (Some keyword.Storage) e =
    gone_on (before_lookup (is_some s.lookup) (is_some s.storage)) (λ _. then (storage_of ws) (with_storage s)) t (Adds s t n)
    (λ _ p. gone_on (storage_of ws) (with_storage s) t (Adds s t n) (λ x q. inl (cc)) p) e
keyword_adds s t n ws (Some keyword.Store) e =
    gone_on (before_lookup (is_some s.lookup) (is_some s.store)) (λ _. then (store_of ws) (with_store s)) t (Adds s t n)
    (λ _ p. gone_on (store_of ws) (with_store s) t (Adds s t n) (λ x q. inl (cc)) p) e
keyword_adds s t n ws (Some keyword.Lookup) e =
    either_way (is_some s.lookup) (Err fault.Twice) (then (lookup_of ws) (with_lookup s)) t (Adds s t n)
    (λ p. absurd (cc))
    (λ p. gone_on (lookup_of ws) (with_lookup s) t (Adds s t n) (λ x q. inl (cc)) p) e
keyword_adds s t n ws (Some (keyword.Entry k)) e =
    gone_on (entry_here s k ws) (λ x. Ok (and_says (and_names s (name_given k n (word ws 1))) n x)) t (Adds s t n) (λ x q. inr (x, cc)) e
keyword_adds s t n ws (Some (keyword.Rule r)) e =
    gone_on (rule_here s r ws) (λ x. Ok (and_says s n (said x))) t (Adds s t n) (λ x q. inr (said x, cc)) e

line_adds : (s t : State) (n : ℕ) (l : List ℕ) → line_step s n l ≡ Ok t → Adds s t n
line_adds s t n l e =
    either_way (eqb (length (words_of l)) 0) (Ok s) (statement_step s n (words_of l)) t (Adds s t n) (λ p. inl (cc))
    (λ p. keyword_adds s t n (words_of l) (keyword_of (word (words_of l) 0)) p) e

-- statements on rising lines, all before the line n
abbrev Sofar : ℕ → List Told → Type 0
Sofar n ts = Rises 0 ts × Below n ts

sofar_more : (s t : State) (n : ℕ) → 1 ≤ n → Sofar n s.statements → Adds s t n → Sofar (n + 1) t.statements
sofar_more s t n h b (inl e) = subst (Sofar (n + 1)) (sym e) (b.0, below_more n s.statements b.1)
sofar_more s t n h b (inr p) = subst (Sofar (n + 1)) (sym p.1) (rises_push 0 n s.statements p.0 (omega arith) b.0 b.1, below_push n s.statements p.0 b.1)

rising_at : (n : ℕ) (o : Result State Fault) (f : State → Result State Mistake) (t : State) (P : Type 0) → ((u : State) → o ≡ Ok u → f u ≡ Ok t → P) → at_line n o f ≡ Ok t → P
rising_at n (Ok u) f t P rest e = rest u refl e
rising_at n (Err y) f t P rest e = absurd (cc)

rising : (s t : State) (n : ℕ) (ls : List (List ℕ)) → 1 ≤ n → Sofar n s.statements → lines_from s n ls ≡ Ok t → Rises 0 t.statements
rising s t n [] h b e = let same : s.statements ≡ t.statements = cc in subst (Rises 0) same b.0
rising s t n (l ∷ ls) h b e =
    rising_at n (line_step s n l) (λ more. lines_from more (n + 1) ls) t (Rises 0 t.statements)
    (λ u p q. rising u t (n + 1) ls (omega arith) (sofar_more s u n h b (line_adds s u n l p)) q) e

opened_says : (n : ℕ) (s : State) (o : Option Lookup) (f : File) → opened n s o ≡ Ok f → f.statements ≡ s.statements
opened_says n s None f e = absurd (cc)
opened_says n s (Some l) f e = cc

rising_whole : (n : ℕ) (o : Result State Mistake) (f : File) → ((s : State) → o ≡ Ok s → Rises 0 s.statements) → afterwards o (finished n) ≡ Ok f → Rises 0 f.statements
rising_whole n (Ok s) f rest e = subst (Rises 0) (sym (opened_says n s s.lookup f e)) (rest s refl)
rising_whole n (Err m) f rest e = absurd (cc)

-- the statements of a file stand on rising lines
pub rising_lines : (text : List ℕ) (r : Result RuleFile Error) → Parsed file_of r (parsed text) → IfOk r (λ f. Rises 0 (file_of f).statements)
rising_lines text (Ok f) h =
    rising_whole (length (lines_of text)) (lines_from nothing 1 (lines_of text)) (file_of f) (λ s e. rising nothing s 1 (lines_of text) (omega arith) (tt, tt) e) (sym h)
rising_lines text (Err e) h = tt
