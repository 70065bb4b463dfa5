-- Writes one after the other: what stands so far, and what is to come.
use Rattle.std.proofs.Common.{◌≡◌, ℕ, ◌+◌, ◌<◌, ◌≤◌, List, [], ◌++◌, length, take, drop, Ok, Err, Result, sym, refl, ap, ◌∙◌, subst, append-nil, arith}
use Rattle.std.proofs.lemmas.List.{append_assoc, length-append, length-drop, length-take, drop-drop, take-append-drop, take_at, drop_at, length-take-le}
use Rattle.layout.specs.declared.output.Output.{Output}
use Rattle.denials.specs.declared.denial.Denial.{Denial}
use Rattle.denials.specs.Denials.{word_of, part_of}
use Rattle.layout.specs.Writing.{placed, After, Wrote}

pub length_placed : (b : List ℕ) (u : ℕ) (p : List ℕ) → u + length p ≤ length b → length (placed b u p) ≡ length b
length_placed b u p h = simp (length-append, length-take, length-drop) (omega arith)

placed_placed : (b : List ℕ) (u : ℕ) (p q : List ℕ) → u + length p ≤ length b →
    placed (placed b u p) (u + length p) q ≡ placed b u (p ++ q)
placed_placed b u p q h =
    let k : u ≤ length b = omega arith in
    let m : length (take u b) ≡ u = length-take-le u b k in
    let e : length (take u b ++ p) ≡ u + length p = length-append (take u b) p ∙ ap (λ n. n + length p) m in
    let s : placed b u p ≡ (take u b ++ p) ++ drop (u + length p) b = sym (append_assoc (take u b) p (drop (u + length p) b)) in
    let t : take (u + length p) (placed b u p) ≡ take u b ++ p = ap (take (u + length p)) s ∙ take_at (take u b ++ p) (drop (u + length p) b) (u + length p) e in
    let d : drop (u + length p) (placed b u p) ≡ drop (u + length p) b = ap (drop (u + length p)) s ∙ drop_at (take u b ++ p) (drop (u + length p) b) (u + length p) e in
    let d2 : drop ((u + length p) + length q) (placed b u p) ≡ drop (u + length (p ++ q)) b =
    sym (drop-drop (length q) (u + length p) (placed b u p)) ∙ ap (drop (length q)) d ∙ drop-drop (length q) (u + length p) b
    ∙ ap (λ n. drop n b) (omega (arith, length-append p q)) in
    rw (t, d2) (append_assoc (take u b) p (q ++ drop (u + length (p ++ q)) b) ∙ ap (λ z. take u b ++ z) (sym (append_assoc p q (drop (u + length (p ++ q)) b))))

placed_none : (b : List ℕ) (u : ℕ) → b ≡ placed b u []
placed_none b u = let e : u + 0 ≡ u = omega arith in sym (ap (λ n. take u b ++ drop n b) e ∙ take-append-drop u b)

after_none : (o : Output) → o.used ≤ length o.bytes.now → After o o []
after_none o h = record { used = omega arith; fits = omega arith; bytes = placed_none o.bytes.now o.used }

after_then : {o o1 o2 : Output} {p q : List ℕ} → After o o1 p → After o1 o2 q → After o o2 (p ++ q)
after_then {o} {o1} {o2} {p} {q} a b =
    let n : length o1.bytes.now ≡ length o.bytes.now = ap length a.bytes ∙ length_placed o.bytes.now o.used p a.fits in
    let l = length-append p q in
    record {
      used = omega (arith, a.used, b.used);
      fits = omega (arith, a.used, a.fits, b.fits);
      bytes = b.bytes ∙ ap (λ t. placed t o1.used q) a.bytes ∙ ap (λ t. placed (placed o.bytes.now o.used p) t q) a.used ∙ placed_placed o.bytes.now o.used p q a.fits;
    }

-- in the midst of writing `whole` from o on: o' is what stands, `left` is to come
pub record Midway (o o' : Output) (left whole : List ℕ) : Type 0 where
  pub done : List ℕ
  pub joins : done ++ left ≡ whole
  pub lent : o'.bytes.ghost_name ≡ o.bytes.ghost_name
  pub len : length o'.bytes.now ≡ length o.bytes.now
  pub finished : o'.finished ≡ o.finished
  pub after : After o o' done

pub begin : (o : Output) (whole : List ℕ) → o.used ≤ length o.bytes.now → Midway o o whole whole
begin o whole h = record { done = []; joins = refl; lent = refl; len = refl; finished = refl; after = after_none o h }

-- the same, with what is left said otherwise
pub again : {o o' : Output} {left whole : List ℕ} → Midway o o' left whole → (left' : List ℕ) → left ≡ left' → Midway o o' left' whole
again {o} {o'} {left} {whole} m left' e = subst (λ l. Midway o o' l whole) e m

pub more : {o o1 o2 : Output} {left whole : List ℕ} → Midway o o1 left whole → {X : Type 0} {x : X} → (part left' : List ℕ) → left ≡ part ++ left' → Wrote {X = X} (Ok x) o1 o2 part → Midway o o2 left' whole
more m part left' e w = record {
  done = m.done ++ part;
  joins = append_assoc m.done part left' ∙ ap (λ l. m.done ++ l) (sym e) ∙ m.joins;
  lent = w.lent ∙ m.lent;
  len = w.len ∙ m.len;
  finished = w.finished ∙ m.finished;
  after = after_then m.after w.cases;
}

pub fails : {o o1 o2 : Output} {left whole : List ℕ} → Midway o o1 left whole → {X Y : Type 0} {d : Denial} → (r : Result Y Denial) (part left' : List ℕ) → left ≡ part ++ left' → Wrote {X = X} (Err d) o1 o2 part → (d' : Denial) → r ≡ Err d' → d' ≡ d → Wrote {X = Y} r o o2 whole
fails {o} {o1} {o2} {left} {whole} m r part left' e w d' is as-was =
    let a = length-append m.done left in
    let b = length-append part left' in
    let c : length o.bytes.now < o.used + length whole = omega (arith, ap length m.joins, ap length e, w.cases.2, m.len, m.after.used) in
    record { lent = w.lent ∙ m.lent; len = w.len ∙ m.len; finished = w.finished ∙ m.finished; cases = rw is (ap (λ z. word_of z.word) as-was ∙ w.cases.0, ap (λ z. part_of z.part) as-was ∙ w.cases.1, c) }

pub ends : {o o' : Output} {left whole : List ℕ} → Midway o o' left whole → {X : Type 0} {x : X} → left ≡ [] → Wrote {X = X} (Ok x) o o' whole
ends {o} {o'} {left} {whole} m e = record {
  lent = m.lent;
  len = m.len;
  finished = m.finished;
  cases = subst (λ p. After o o' p) (sym (append-nil m.done) ∙ ap (λ l. m.done ++ l) (sym e) ∙ m.joins) m.after;
}

-- the last write, whatever it answered
pub last : {o o1 o2 : Output} {left whole : List ℕ} → Midway o o1 left whole → {X : Type 0} → (r : Result X Denial) → Wrote r o1 o2 left → Wrote r o o2 whole
last m (Ok x) w = ends (more m _ [] (sym (append-nil _)) w) refl
last m (Err d) w = fails m (Err d) _ [] (sym (append-nil _)) w d refl refl

pub same : {o o1 o2 : Output} {left whole : List ℕ} → Midway o o1 left whole → o2 ≡ o1 → Midway o o2 left whole
same {o} {o1} {o2} {left} {whole} m e = subst (λ t. Midway o t left whole) (sym e) m
