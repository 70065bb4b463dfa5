-- A part that is written in pieces, and its size.
use Rattle.std.proofs.Common.{◌≡◌, ℕ, ◌+◌, ◌-◌, ◌*◌, ◌/◌, ◌<◌, ◌≤◌, List, [], ◌∷◌, ◌++◌, length, ℤ, None, Ok, Option, Result, sym, refl, ap, ◌∙◌, subst, inl, inr, min, ◌%◌, ◌⊎◌, le-div_iff_mul-le, add-mul, arith}
use Rattle.std.proofs.lemmas.Bool.{cases_lt}
use Rattle.std.proofs.lemmas.Bool.Decides.{nat_tests}
use Rattle.std.proofs.lemmas.Grind.{div_ceil_times}
use Rattle.spec.specs.Lists.{Every}
use Rattle.spec.specs.Fields.{big_endian, Stand}
use Rattle.spec.specs.Entries.{Device, value_at}
use Rattle.spec.specs.Values.{device}
use Rattle.spec.specs.Devices.{delta_format, per_word, device_fields}
use Rattle.spec.specs.Bytes.{end, fields, own, Below, Lies}
use Rattle.spec.specs.Meaning.{beside, no_id}
use Rattle.spec.specs.Denials as fault_of
use Rattle.laws.specs.Conditions.{Within}
use Rattle.laws.proofs.Lying.{fields_head}
use Rattle.laws.proofs.Devices.{beside_reads}
use Rattle.denials.specs.declared.denial.Denial.{Denial}
use Rattle.layout.specs.declared.output.Output.{Output}
use Rattle.layout.specs.Writing.{Wrote, Puts, room}
use Rattle.layout.specs.Faults.{device_fault, words_in}
use Rattle.layout.proofs.Places.{begin, more, last}
use Rattle.layout.proofs.Words.{words_length, count_is}

-- one piece behind another
pub both : {o o1 o2 : Output} {X Y : Type 0} {y : Y} (r : Result X Denial) (p q : List ℕ) → Wrote {X = Y} (Ok y) o o1 p → Wrote r o1 o2 q → Wrote r o o2 (p ++ q)
both {o} r p q w v = last (more (begin o (p ++ q) (omega (arith, w.cases.fits))) p q refl w) r v

pub puts : {o o' : Output} {X : Type 0} (f : Option fault_of.Denial) (r : Result X Denial) (part whole : List ℕ) → f ≡ None → part ≡ whole → Wrote r o o' part → Puts f r o o' whole
puts {o} {o'} f r part whole e p w = subst (λ g. Puts g r o o' whole) (sym e) (subst (λ q. Wrote r o o' q) p w)

pub room_is : (f : Option fault_of.Denial) (ws : List ℕ) → f ≡ None → room f ws ≡ 2 * length ws
room_is f ws e = ap (λ g. room g ws) e

pub device_allowed : (first n : ℕ) → device_fault first n ≡ None → (1 ≤ n) × (first + n - 1 ≤ 65535)
device_allowed first n e = grind (arith, nat_tests)

pub device_pieces : (first final n f : ℕ) (vs : List ℤ) → final ≡ first + length vs - 1 → n ≡ f → f ≡ delta_format vs
    → big_endian (first ∷ final ∷ n ∷ []) ++ big_endian (words_in f vs) ≡ big_endian (device_fields (record { first_size = first; values = vs }))
device_pieces first final n f vs p k q =
    ap (λ l. big_endian (first ∷ l ∷ n ∷ words_in f vs)) p
    ∙ ap (λ g. big_endian (first ∷ (first + length vs - 1) ∷ g ∷ words_in f vs)) k
    ∙ ap (λ g. big_endian (first ∷ (first + length vs - 1) ∷ g ∷ words_in g vs)) q

pub below_fields : (bs : List ℕ) (base at : ℕ) (ns : List ℕ) → Below bs base at (fields ns end)
below_fields bs base at [] = tt
below_fields bs base at (n ∷ ns) = below_fields bs base at ns

-- fields alone, as a table
pub fields_lie : (bs : List ℕ) (at : ℕ) (ns : List ℕ) → Stand bs at ns → Lies bs at (fields ns end)
fields_lie bs at ns s = (subst (λ l. Stand bs at l) (sym (fields_head ns (own (fields ns end)))) s, below_fields bs at (own (fields ns end)) ns)

-- wherever the fields of a device stand, they mean what it says
pub device_back : (d : Device) (bs : List ℕ) (at q : ℕ) → Every (Within 128) d.values → device_fault d.first_size (length d.values) ≡ None → Stand bs at (device_fields d)
    → ◌≡◌ {A = Result (ℤ × ℕ) ℕ} (beside bs q at) (Ok (value_at d q, no_id))
device_back d bs at q w e s = beside_reads bs at q (device d) ((device_allowed _ _ e).0, w) (fields_lie bs at (device_fields d) s)

-- a quotient rounded up
ceil_is : (x y : ℕ) → 0 < y → x / y + min 1 (x % y) ≡ (x + y - 1) / y
ceil_is x y h =
    let t = div_ceil_times x y h in
    let a : x / y + min 1 (x % y) ≤ (x + y - 1) / y = (le-div_iff_mul-le h).1 (omega arith) in
    let b : (x + y - 1) / y < x / y + min 1 (x % y) + 1 = go (cases_lt ((x + y - 1) / y) (x / y + min 1 (x % y) + 1)) t.0 in
    omega arith
  where
    go : ((x + y - 1) / y < x / y + min 1 (x % y) + 1) ⊎ (x / y + min 1 (x % y) + 1 ≤ (x + y - 1) / y) → x ≤ (x / y + min 1 (x % y)) * y → (x + y - 1) / y < x / y + min 1 (x % y) + 1
    go (inl l) t = l
    go (inr l) t = let k = (le-div_iff_mul-le {k = y} {x = x / y + min 1 (x % y) + 1} {y = x + y - 1} h).0 l in absurd (omega (arith, add-mul (x / y + min 1 (x % y)) 1 y))

pub device_size : (d : Device) (f per : ℕ) → device_fault d.first_size (length d.values) ≡ None → f ≡ delta_format d.values → per ≡ per_word f → 0 < per
    → 6 + 2 * (length d.values / per + min 1 (length d.values % per)) ≡ room (device_fault d.first_size (length d.values)) (device_fields d)
device_size d f per e p q h =
    let vs = d.values in
    let r = room_is (device_fault d.first_size (length vs)) (device_fields d) e in
    let w = words_length (delta_format vs) vs in
    let c = count_is (delta_format vs) per vs (q ∙ ap per_word p) in
    let k = ceil_is (length vs) per h in
    omega arith
