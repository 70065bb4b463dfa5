-- Value formats: their bits, the records that they have fields for, and the bytes of a record in them.
use Rattle.std.proofs.Common.{◌≡◌, ℕ, zero, suc, ◌+◌, ◌*◌, ◌/◌, ◌%◌, ◌^◌, ◌<◌, ◌≤◌, false, eqb, List, [], ◌∷◌, ◌++◌, map, length, Some, None, Option, refl, ap, ◌∙◌, subst, add-zero, mul-add, arith}
use lib.Bits.{bit_or, or_step, or_comm, or_lt}
use Rattle.std.proofs.lemmas.Bool.{eqb-false}
use Rattle.std.proofs.lemmas.Bool.Decides.{nat_tests}
use Rattle.spec.specs.Lists.{Every}
use Rattle.spec.specs.Values.{Metric, ValueRecord, DeviceOrVariationIndex, writing_order, field_bit, device_bit, from_bits, empty, format, ones, encoded_size}
use Rattle.spec.specs.Bytes.{union}
use Rattle.list_laws.proofs.Orders.{every_map}
use Rattle.laws.specs.Conditions.{BitsIn, HasFields}

-- ---- bits

-- each of these bits is in f, the lowest first
abbrev pub BitsBelow : ℕ → List ℕ → Type 0
BitsBelow f [] = Unit {0}
BitsBelow f (b ∷ bs) = (b ≤ f % 2) × BitsBelow (f / 2) bs

bits_listed : (bs : List ℕ) (f : ℕ) → Every (λ b. b ≤ 1) bs → BitsIn (length bs) (from_bits bs) f → BitsBelow f bs
bits_listed [] f h i = tt
bits_listed (b ∷ bs) f h i =
    let low : b ≤ 1 = h.0 in
    let m : (b + 2 * from_bits bs) % 2 ≡ b = omega arith in
    let d : (b + 2 * from_bits bs) / 2 ≡ from_bits bs = omega arith in
    (subst (λ x. x ≤ f % 2) m i.0, bits_listed bs (f / 2) h.1 (subst (λ x. BitsIn (length bs) x (f / 2)) d i.1))

field_bit_low : (m : Option (Metric DeviceOrVariationIndex)) → field_bit m ≤ 1
field_bit_low None = omega arith
field_bit_low (Some m) = omega arith

device_bit_low : (m : Option (Metric DeviceOrVariationIndex)) → device_bit m ≤ 1
device_bit_low None = omega arith
device_bit_low (Some m) = by m.beside
  where
    by : (b : Option DeviceOrVariationIndex) → ◌≤◌ (elim b [ None ↦ 0 | Some b ↦ 1 ]) 1
    by None = omega arith
    by (Some b) = omega arith

-- the bits of a record's value format: those of the defaults, and then those of what stands beside them
abbrev bits : ValueRecord DeviceOrVariationIndex → List ℕ
bits r = map field_bit (writing_order r) ++ map device_bit (writing_order r)

bits_low : (r : ValueRecord DeviceOrVariationIndex) → Every (λ b. b ≤ 1) (bits r)
bits_low r = let low = field_bit_low in let high = device_bit_low in
    (low r.x_placement, (low r.y_placement, (low r.x_advance, (low r.y_advance, (high r.x_placement, (high r.y_placement, (high r.x_advance, (high r.y_advance, tt))))))))

pub both_bits : (r : ValueRecord DeviceOrVariationIndex) (f : ℕ) → HasFields f r → BitsBelow f (map field_bit (writing_order r)) × BitsBelow (f / 16) (map device_bit (writing_order r))
both_bits r f h =
    let b = bits_listed (bits r) f (bits_low r) h in
    let e : f / 2 / 2 / 2 / 2 ≡ f / 16 = omega arith in
    ((b.0, (b.1.0, (b.1.1.0, (b.1.1.1.0, tt)))), subst (λ n. BitsBelow n (map device_bit (writing_order r))) e b.1.1.1.1)

-- a bit that is not 1
pub zero_bit : (f : ℕ) → eqb (f % 2) 1 ≡ false → f % 2 ≡ 0
zero_bit f q = let n = eqb-false (f % 2) 1 q in grind (arith, nat_tests)

-- ---- a record's own format

from_bits_below : (bs : List ℕ) → Every (λ b. b ≤ 1) bs → from_bits bs < 2 ^ length bs
from_bits_below [] h = omega arith
from_bits_below (b ∷ bs) h = let low = h.0 in let r = from_bits_below bs h.1 in let g : b + 2 * from_bits bs < 2 ^ suc (length bs) = omega arith in g

format_small : (r : ValueRecord DeviceOrVariationIndex) → format r < 256
format_small r = from_bits_below (bits r) (bits_low r)

bits_own : (d f : ℕ) → BitsIn d f f
bits_own zero f = tt
bits_own (suc d) f = (omega arith, bits_own d (f / 2))

-- it has eight bits, and has the record's fields
pub own_format : (f : ℕ) (r : ValueRecord DeviceOrVariationIndex) → format r ≡ f → (f < 256) × HasFields f r
own_format f r e = (subst (λ n. n < 256) e (format_small r), subst (λ n. HasFields n r) e (bits_own 8 (format r)))

no_metric : (m : Option (Metric DeviceOrVariationIndex)) → field_bit m ≡ 0 → m ≡ None
no_metric None h = refl
no_metric (Some m) h = absurd (omega arith)

-- a record without fields is empty
pub no_fields : (r : ValueRecord DeviceOrVariationIndex) → format r ≡ 0 → r ≡ empty
no_fields r h =
    let xa = no_metric r.x_advance (omega arith) in
    let ya = no_metric r.y_advance (omega arith) in
    let xp = no_metric r.x_placement (omega arith) in
    let yp = no_metric r.y_placement (omega arith) in
    λ i. record { x_advance = xa i; y_advance = ya i; x_placement = xp i; y_placement = yp i }

-- ---- how many bytes a record has

ones_four : (d f : ℕ) → ones (suc (suc (suc (suc d)))) f ≡ ones 4 f + ones d (f / 16)
ones_four d f = let q : f / 2 / 2 / 2 / 2 ≡ f / 16 = omega arith in let e = ap (ones d) q in omega arith

-- a value format has eight bits
pub size_split : (f : ℕ) → f < 256 → encoded_size f ≡ 2 * ones 4 f + 2 * ones 4 (f / 16)
size_split f h =
    let z : f / 16 / 16 ≡ 0 = omega arith in
    let e : ones 16 f ≡ ones 4 f + ones 4 (f / 16) =
    ones_four 12 f ∙ ap (λ x. ones 4 f + x) (ones_four 8 (f / 16) ∙ ap (λ x. ones 4 (f / 16) + ones 8 x) z ∙ add-zero (ones 4 (f / 16))) in
    ap (λ n. 2 * n) e ∙ mul-add 2 (ones 4 f) (ones 4 (f / 16))

-- ---- the union of value formats

union_right : (d g a b : ℕ) → BitsIn d g b → BitsIn d g (bit_or a b)
union_right zero g a b h = tt
union_right (suc d) g a b h =
    let e = or_step a b in
    let m : g % 2 ≤ bit_or a b % 2 = let l = h.0 in omega arith in
    let q : bit_or (a / 2) (b / 2) ≡ bit_or a b / 2 = omega arith in
    (m, subst (BitsIn d (g / 2)) q (union_right d (g / 2) (a / 2) (b / 2) h.1))

-- it has the bits of each
pub union_has : (fs : List ℕ) → Every (λ f. BitsIn 8 f (union fs)) fs
union_has [] = tt
union_has (f ∷ fs) = (
  subst (BitsIn 8 f) (or_comm (union fs) f) (union_right 8 f (union fs) f (bits_own 8 f)),
  every_map {P = λ g. BitsIn 8 g (union fs)} {Q = λ g. BitsIn 8 g (bit_or f (union fs))} (λ g. union_right 8 g f (union fs)) fs (union_has fs),
)

pub union_small : {A : Type 0} (r : A → ValueRecord DeviceOrVariationIndex) (xs : List A) → union (map (λ x. format (r x)) xs) < 256
union_small r [] = omega arith
union_small r (x ∷ xs) = or_lt 8 (format (r x)) (union (map (λ x. format (r x)) xs)) (format_small (r x)) (union_small r xs)

-- an empty record has no fields
pub empty_in : (f : ℕ) → HasFields f empty
empty_in f = none 8 f
  where
    none : (d f : ℕ) → BitsIn d 0 f
    none zero f = tt
    none (suc d) f = (omega arith, none d (f / 2))
