-- The tests for the same record, device and value are equality.
use Rattle.std.proofs.Common.{◌≡◌, Bool, true, ◌&&◌, eqb, List, [], ◌∷◌, ℤ, pos, negsuc, Some, None, Option, refl, ap, ap₂}
use Rattle.spec.specs.Fields.{same_signed}
use Rattle.spec.specs.Entries.{Device, same_values, same_device}
use Rattle.spec.specs.Values.{Metric, ValueRecord, DeviceOrVariationIndex, device, variation_index, same_beside, same_option, same_metric, same_record}
use Rattle.list_laws.proofs.Orders.{false_true}
use Rattle.list_laws.proofs.Linear.{both, numbers_linear}

pub signed_same : (x y : ℤ) → same_signed x y ≡ true → x ≡ y
signed_same (pos m) (pos n) h = ap pos (numbers_linear.equal m n h)
signed_same (pos m) (negsuc n) h = false_true h
signed_same (negsuc m) (pos n) h = false_true h
signed_same (negsuc m) (negsuc n) h = ap negsuc (numbers_linear.equal m n h)

values_same : (xs ys : List ℤ) → same_values xs ys ≡ true → xs ≡ ys
values_same [] [] h = refl
values_same [] (y ∷ ys) h = false_true h
values_same (x ∷ xs) [] h = false_true h
values_same (x ∷ xs) (y ∷ ys) h = let b = both (same_signed x y) (same_values xs ys) h in ap₂ (λ a as'. a ∷ as') (signed_same x y b.0) (values_same xs ys b.1)

device_same : (x y : Device) → same_device x y ≡ true → x ≡ y
device_same x y h = let b = both (eqb x.first_size y.first_size) (same_values x.values y.values) h in
    ap₂ {C = Device} (λ a c. record { first_size = a; values = c }) (numbers_linear.equal x.first_size y.first_size b.0) (values_same x.values y.values b.1)

beside_same : (x y : DeviceOrVariationIndex) → same_beside x y ≡ true → x ≡ y
beside_same (device x) (device y) h = ap device (device_same x y h)
beside_same (device x) (variation_index y) h = false_true h
beside_same (variation_index x) (device y) h = false_true h
beside_same (variation_index x) (variation_index y) h = ap variation_index (numbers_linear.equal x y h)

option_same : {A : Type 0} (e : A → A → Bool) → ((x y : A) → e x y ≡ true → x ≡ y) → (x y : Option A) → same_option e x y ≡ true → x ≡ y
option_same e f None None h = refl
option_same e f None (Some y) h = false_true h
option_same e f (Some x) None h = false_true h
option_same e f (Some x) (Some y) h = ap Some (f x y h)

metric_same : (x y : Metric DeviceOrVariationIndex) → same_metric x y ≡ true → x ≡ y
metric_same x y h = let b = both (same_signed x.default y.default) (same_option same_beside x.beside y.beside) h in
    ap₂ {C = Metric DeviceOrVariationIndex} (λ a c. record { default = a; beside = c }) (signed_same x.default y.default b.0) (option_same same_beside beside_same x.beside y.beside b.1)

-- THE SAME RECORD
pub record_same : (r s : ValueRecord DeviceOrVariationIndex) → same_record r s ≡ true → r ≡ s
record_same r s h =
    let m = option_same same_metric metric_same in
    let a = both (same_option same_metric r.x_advance s.x_advance && same_option same_metric r.y_advance s.y_advance && same_option same_metric r.x_placement s.x_placement) (same_option same_metric r.y_placement s.y_placement) h in
    let b = both (same_option same_metric r.x_advance s.x_advance && same_option same_metric r.y_advance s.y_advance) (same_option same_metric r.x_placement s.x_placement) a.0 in
    let c = both (same_option same_metric r.x_advance s.x_advance) (same_option same_metric r.y_advance s.y_advance) b.0 in
    λ i. record { x_advance = m r.x_advance s.x_advance c.0 i; y_advance = m r.y_advance s.y_advance c.1 i; x_placement = m r.x_placement s.x_placement b.1 i; y_placement = m r.y_placement s.y_placement a.1 i }

-- ---- and each is the same as itself

signed_self : (x : ℤ) → same_signed x x ≡ true
signed_self (pos n) = numbers_linear.self n
signed_self (negsuc n) = numbers_linear.self n

values_self : (xs : List ℤ) → same_values xs xs ≡ true
values_self [] = refl
values_self (x ∷ xs) = rw (signed_self x) (values_self xs)

beside_self : (x : DeviceOrVariationIndex) → same_beside x x ≡ true
beside_self (device d) = rw (numbers_linear.self d.first_size) (values_self d.values)
beside_self (variation_index n) = numbers_linear.self n

option_self : {A : Type 0} (e : A → A → Bool) → ((x : A) → e x x ≡ true) → (x : Option A) → same_option e x x ≡ true
option_self e f None = refl
option_self e f (Some x) = f x

metric_self : (x : Metric DeviceOrVariationIndex) → same_metric x x ≡ true
metric_self x = rw (signed_self x.default) (option_self same_beside beside_self x.beside)

pub record_self : (r : ValueRecord DeviceOrVariationIndex) → same_record r r ≡ true
record_self r = let m = option_self same_metric metric_self in rw (m r.x_advance) (rw (m r.y_advance) (rw (m r.x_placement) (m r.y_placement)))
