-- Metrics, value records and value formats. B is what may stand beside a metric's default: in a rule the number of a device
-- or of a delta list, in a built record a device or the id that a variation store answered.
use Rattle.std.specs.Prelude.{ℕ, zero, suc, ◌+◌, ◌*◌, ◌/◌, ◌%◌, Bool, true, false, ◌&&◌, List, [], ◌∷◌, ◌++◌, map, length, drop, ℤ, Some, None, Option, ◌==◌, slice_index, slice_index_or}
use Rattle.spec.specs.Fields.{same_signed}
use Rattle.spec.specs.Entries.{Device, same_device, no_device}

pub record Metric (B : Type 0) : Type 0 where
  pub default : ℤ
  pub beside : Option B

-- up to four metrics
pub record ValueRecord (B : Type 0) : Type 0 where
  pub x_advance : Option (Metric B)
  pub y_advance : Option (Metric B)
  pub x_placement : Option (Metric B)
  pub y_placement : Option (Metric B)

-- beside a metric of a rule: the number of an entry
pub data DeviceOrDeltas : Type 0 where
  device# : ℕ → DeviceOrDeltas
  deltas# : ℕ → DeviceOrDeltas

-- beside a metric of a built record: a device, or the id under which a store holds the deltas
pub data DeviceOrVariationIndex : Type 0 where
  device : Device → DeviceOrVariationIndex
  variation_index : ℕ → DeviceOrVariationIndex

-- a glyph with its record
pub record SingleOf (B : Type 0) : Type 0 where
  pub glyph : ℕ
  pub values : ValueRecord B

-- two glyphs, two sets or the numbers of two sets, with their two records
pub record PairOf (K B : Type 0) : Type 0 where
  pub first : K
  pub second : K
  pub values1 : ValueRecord B
  pub values2 : ValueRecord B

-- no metric at all
abbrev pub empty : {B : Type 0} → ValueRecord B
empty = record { x_advance = None; y_advance = None; x_placement = None; y_placement = None }

-- the metrics in the order of a build, and in the order of writing
abbrev pub build_order : {B : Type 0} → ValueRecord B → List (Option (Metric B))
build_order r = r.x_advance ∷ r.y_advance ∷ r.x_placement ∷ r.y_placement ∷ []

abbrev pub writing_order : {B : Type 0} → ValueRecord B → List (Option (Metric B))
writing_order r = r.x_placement ∷ r.y_placement ∷ r.x_advance ∷ r.y_advance ∷ []

-- ---- the value format

-- whether a metric has its field, and whether something stands beside it
abbrev pub field_bit : {B : Type 0} → Option (Metric B) → ℕ
field_bit None = 0
field_bit (Some m) = 1

abbrev pub device_bit : {B : Type 0} → Option (Metric B) → ℕ
device_bit None = 0
device_bit (Some m) = elim m.beside [ None ↦ 0 | Some b ↦ 1 ]

-- the number with these bits, the lowest first
abbrev pub from_bits : List ℕ → ℕ
from_bits [] = 0
from_bits (b ∷ bs) = b + 2 * from_bits bs

-- bits 0x01 to 0x08 for the metrics in writing order, 0x10 to 0x80 for what stands beside them
abbrev pub format : {B : Type 0} → ValueRecord B → ℕ
format r = from_bits (map field_bit (writing_order r) ++ map device_bit (writing_order r))

-- how many of the lowest d bits are ones
abbrev pub ones : ℕ → ℕ → ℕ
ones zero f = 0
ones (suc d) f = f % 2 + ones d (f / 2)

-- the bytes of a record in a value format: two for each one in it
abbrev pub encoded_size : ℕ → ℕ
encoded_size f = 2 * ones 16 f

-- ---- the same built record: the same fields, defaults, devices and ids

abbrev pub same_beside : DeviceOrVariationIndex → DeviceOrVariationIndex → Bool
same_beside (device x) (device y) = same_device x y
same_beside (device x) (variation_index y) = false
same_beside (variation_index x) (device y) = false
same_beside (variation_index x) (variation_index y) = x == y

abbrev pub same_option : {A : Type 0} → (A → A → Bool) → Option A → Option A → Bool
same_option e None None = true
same_option e None (Some y) = false
same_option e (Some x) None = false
same_option e (Some x) (Some y) = e x y

abbrev pub same_metric : Metric DeviceOrVariationIndex → Metric DeviceOrVariationIndex → Bool
same_metric x y = same_signed x.default y.default && same_option same_beside x.beside y.beside

abbrev pub same_record : ValueRecord DeviceOrVariationIndex → ValueRecord DeviceOrVariationIndex → Bool
same_record r s =
    same_option same_metric r.x_advance s.x_advance && same_option same_metric r.y_advance s.y_advance
    && same_option same_metric r.x_placement s.x_placement && same_option same_metric r.y_placement s.y_placement

-- ---- from a rule's record to the built one

-- the numbers of the delta lists beside a record's metrics, in the order of a build
abbrev pub delta_list : Option (Metric DeviceOrDeltas) → List ℕ
delta_list None = []
delta_list (Some m) = elim m.beside [ None ↦ [] | Some b ↦ elim b [ device# n ↦ [] | deltas# n ↦ n ∷ [] ] ]

abbrev pub delta_lists : ValueRecord DeviceOrDeltas → List ℕ
delta_lists r = delta_list r.x_advance ++ delta_list r.y_advance ++ delta_list r.x_placement ++ delta_list r.y_placement

-- beside a built metric: the device of that number, or the first of the ids
abbrev pub built_beside : List Device → DeviceOrDeltas → List ℕ → DeviceOrVariationIndex
built_beside devices (device# n) ids = device (slice_index_or devices n no_device)
built_beside devices (deltas# n) ids = variation_index (slice_index ids 0)

abbrev pub built_metric : List Device → Option (Metric DeviceOrDeltas) → List ℕ → Option (Metric DeviceOrVariationIndex)
built_metric devices None ids = None
built_metric devices (Some m) ids = Some (record { default = m.default; beside = elim m.beside [ None ↦ None | Some b ↦ Some (built_beside devices b ids) ] })

-- ids are those of the record's own delta lists, in the order of a build
abbrev pub built_record : List Device → ValueRecord DeviceOrDeltas → List ℕ → ValueRecord DeviceOrVariationIndex
built_record devices r ids =
    let a = length (delta_list r.x_advance) in
    let b = a + length (delta_list r.y_advance) in
    let c = b + length (delta_list r.x_placement) in
    record {
      x_advance = built_metric devices r.x_advance ids;
      y_advance = built_metric devices r.y_advance (drop a ids);
      x_placement = built_metric devices r.x_placement (drop b ids);
      y_placement = built_metric devices r.y_placement (drop c ids);
    }

abbrev pub single_lists : SingleOf DeviceOrDeltas → List ℕ
single_lists r = delta_lists r.values

abbrev pub pair_lists : {K : Type 0} → PairOf K DeviceOrDeltas → List ℕ
pair_lists r = delta_lists r.values1 ++ delta_lists r.values2

abbrev pub built_single : List Device → SingleOf DeviceOrDeltas → List ℕ → SingleOf DeviceOrVariationIndex
built_single devices r ids = record { glyph = r.glyph; values = built_record devices r.values ids }

abbrev pub built_pair : {K : Type 0} → List Device → PairOf K DeviceOrDeltas → List ℕ → PairOf K DeviceOrVariationIndex
built_pair devices r ids = record { first = r.first; second = r.second; values1 = built_record devices r.values1 ids; values2 = built_record devices r.values2 (drop (length (delta_lists r.values1)) ids) }

-- things one after the other, each with the ids of its own delta lists, which `lists` tells
abbrev pub built_each : {A B : Type 0} → (A → List ℕ) → (A → List ℕ → B) → List A → List ℕ → List B
built_each lists f [] ids = []
built_each lists f (r ∷ rs) ids = f r ids ∷ built_each lists f rs (drop (length (lists r)) ids)
