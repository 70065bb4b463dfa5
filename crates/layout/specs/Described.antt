-- What the parts of the code are in the definitions.
use Rattle.std.specs.Prelude.{ℕ, List}
use Rattle.spec.specs.Entries.{Device}
use Rattle.spec.specs.Bytes.{Table, head, own}
use Rattle.layout.specs.declared.device.Device as code

abbrev pub described : code.Device → Device
described d = record { first_size = d.first_size; values = d.values.now }

-- the numbers in the fields of a table
abbrev pub table_fields : Table → List ℕ
table_fields t = head (own t) t
