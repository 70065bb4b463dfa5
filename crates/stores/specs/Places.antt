-- The list that a brought place holds.
use Rattle.std.specs.Prelude.{List, take}
use Rattle.spec.specs.Entries.{Delta}
use Rattle.storage.specs.Deltas.{deltas_of}
use Rattle.stores.specs.declared.places.Place.{Place}

-- the list in a place
abbrev pub list_in : Place → List Delta
list_in p = deltas_of (take p.len p.entries)
