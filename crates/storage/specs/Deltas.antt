-- Which entry of a delta list of the definitions each value of the code is.
use Rattle.std.specs.Prelude.{List, map}
use Rattle.spec.specs.Entries.{Delta}
use Rattle.storage.specs.declared.delta.Delta as code_delta

abbrev pub delta_of : code_delta.Delta → Delta
delta_of d = record { region = d.region; delta = d.delta }

abbrev pub deltas_of : List code_delta.Delta → List Delta
deltas_of ds = map delta_of ds
