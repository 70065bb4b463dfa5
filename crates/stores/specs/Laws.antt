-- Laws of trimming, and of stores to which lists are added one after the other.
use Rattle.std.specs.Prelude.{◌≡◌, ℕ, List, None}
use Rattle.spec.specs.Entries.{Delta, deltas_fault, Alike}
use Rattle.spec.specs.Stores.{Store, AddedAll, Keeps}
use Rattle.spec.specs.StoreModels.{trimmed}

-- trimming keeps goodness and every region's delta
abbrev pub TrimmingKeeps : Type 0
TrimmingKeeps = (l : List Delta) → deltas_fault l ≡ None → (deltas_fault (trimmed l) ≡ None) × Alike (trimmed l) l

-- an id that is held keeps its deltas, whatever is added
abbrev pub IdsStay : {S : Type 0} → Store S → Type 0
IdsStay {S} m = (s t : S) (ls : List (List Delta)) (ks : List ℕ) → AddedAll m s t ls ks → Keeps m s t
