-- What the words of `storage` stand for.
use Rattle.std.specs.Prelude.{ℕ, cond, List, [], ◌∷◌, drop, Some, None, Ok, Err, codes, Option, Result}
use Rattle.std.specs.Option.{option_or, unwrap_or}
use Rattle.rulefile.specs.declared.fault.Fault.{Fault}
use Rattle.rulefile.specs.declared.fault.Fault.TheVariants as fault
use Rattle.rulefile.specs.declared.rules.Storage.{Storage}
use Rattle.rulefile.specs.declared.storage.GivenKeys.{GivenKeys}
use Rattle.rulefile.specs.declared.storage.StorageKey.{StorageKey}
use Rattle.rulefile.specs.declared.storage.StorageKey.TheVariants as key
use Rattle.rulefile.specs.Numbers.{unsigned_up_to}
use Rattle.rulefile.specs.Outcomes.{wanted, then, word_by_word}
use Rattle.rulefile.specs.Words.{cut_at, same_word}

-- the keys that count places in a table
abbrev pub table_key : List ℕ → Option StorageKey
table_key w =
    cond (same_word w (codes "sets")) (Some key.Sets)
    (cond (same_word w (codes "devices")) (Some key.Devices)
    (cond (same_word w (codes "deltas")) (Some key.Deltas)
    (cond (same_word w (codes "rules")) (Some key.Rules)
    (cond (same_word w (codes "store")) (Some key.Store) None))))

-- the keys that count elements of a pool
abbrev pub pool_key : List ℕ → Option StorageKey
pool_key w =
    cond (same_word w (codes "set-pool")) (Some key.SetPool)
    (cond (same_word w (codes "device-pool")) (Some key.DevicePool)
    (cond (same_word w (codes "delta-pool")) (Some key.DeltaPool) None))

-- the key that a word stands for
abbrev pub key_of : List ℕ → Option StorageKey
key_of w = option_or (table_key w) (pool_key w)

-- the key that a word has to stand for
abbrev pub wanted_key : List ℕ → Result StorageKey Fault
wanted_key w = wanted (key_of w) fault.StorageKey

-- a number of places
abbrev pub places_of : List ℕ → Result ℕ Fault
places_of w = wanted (unsigned_up_to 4294967295 w) fault.StorageNumber

-- a key may stand once
abbrev pub put_once : Option ℕ → GivenKeys → Result GivenKeys Fault
put_once None more = Ok more
put_once (Some m) more = Err fault.StorageKeyTwice

-- the numbers that are given, with that of a key more
abbrev pub with_key : GivenKeys → StorageKey → ℕ → Result GivenKeys Fault
with_key g key.Sets n = put_once g.sets (record g { sets = Some n })
with_key g key.SetPool n = put_once g.set_pool (record g { set_pool = Some n })
with_key g key.Devices n = put_once g.devices (record g { devices = Some n })
with_key g key.DevicePool n = put_once g.device_pool (record g { device_pool = Some n })
with_key g key.Deltas n = put_once g.deltas (record g { deltas = Some n })
with_key g key.DeltaPool n = put_once g.delta_pool (record g { delta_pool = Some n })
with_key g key.Rules n = put_once g.rules (record g { rules = Some n })
with_key g key.Store n = put_once g.store (record g { store = Some n })

-- the same, from the word of the key and that of its number
abbrev pub put_key : GivenKeys → List ℕ → List ℕ → Result GivenKeys Fault
put_key given word number =
    then (wanted_key word) (λ k.
    then (places_of number) (λ n.
    with_key given k n))

-- KEY=N
abbrev pub added_key : GivenKeys → List ℕ → Result GivenKeys Fault
added_key given w = cut_at 61 w (put_key given) (Err fault.StorageKey)

-- a key that is absent has its default: 65534 sets, 65535 places of another table, 1048576 elements of a pool
abbrev pub storage_from : GivenKeys → Storage
storage_from given = record {
  sets = unwrap_or given.sets 65534;
  set_pool = unwrap_or given.set_pool 1048576;
  devices = unwrap_or given.devices 65535;
  device_pool = unwrap_or given.device_pool 1048576;
  deltas = unwrap_or given.deltas 65535;
  delta_pool = unwrap_or given.delta_pool 1048576;
  rules = unwrap_or given.rules 65535;
  store = unwrap_or given.store 65535;
}

-- no key is given
abbrev pub no_keys : GivenKeys
no_keys = record { sets = None; set_pool = None; devices = None; device_pool = None; deltas = None; delta_pool = None; rules = None; store = None }

-- one or more keys
abbrev pub keys_of : List (List ℕ) → Result Storage Fault
keys_of [] = Err fault.StorageKey
keys_of (w ∷ ws) = then (word_by_word added_key no_keys (w ∷ ws)) (λ given. Ok (storage_from given))

-- storage KEY=N and more of them
abbrev pub storage_of : List (List ℕ) → Result Storage Fault
storage_of ws = keys_of (drop 1 ws)
