-- Fields and tables that stand in bytes, at any position, whatever lies before and behind.
use Rattle.std.specs.Prelude.{◌≡◌, ℕ, ◌+◌, ◌*◌, ◌<◌, List, ◌++◌, length, drop, Ok, slice_index}
use Rattle.spec.specs.Fields.{big_endian, field, Stand}
use Rattle.spec.specs.Bytes.{Table, bytes, Lies}

-- fields stand where their bytes do
abbrev pub FieldsStand : Type 0
FieldsStand = (bs back : List ℕ) (k : ℕ) (ws : List ℕ) → drop k bs ≡ big_endian ws ++ back → Stand bs k ws

-- field i of fields that stand
abbrev pub FieldReads : Type 0
FieldReads = (bs : List ℕ) (k : ℕ) (ws : List ℕ) (i : ℕ) → Stand bs k ws → i < length ws → field bs (k + 2 * i) ≡ Ok (slice_index ws i)

-- of fields that stand the first ones stand there, and the others behind them
abbrev pub PartsStand : Type 0
PartsStand = (bs : List ℕ) (k : ℕ) (us ws : List ℕ) → Stand bs k (us ++ ws) → Stand bs k us × Stand bs (k + 2 * length us) ws

-- a table lies where its bytes stand: its fields there, and each child at its offset, with all below it
abbrev pub OffsetsLead : Type 0
OffsetsLead = (t : Table) (bs back : List ℕ) (base : ℕ) → drop base bs ≡ bytes t ++ back → Lies bs base t
