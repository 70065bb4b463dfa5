-- How a mistake is said to whoever wrote the file, and the words for kinds.
use Rattle.std.specs.Prelude.{ℕ, List, ◌++◌, codes}
use Rattle.std.specs.Fmt.{decimal}
use Rattle.rulefile.specs.declared.fault.Fault.{Fault}
use Rattle.rulefile.specs.declared.fault.Fault.TheVariants as fault
use Rattle.rulefile.specs.declared.rules.EntryKind.{EntryKind}
use Rattle.rulefile.specs.declared.rules.EntryKind.TheVariants as entry
use Rattle.rulefile.specs.declared.rules.Error.{Error}
use Rattle.rulefile.specs.declared.rules.Error.TheVariants.{Memory, Wrong}
use Rattle.rulefile.specs.declared.rules.LookupKind.{LookupKind}
use Rattle.rulefile.specs.declared.rules.LookupKind.TheVariants as lookup
use Rattle.rulefile.specs.declared.rules.Mistake.{Mistake}
use Rattle.rulefile.specs.declared.rules.StatementKind.{StatementKind}
use Rattle.rulefile.specs.declared.rules.StatementKind.TheVariants as statement
use Rattle.rulefile.specs.declared.rules.StoreKind.{StoreKind}
use Rattle.rulefile.specs.declared.rules.StoreKind.TheVariants as store

-- one sentence for each fault
abbrev pub text_of : Fault → List ℕ
text_of fault.Statement = codes "no statement begins with this word"
text_of fault.Extra = codes "there are more words than this statement takes"
text_of fault.NoLookup = codes "a `lookup` line has to stand before this"
text_of fault.AfterLookup = codes "`storage` and `store` have to stand before `lookup`"
text_of fault.Twice = codes "this statement may stand only once in a file"
text_of fault.StorageKey = codes "`storage` takes KEY=N with the keys sets, set-pool, devices, device-pool, deltas, delta-pool, rules and store"
text_of fault.StorageKeyTwice = codes "this key of `storage` is given twice"
text_of fault.StorageNumber = codes "a number of places goes from 0 to 4294967295"
text_of fault.StoreKind = codes "a store is flat, sharing, trim+flat or trim+sharing"
text_of fault.LookupKind = codes "a lookup is single or pair"
text_of fault.Flags = codes "the flags of a lookup are a number from 0 to 0xFFFFFFFF"
text_of fault.MarkSet = codes "after `markset` comes a number from 0 to 65535"
text_of fault.Name = codes "a name begins with a letter and goes on with letters, digits, `_`, `.` and `-`"
text_of fault.NameTwice = codes "this name is given twice"
text_of fault.Glyph = codes "a glyph is a number from 0 to 65535"
text_of fault.DeviceSize = codes "the first and the last size of a device are numbers from 0 to 65535"
text_of fault.DeviceValue = codes "a value of a device goes from -128 to 127"
text_of fault.Delta = codes "a delta is REGION:DELTA with a region from 0 to 65535 and a delta from -32768 to 32767"
text_of fault.SingleOnly = codes "`single` stands in single lookups only"
text_of fault.PairOnly = codes "`pair` and `class` stand in pair lookups only"
text_of fault.NoRecord = codes "a record is wanted here: `-`, or xadv=V, yadv=V, xpla=V or ypla=V"
text_of fault.Metric = codes "a metric is xadv=V, yadv=V, xpla=V or ypla=V"
text_of fault.MetricTwice = codes "this metric is given twice in one record"
text_of fault.MetricValue = codes "the value of a metric goes from -32768 to 32767"
text_of fault.Reference = codes "after `@` comes a name, device#N or deltas#N with N from 0 to 65535"
text_of fault.UnknownName = codes "this name is not given above"
text_of fault.NameOfSet = codes "this is the name of a set: a device or a delta list is wanted"
text_of fault.NotSet = codes "a set is wanted here: its name, or #N with N from 0 to 65535"
text_of fault.PixelSize = codes "after `ppem` comes a number from 0 to 65535"
text_of fault.Region = codes "after `region` comes a number from 0 to 65535"

-- LINE: text
abbrev pub mistake_text : Mistake → List ℕ
mistake_text m = decimal m.line ++ codes ": " ++ text_of m.fault

-- why a file is not read
abbrev pub error_text : Error → List ℕ
error_text Memory = codes "there is not enough memory"
error_text (Wrong m) = mistake_text m

-- the word by which a rule file says a kind of name
abbrev pub entry_text : EntryKind → List ℕ
entry_text entry.Set = codes "set"
entry_text entry.Device = codes "device"
entry_text entry.Deltas = codes "deltas"

-- the same of a kind of lookup
abbrev pub lookup_text : LookupKind → List ℕ
lookup_text lookup.Single = codes "single"
lookup_text lookup.Pair = codes "pair"

-- the same of a kind of store
abbrev pub store_text : StoreKind → List ℕ
store_text store.Flat = codes "flat"
store_text store.Sharing = codes "sharing"
store_text store.TrimFlat = codes "trim+flat"
store_text store.TrimSharing = codes "trim+sharing"

-- the same of a kind of statement
abbrev pub statement_text : StatementKind → List ℕ
statement_text statement.Set = codes "set"
statement_text statement.Device = codes "device"
statement_text statement.Deltas = codes "deltas"
statement_text statement.Single = codes "single"
statement_text statement.Pair = codes "pair"
statement_text statement.Class = codes "class"
statement_text statement.Break = codes "break"
statement_text statement.Build = codes "build"
statement_text statement.Ask = codes "ask"
