-- The rule lists that calls can make: entered lists are good, and rules name what was entered and hold numbers of their types.
use Rattle.std.specs.Prelude.{◌≡◌, ℕ, List, Some, None, Option}
use Rattle.spec.specs.Lists.{Every}
use Rattle.spec.specs.Denials.{Answer}
use Rattle.spec.specs.Entries.{set_fault}
use Rattle.spec.specs.Values.{Metric, ValueRecord, DeviceOrDeltas, build_order}
use Rattle.spec.specs.Rules.{Call, enter_set, enter_device, enter_deltas, insert, break, build, RuleList, RuleKind, Capacity, sections, opened, unknown_place}
use Rattle.spec.specs.Stores.{Store}
use Rattle.spec.specs.Runs.{Kind, Run}
use Rattle.laws.specs.Conditions.{Within, FitsDevice}

-- a default is a signed number of 16 bits
abbrev pub FitsDefault : Option (Metric DeviceOrDeltas) → Type 0
FitsDefault None = Unit {0}
FitsDefault (Some m) = Within 32768 m.default

abbrev pub FitsValues : ValueRecord DeviceOrDeltas → Type 0
FitsValues r = Every FitsDefault (build_order r)

module _ {R : Type 0} (kind : RuleKind R) where
  -- arguments as their types allow
  abbrev pub FitsCall : Call R → Type 0
  FitsCall (enter_set gs) = Unit {0}
  FitsCall (enter_device start end vs) = Every (Within 128) vs
  FitsCall (enter_deltas ds) = Unit {0}
  FitsCall (insert r) = Every FitsValues (kind.values r)
  FitsCall break = Unit {0}
  FitsCall build = Unit {0}

  -- a rule names what was entered
  abbrev pub FitsRule : RuleList R → R → Type 0
  FitsRule l r = (unknown_place kind l r ≡ None) × Every FitsValues (kind.values r)

  pub record Made (l : RuleList R) : Type 0 where
    pub sets : Every (λ s. set_fault s ≡ None) l.sets
    pub devices : Every FitsDevice l.devices
    pub rules : Every (Every (FitsRule l)) (sections l)

-- every run of calls on an opened lookup makes such a rule list
abbrev pub RunsMake : {R Q O A B S : Type 0} → Kind R Q O A B → Store S → Type 0
RunsMake {R} {Q} {O} {A} {B} {S} kind m = (capacity : Capacity) (s t : S) (cs : List (Call R)) (ans : List Answer) (l : RuleList R) (us : List S) (got : Option (List ℕ))
    → Every (FitsCall kind.rules) cs → Run kind m capacity opened s cs ans l t us got → Made kind.rules l
