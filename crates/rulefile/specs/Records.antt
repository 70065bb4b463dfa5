-- What the words of a record stand for.
use Rattle.std.specs.Prelude.{ℕ, ◌+◌, true, false, cond, List, [], ◌∷◌, take, drop, ℤ, Some, None, Ok, Err, codes, Option, Result, position}
use Rattle.std.specs.Option.{option_map, option_map_or}
use Rattle.rulefile.specs.declared.fault.Fault.{Fault}
use Rattle.rulefile.specs.declared.fault.Fault.TheVariants as fault
use Rattle.rulefile.specs.declared.rules.Metric.{Metric}
use Rattle.rulefile.specs.declared.rules.MetricKind.{MetricKind}
use Rattle.rulefile.specs.declared.rules.MetricKind.TheVariants.{XAdvance, YAdvance, XPlacement, YPlacement}
use Rattle.rulefile.specs.declared.rules.Record.{Record}
use Rattle.rulefile.specs.declared.rules.Records.{Records}
use Rattle.rulefile.specs.Names.{Named, reference_of}
use Rattle.rulefile.specs.Numbers.{signed_up_to}
use Rattle.rulefile.specs.Outcomes.{wanted, then, word_by_word}
use Rattle.rulefile.specs.Words.{cut_at, same_word}

-- the metric that a key names
abbrev pub metric_kind_of : List ℕ → Option MetricKind
metric_kind_of key =
    cond (same_word key (codes "xadv")) (Some XAdvance)
    (cond (same_word key (codes "yadv")) (Some YAdvance)
    (cond (same_word key (codes "xpla")) (Some XPlacement)
    (cond (same_word key (codes "ypla")) (Some YPlacement) None)))

-- the metric that a key has to name
abbrev pub wanted_metric : List ℕ → Result MetricKind Fault
wanted_metric key = wanted (metric_kind_of key) fault.Metric

-- V
abbrev pub default_of : List ℕ → Result ℤ Fault
default_of w = wanted (signed_up_to 32767 w) fault.MetricValue

-- V with nothing beside it
abbrev pub metric_alone : List ℕ → Result Metric Fault
metric_alone w = then (default_of w) (λ v. Ok (record { default = v; beside = None }))

-- V and a device or a delta list beside it
abbrev pub metric_beside : List Named → List ℕ → List ℕ → Result Metric Fault
metric_beside es value reference =
    then (default_of value) (λ v.
    then (reference_of es reference) (λ r.
    Ok (record { default = v; beside = Some r })))

-- V or V@REF
abbrev pub metric_value : List Named → List ℕ → Result Metric Fault
metric_value es w = cut_at 64 w (metric_beside es) (metric_alone w)

-- no metric at all
abbrev pub no_metric : Record
no_metric = record { x_advance = None; y_advance = None; x_placement = None; y_placement = None }

-- a metric is given at most once
abbrev pub once : Option Metric → Record → Result Record Fault
once None r = Ok r
once (Some m) r = Err fault.MetricTwice

-- the record with one metric more, unless it has that metric
abbrev pub with_metric : Record → MetricKind → Metric → Result Record Fault
with_metric r XAdvance m = once r.x_advance (record { x_advance = Some m; y_advance = r.y_advance; x_placement = r.x_placement; y_placement = r.y_placement })
with_metric r YAdvance m = once r.y_advance (record { x_advance = r.x_advance; y_advance = Some m; x_placement = r.x_placement; y_placement = r.y_placement })
with_metric r XPlacement m = once r.x_placement (record { x_advance = r.x_advance; y_advance = r.y_advance; x_placement = Some m; y_placement = r.y_placement })
with_metric r YPlacement m = once r.y_placement (record { x_advance = r.x_advance; y_advance = r.y_advance; x_placement = r.x_placement; y_placement = Some m })

-- the record with one metric more, from its key and its value
abbrev pub put_metric : List Named → Record → List ℕ → List ℕ → Result Record Fault
put_metric es r key value =
    then (wanted_metric key) (λ k.
    then (metric_value es value) (λ m.
    with_metric r k m))

-- the record with the metric of a word more: KEY=V or KEY=V@REF
abbrev pub added : List Named → Record → List ℕ → Result Record Fault
added es r w = cut_at 61 w (put_metric es r) (Err fault.Metric)

-- metric by metric
abbrev pub metrics_from : List Named → Record → List (List ℕ) → Result Record Fault
metrics_from es r ws = word_by_word (added es) r ws

-- a record is `-` alone, or one or more metrics
abbrev pub record_of : List Named → List (List ℕ) → Result Record Fault
record_of es [] = Err fault.NoRecord
record_of es (w ∷ []) = elim (same_word w (codes "-")) [ true ↦ Ok no_metric | false ↦ metrics_from es no_metric (w ∷ []) ]
record_of es (w ∷ v ∷ ws) = metrics_from es no_metric (w ∷ v ∷ ws)

-- what stands before and after the first `/`, if there is one
abbrev pub split_at_slash : List (List ℕ) → Option (List (List ℕ) × List (List ℕ))
split_at_slash ws = option_map (λ at. (take at ws, drop (at + 1) ws)) (position (λ w. same_word w (codes "/")) ws)

-- one record; the second has no metric
abbrev pub one_record : List Named → List (List ℕ) → Result Records Fault
one_record es ws = then (record_of es ws) (λ a. Ok (record { first = a; second = no_metric }))

-- two records
abbrev pub two_records : List Named → List (List ℕ) → List (List ℕ) → Result Records Fault
two_records es first second =
    then (record_of es first) (λ a.
    then (record_of es second) (λ b.
    Ok (record { first = a; second = b })))

-- one record, or two with `/` between
abbrev pub records_of : List Named → List (List ℕ) → Result Records Fault
records_of es ws = option_map_or (λ p. two_records es p.0 p.1) (split_at_slash ws) (one_record es ws)
