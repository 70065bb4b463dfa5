use Rattle.std.proofs.Common.{◌≡◌, drop}
use Rattle.rulefile.specs.Names.{names_in}
use Rattle.rulefile.specs.Records.{metrics_from, no_metric}
use Rattle.rulefile.specs.Words.{words_in}
use Rattle.rulefile.proofs.records.read_metrics.Given as goal

abbrev pub invariant-loop-word : goal.invariant-loop-word
invariant-loop-word l =
    metrics_from (names_in l.names) l.record (words_in (drop l.word-index l.words))
    ≡ metrics_from (names_in l.names) no_metric (words_in l.words)
