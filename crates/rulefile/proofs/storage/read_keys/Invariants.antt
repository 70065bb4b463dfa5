use Rattle.std.proofs.Common.{◌≡◌, drop}
use Rattle.rulefile.specs.Outcomes.{word_by_word}
use Rattle.rulefile.specs.Storages.{added_key, no_keys}
use Rattle.rulefile.specs.Words.{words_in}
use Rattle.rulefile.proofs.storage.read_keys.Given as goal

abbrev pub invariant-loop-word : goal.invariant-loop-word
invariant-loop-word l =
    word_by_word added_key l.given (words_in (drop l.word-index l.words))
    ≡ word_by_word added_key no_keys (words_in l.words)
