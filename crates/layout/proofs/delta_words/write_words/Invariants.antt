use Rattle.std.proofs.Common.{◌≡◌, ◌*◌, length, drop}
use Rattle.spec.specs.Fields.{big_endian}
use Rattle.spec.specs.Devices.{per_word}
use Rattle.layout.specs.DeltaFormats.{number}
use Rattle.layout.specs.Faults.{words_in}
use Rattle.layout.proofs.Words.{words_from}
use Rattle.layout.proofs.Places.{Midway}
use Rattle.layout.proofs.delta_words.write_words.Given as goal

abbrev pub invariant-loop-chunk : goal.invariant-loop-chunk
invariant-loop-chunk l = record {
  written : Midway l.initial.out l.out (big_endian (words_from (number l.format) l.values (length l.yielded))) (big_endian (words_in (number l.format) l.values));
  left : l.chunk-iterator.rest.now ≡ drop (length l.yielded * l.chunk-iterator.size) l.values;
  size : l.chunk-iterator.size ≡ per_word (number l.format);
}
