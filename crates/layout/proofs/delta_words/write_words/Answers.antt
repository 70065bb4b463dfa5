use Rattle.std.proofs.Common.{◌≡◌, ◌+◌, ◌<◌, ◌++◌, ◌∷◌, [], length, ◌∙◌, arith}
use Rattle.std.proofs.lemmas.List.{length-append}
use Rattle.std.proofs.lemmas.Result.{err_from_is_err_and}
use Rattle.layout.specs.DeltaFormats.{number}
use Rattle.layout.proofs.Words.{words_next, left_next}
use Rattle.layout.proofs.Places.{more, fails}
use Rattle.layout.proofs.delta_words.write_words.Goals as goal

pub loop-chunk-preserved : goal.loop-chunk-preserved
loop-chunk-preserved c =
    let i = c.loop-chunk.invariant in
    let s = c.in-Some.ensures.steps in
    let z : 0 < c.loop-chunk.chunk-iterator.size = omega arith in
    let n : length (c.loop-chunk.yielded ++ c.in-Some.chunk ∷ []) ≡ length c.loop-chunk.yielded + 1 = length-append c.loop-chunk.yielded (c.in-Some.chunk ∷ []) in
    record {
      written = rw n (more i.written _ _ (words_next (number c.args.format) _ _ (length c.loop-chunk.yielded) i.size z _ _ c.next.new.self.rest.now i.left s.1.0 s.1.1 s.1.2 _ c.pack.ensures) c.in_ok-field.ensures);
      left = rw (n, s.0) (left_next (number c.args.format) _ _ (length c.loop-chunk.yielded) i.size z _ _ c.next.new.self.rest.now i.left s.1.0 s.1.1);
      size = s.0 ∙ i.size;
    }

pub returns-in_err-field : goal.returns-in_err-field
returns-in_err-field c =
    let i = c.loop-chunk.invariant in
    let s = c.in-Some.ensures.steps in
    let z : 0 < c.loop-chunk.chunk-iterator.size = omega arith in
    let p = err_from_is_err_and c.from_residual.result c.from_residual.ensures.1 in
    fails i.written c.from_residual.result _ _ (words_next (number c.args.format) _ _ (length c.loop-chunk.yielded) i.size z _ _ c.next.new.self.rest.now i.left s.1.0 s.1.1 s.1.2 _ c.pack.ensures) c.in_err-field.ensures _ p.1 p.2
