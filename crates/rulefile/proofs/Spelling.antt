-- What a definition says of a word that is read byte by byte.
use Rattle.std.proofs.Common.{◌≡◌, ℕ, List, length, sym, ap}
use Rattle.std.proofs.lemmas.Slice.Eq.{HasBytesAt, text_from_reads}

pub spelled : {X : Type 0} (f : List ℕ → X) (word text : List ℕ) → length word ≡ length text → HasBytesAt word 0 text → f text ≡ f word
spelled f word text l h = sym (ap f (text_from_reads word text l h))
