-- Pair sets that lie in bytes give the first pair with a second glyph.
use Rattle.std.proofs.Common.{◌≡◌, ℕ, ◌+◌, ◌<◌, eqb, List, [], ◌∷◌, length, Ok, refl, inl, inr, arith}
use Rattle.std.proofs.lemmas.Bool.{cases_Bool}
use Rattle.spec.specs.Lists.{first}
use Rattle.spec.specs.Fields.{and_then}
use Rattle.spec.specs.Values.{encoded_size}
use Rattle.spec.specs.Build.{BuiltPair}
use Rattle.spec.specs.Bytes.{own, Lies, pair_values, pair_set_table}
use Rattle.spec.specs.Meaning.{pair_search}
use Rattle.laws.specs.Conditions.{PairsOf}
use Rattle.laws.specs.Descriptions.{second_read}
use Rattle.laws.specs.Parts.{RestLies}
use Rattle.laws.proofs.Records.{own_fits, records_then}

module _ (bs : List ℕ) (base s h f1 f2 : ℕ) where
  pairs_read : (es : List BuiltPair) (k at : ℕ) → PairsOf f1 f2 es → 0 < at → RestLies bs base at k (pair_values f1 f2 es) → pair_search bs s h f1 f2 base k (length es) ≡ Ok (second_read s h es)
  pairs_read [] k at fits z w = refl
  pairs_read (e ∷ es) k at fits z w =
      let r = records_then bs base s e.values1 e.values2 f1 f2 (k + 2) at (pair_values f1 f2 es) (own_fits f1 e.values1 fits.0.0) (own_fits f2 e.values2 fits.0.1) z (w.0.1, w.1) in
      let others = pairs_read es (k + 2 + encoded_size f1 + encoded_size f2) r.1.next fits.1 r.1.later r.1.rest in
      rw w.0.0 (elim (cases_Bool (eqb e.second h)) [
        | inl q ↦ rw (q, and_then, first) r.0
        | inr q ↦ rw (q, and_then, first) others
      ])

pub pair_set_reads : (bs : List ℕ) (s h at f1 f2 : ℕ) (es : List BuiltPair) → PairsOf f1 f2 es → Lies bs at (pair_set_table f1 f2 es)
    → pair_search bs s h f1 f2 at (at + 2) (length es) ≡ Ok (second_read s h es)
pair_set_reads bs s h at f1 f2 es fits w = pairs_read bs at s h f1 f2 es (at + 2) (own (pair_set_table f1 f2 es)) fits (omega arith) (w.0.1, w.1)
