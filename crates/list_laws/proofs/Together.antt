-- Coming to one single subtable is an equivalence of the glyphs of a section.
use Rattle.std.proofs.Common.{◌≡◌, ℕ, ◌*◌, Bool, true, false, not, ◌&&◌, ◌||◌, eqb, ltb, List, sym, refl, subst, arith}
use Rattle.std.proofs.lemmas.Bool.Decides.{nat_tests}
use Rattle.spec.specs.Lists.{count}
use Rattle.spec.specs.Values.{ValueRecord, DeviceOrVariationIndex, format, encoded_size, same_record}
use Rattle.spec.specs.Build.{BuiltSingle, Equivalence, together}
use Rattle.list_laws.proofs.Sames.{record_same, record_self}

-- over any values: the same, or neither large and of one format
module _ {V : Type 0} (same : V → V → Bool) (large : V → Bool) (form : V → ℕ) (equal : (u v : V) → same u v ≡ true → u ≡ v) (self : (u : V) → same u u ≡ true) where
  abbrev tog : V → V → Bool
  tog u v = same u v || (not (large u) && not (large v) && eqb (form u) (form v))

  tog_sym : (u v : V) → tog u v ≡ true → tog v u ≡ true
  tog_sym u v h = go (same u v) refl h
    where
      go : (b : Bool) → same u v ≡ b → (b || (not (large u) && not (large v) && eqb (form u) (form v))) ≡ true → tog v u ≡ true
      go true e h = subst (λ w. tog w u ≡ true) (equal u v e) (rw (self u) refl)
      go false e h = grind (arith, nat_tests)

  tog_trans : (u v w : V) → tog u v ≡ true → tog v w ≡ true → tog u w ≡ true
  tog_trans u v w h k = go (same u v) (same v w) refl refl h k
    where
      go : (b c : Bool) → same u v ≡ b → same v w ≡ c → (b || (not (large u) && not (large v) && eqb (form u) (form v))) ≡ true → (c || (not (large v) && not (large w) && eqb (form v) (form w))) ≡ true → tog u w ≡ true
      go true c e f h k = subst (λ x. tog x w ≡ true) (sym (equal u v e)) (rw f k)
      go false true e f h k = subst (λ x. tog u x ≡ true) (equal v w f) (rw e h)
      go false false e f h k = grind (arith, nat_tests)

pub together_is_equivalence : (es : List BuiltSingle) → Equivalence (together es)
together_is_equivalence es =
    let large : ValueRecord DeviceOrVariationIndex → Bool = λ r. ltb 10 (count (λ x. same_record x.values r) es * encoded_size (format r)) in
    record {
      reflexive = λ a. rw (record_self a.values) refl;
      symmetric = λ a b h. tog_sym same_record large format record_same record_self a.values b.values h;
      transitive = λ a b c h k. tog_trans same_record large format record_same record_self a.values b.values c.values h k;
    }
