-- A table's children one by one, and a lookup that tries its subtables in order.
use Rattle.std.proofs.Common.{◌≡◌, ℕ, zero, suc, ◌+◌, ◌*◌, ◌<◌, List, [], ◌∷◌, map, length, get_or, Some, None, Ok, Option, Result, refl, ap, ◌∙◌, subst, zero-add, arith}
use Rattle.std.proofs.lemmas.List.{length-map}
use Rattle.std.proofs.lemmas.Bool.{eq-eqb}
use Rattle.spec.specs.Lists.{Every, or_else, decided}
use Rattle.spec.specs.Fields.{field, and_then}
use Rattle.spec.specs.Bytes.{Table, head, own, size, Lies, children, mark_field, lookup_table}
use Rattle.spec.specs.Meaning.{tried, lookup}
use Rattle.laws.specs.Parts.{RestLies}
use Rattle.laws.proofs.Standing.{spread}

-- an offset stands at k, and leads to a table
pub record Leads (bs : List ℕ) (base k : ℕ) (t : Table) : Type 0 where
  pub offset : ℕ
  pub stands : field bs k ≡ Ok offset
  pub lies : Lies bs (base + offset) t

pub child_at : (bs : List ℕ) (base k at : ℕ) (ts : List Table) (t : Table) (i : ℕ) (d : Table) → RestLies bs base at k (children ts t) → i < length ts → Leads bs base (k + 2 * i) (get_or ts i d)
child_at bs base k at [] t i d h l = absurd (omega arith)
child_at bs base k at (c ∷ cs) t zero d h l = record { offset = at; stands = (let e : k ≡ k + 2 * 0 = omega arith in subst (λ n. field bs n ≡ Ok at) e h.0.0); lies = (h.1.0, h.1.1) }
child_at bs base k at (c ∷ cs) t (suc i) d h l =
    let e : k + 2 + 2 * i ≡ k + 2 * suc i = omega arith in
    subst (λ n. Leads bs base n (get_or cs i d)) e (child_at bs base (k + 2) (at + size c) cs t i d (h.0.1, h.1.2) (omega arith))

module _ {O A : Type 0} (bs : List ℕ) (table : O → Table) (try : ℕ → Result (Option A) ℕ) (says : O → Option A) where
  -- the first answer, if the others give b
  one_tried : (a b : Option A) (rest : Result (Option A) ℕ) → rest ≡ Ok b → ◌≡◌ {A = Result (Option A) ℕ} (elim a [ Some x ↦ Ok (Some x) | None ↦ rest ]) (Ok (or_else a b))
  one_tried None b rest h = h
  one_tried (Some x) b rest h = refl

  all_tried : (subs : List O) (k at : ℕ) (t : Table) → Every (λ o. (at : ℕ) → Lies bs at (table o) → try at ≡ Ok (says o)) subs → RestLies bs 0 at k (children (map table subs) t)
      → tried bs try k (length subs) ≡ Ok (decided says subs)
  all_tried [] k at t reads h = refl
  all_tried (o ∷ os) k at t reads h =
      let others = all_tried os (k + 2) (at + size (table o)) t reads.1 (h.0.1, h.1.2) in
      let one = reads.0 at (subst (λ n. Lies bs n (table o)) (zero-add at) (h.1.0, h.1.1)) in
      rw h.0.0 (rw one (one_tried (says o) (decided says os) (tried bs try (k + 2) (length os)) others))

  pub lookup_reads : (type flags : ℕ) (mark : Option ℕ) (subs : List O) → Every (λ o. (at : ℕ) → Lies bs at (table o) → try at ≡ Ok (says o)) subs
      → Lies bs 0 (lookup_table type flags mark (map table subs)) → lookup bs type try ≡ Ok (decided says subs)
  lookup_reads type flags mark subs reads h =
      let o = own (lookup_table type flags mark (map table subs)) in
      let p = spread bs 0 1 (flags ∷ length (map table subs) ∷ []) (head o (children (map table subs) (mark_field mark))) h.0.1 in
      let n : field bs 4 ≡ Ok (length subs) = p.1.0 ∙ ap Ok (length-map subs table) in
      rw h.0.0 (rw (eq-eqb type type refl, and_then) (rw n (all_tried subs 6 o (mark_field mark) reads (p.1.1, h.1))))
