-- The single subtables of a build fit: each has a glyph, and records of one value format that can be written and read.
use Rattle.std.proofs.Common.{◌≡◌, ℕ, ◌≤◌, Bool, true, false, not, ◌&&◌, ◌||◌, eqb, List, [], ◌∷◌, map, length, sym, refl, ap, arith}
use Rattle.spec.specs.Lists.{Every, concat}
use Rattle.spec.specs.Values.{format, single_lists, built_single, built_each, same_record}
use Rattle.spec.specs.Rules.{RuleList, sections}
use Rattle.spec.specs.Kinds.{SingleRule, single_rules, standing_singles}
use Rattle.spec.specs.Build.{BuiltSingle, large, together, subtable_of, single_build, numbers_to_add, built, built_sections}
use Rattle.list_laws.specs.Answering.{Matched}
use Rattle.list_laws.proofs.Orders.{every_map, every_sorted, false_true}
use Rattle.list_laws.proofs.Linear.{numbers_linear}
use Rattle.list_laws.proofs.Sames.{record_same}
use Rattle.list_laws.proofs.Together.{together_is_equivalence}
use Rattle.list_laws.proofs.Within.{In, every_append, every_keep, every_kept, every_over}
use Rattle.list_laws.proofs.Members.{every_member, keep_member}
use Rattle.list_laws.proofs.Holding.{built_every}
use Rattle.list_laws.proofs.SingleAnswers.{rule_order, subtable_order}
use Rattle.laws.specs.Conditions.{SinglesOf, FitsRecord}
use Rattle.laws.specs.Made.{Made, FitsRule}
use Rattle.laws.proofs.Finding.{every_both}
use Rattle.laws.proofs.Fitting.{Good, Own, record_good, known_metrics}

-- glyphs that are together have one value format
together_format : (es : List BuiltSingle) (a b : BuiltSingle) → together es a b ≡ true → format b.values ≡ format a.values
together_format es a b h = go (same_record a.values b.values) refl h
  where
    go : (s : Bool) → same_record a.values b.values ≡ s → (s || (not (large es a) && not (large es b) && eqb (format a.values) (format b.values))) ≡ true → format b.values ≡ format a.values
    go true e h = ap format (sym (record_same a.values b.values e))
    go false e h = last (large es a) (large es b) h
      where
        last : (p q : Bool) → (not p && not q && eqb (format a.values) (format b.values)) ≡ true → format b.values ≡ format a.values
        last true q k = false_true k
        last false true k = false_true k
        last false false k = sym (numbers_linear.equal (format a.values) (format b.values) k)

abbrev Entry : (ℕ → Type 0) → BuiltSingle → Type 0
Entry P e = Good P e.values

-- what a subtable is to satisfy
abbrev pub Fit : (ℕ → Type 0) → List BuiltSingle → Type 0
Fit P s = (1 ≤ length s) × ((f : ℕ) × SinglesOf f s) × Every (Entry P) s

not_empty : {A : Type 0} (x : A) (xs : List A) → In x xs → 1 ≤ length xs
not_empty x [] m = absurd m
not_empty x (y ∷ xs) m = omega arith

subtable_fits : (P : ℕ → Type 0) (es : List BuiltSingle) → Every (Entry P) es → (a : BuiltSingle) → In a es → Fit P (subtable_of es a)
subtable_fits P es h a m =
    let kept = every_keep (together es a) (Entry P) es h in
    let forms = every_map (λ x e. together_format es a x e) (subtable_of es a) (every_kept (together es a) es) in (
      not_empty a (subtable_of es a) (keep_member (together es a) a es m ((together_is_equivalence es).reflexive a)),
      (format a.values, every_both (λ e. format e.values ≡ format a.values) (λ e. FitsRecord e.values) (subtable_of es a) forms (every_map (λ e g. g.0) (subtable_of es a) kept)),
      kept,
    )

pub every_concat : {A : Type 0} (P : A → Type 0) (xss : List (List A)) → Every (Every P) xss → Every P (concat xss)
every_concat P [] h = tt
every_concat P (xs ∷ xss) h = every_append P xs (concat xss) h.0 (every_concat P xss h.1)

module _ (P : ℕ → Type 0) (l : RuleList SingleRule) (made : Made single_rules l) where
  rule_fits : (r : SingleRule) (ids : List ℕ) → FitsRule single_rules l r → Own l made.devices P ids (single_lists r) → Entry P (built_single l.devices r ids)
  rule_fits r ids f h = record_good l made.devices P r.values ids f.1.0 (known_metrics single_rules l r f.0) h

  section_fits : (rs : List SingleRule) (ids : List ℕ) → Every (FitsRule single_rules l) rs → Own l made.devices P ids (single_build.lists l.sets rs) → Every (Fit P) (single_build.subtables l.sets l.devices rs ids)
  section_fits rs ids f h =
      let es = built_each single_lists (built_single l.devices) (standing_singles rs) ids in
      let good = built_every (λ k n. P k) single_lists (built_single l.devices) (FitsRule single_rules l) (Entry P) rule_fits (standing_singles rs) ids (every_sorted rule_order (FitsRule single_rules l) rs f) h in
      every_sorted subtable_order (Fit P) (map (subtable_of es) es) (every_over (Fit P) (subtable_of es) es (every_map (λ a m. subtable_fits P es good a m) es (every_member es)))

  -- EVERY SUBTABLE OF A BUILD FITS
  pub singles_fit : (ids : List ℕ) → Matched (λ k n. P k) ids (numbers_to_add single_build l) → Every (Fit P) (built single_build l ids)
  singles_fit ids h = every_concat (Fit P) (built_sections single_build l ids)
      (built_every (λ k n. P k) (single_build.lists l.sets) (single_build.subtables l.sets l.devices) (Every (FitsRule single_rules l)) (Every (Fit P)) section_fits (sections l) ids made.rules h)
