-- The pair subtables of a build fit: records can be written and read, glyph pairs have the formats of their subtable, and in a group
-- different sets of one side share no glyph.
use Rattle.std.proofs.Common.{◌≡◌, ℕ, Bool, true, false, not, ◌&&◌, ◌||◌, eqb, List, [], ◌∷◌, ◌++◌, map, reverse, length, drop, sym, refl, ap, subst, inl, inr}
use mathlib.Core.List.{reverse_aux}
use Rattle.spec.specs.Lists.{Every, keep, all, has, concat, sorted}
use Rattle.spec.specs.Values.{DeviceOrVariationIndex, PairOf, format, delta_lists, pair_lists, built_pair, built_each, build_order}
use Rattle.spec.specs.Rules.{RuleList, sections, unknown}
use Rattle.spec.specs.Kinds.{Pair, PairRule, glyphs, classes, glyph_rules, class_rules, pair_rules, set_of, disjoint, joins, grouped, groups, standing_pairs, standing_cells, standing_groups}
use Rattle.spec.specs.Build.{BuiltPair, Cell, PairSubtable, glyph_pairs, class_pairs, formats, formats_before, of_formats, pair_subtables, with_sets, class_subtable, pairs_lists, pair_build, numbers_to_add, built, built_sections}
use Rattle.list_laws.specs.Answering.{Matched}
use Rattle.list_laws.proofs.Orders.{every_map, every_sorted, false_true}
use Rattle.list_laws.proofs.Linear.{numbers_linear, both}
use Rattle.list_laws.proofs.Within.{In, every_append, every_keep, every_kept, every_over}
use Rattle.list_laws.proofs.Members.{every_member, every_all}
use Rattle.list_laws.proofs.Holding.{matched_front, matched_back, built_every}
use Rattle.list_laws.proofs.PairAnswers.{pair_order, cell_order, of_format}
use Rattle.list_laws.proofs.Sides
use Rattle.laws.specs.Conditions.{FitsRecord, Apart, AllApart, FitsPairs}
use Rattle.laws.specs.Made.{Made, FitsRule, FitsValues}
use Rattle.laws.proofs.Finding.{every_both}
use Rattle.laws.proofs.Fitting.{Good, Own, record_good, known_metrics}
use Rattle.laws.proofs.SingleFitting.{every_concat}

-- ---- sets that share no glyph unless they are the same

-- a test that not all pass fails somewhere
not_all : (p : ℕ → Bool) (s : List ℕ) → all p s ≡ false → (x : ℕ) × ((has x s ≡ true) × (p x ≡ false))
not_all p [] e = false_true (sym e)
not_all p (x ∷ s) e = go (p x) refl e (λ h. not_all p s h)
  where
    go : (b : Bool) → p x ≡ b → (b && all p s) ≡ false → (all p s ≡ false → (y : ℕ) × ((has y s ≡ true) × (p y ≡ false))) → (y : ℕ) × ((has y (x ∷ s) ≡ true) × (p y ≡ false))
    go true f e r = let w = r e in (w.0, (later (eqb x w.0) w.1.0, w.1.1))
      where
        later : {c : Bool} (b : Bool) → c ≡ true → (b || c) ≡ true
        later true e = refl
        later false e = e
    go false f e r = (x, (ap (λ b. b || has x s) (numbers_linear.self x), f))

sharing_apart : (s t : List ℕ) → ((g : ℕ) → has g s ≡ true → has g t ≡ true → s ≡ t) → Apart s t
sharing_apart s t f = go (disjoint s t) refl
  where
    held : (b : Bool) → not b ≡ false → b ≡ true
    held true e = refl
    held false e = sym e

    go : (b : Bool) → disjoint s t ≡ b → Apart s t
    go true e = inr e
    go false e = let w = not_all (λ x. not (has x t)) s e in inl (f w.0 w.1.0 (held (has w.0 t) w.1.1))

-- ---- what a pair subtable is to satisfy

abbrev pub GoodPair : {K : Type 0} → (ℕ → Type 0) → PairOf K DeviceOrVariationIndex → Type 0
GoodPair P e = Good P e.values1 × Good P e.values2

abbrev EntriesGood : (ℕ → Type 0) → PairSubtable → Type 0
EntriesGood P (glyph_pairs f1 f2 es) = Every (GoodPair P) es
EntriesGood P (class_pairs es) = Every (GoodPair P) es

abbrev pub FitPair : (ℕ → Type 0) → PairSubtable → Type 0
FitPair P s = FitsPairs s × EntriesGood P s

-- glyph pairs of two value formats
formats_fit : (P : ℕ → Type 0) (es : List BuiltPair) → Every (GoodPair P) es → (f : ℕ × ℕ) → FitPair P (of_formats es f)
formats_fit P es h f =
    let kept = every_keep (of_format f) (GoodPair P) es h in
    (every_map (λ e w. one e w.0 w.1) (keep (of_format f) es) (every_both (λ e. of_format f e ≡ true) (GoodPair P) (keep (of_format f) es) (every_kept (of_format f) es) kept), kept)
  where
    one : (e : BuiltPair) → of_format f e ≡ true → GoodPair P e → ((format e.values1 ≡ f.0) × FitsRecord e.values1) × ((format e.values2 ≡ f.1) × FitsRecord e.values2)
    one e t g = let b = both (eqb (format e.values1) f.0) (eqb (format e.values2) f.1) t in
        ((numbers_linear.equal (format e.values1) f.0 b.0, g.0.0), (numbers_linear.equal (format e.values2) f.1 b.1, g.1.0))

-- the cells of a group: each is for the two sets of one of its rules
module _ (sets : List (List ℕ)) (group : List Pair) (apart : Sides.BothApart sets group) where
  abbrev OfRule : BuiltPair → Type 0
  OfRule e = (r : Pair) × (In r group × ((e.first ≡ r.first) × (e.second ≡ r.second)))

  firsts_apart : (a b : BuiltPair) → OfRule a → OfRule b → Apart (set_of sets a.first) (set_of sets b.first)
  firsts_apart a b (r, (i, e)) (s, (j, f)) = subst (λ n. Apart (set_of sets n) (set_of sets b.first)) (sym e.0) (subst (λ n. Apart (set_of sets r.first) (set_of sets n)) (sym f.0) (sharing_apart (set_of sets r.first) (set_of sets s.first) (apart.0 r s i j)))

  seconds_apart : (a b : BuiltPair) → OfRule a → OfRule b → Apart (set_of sets a.second) (set_of sets b.second)
  seconds_apart a b (r, (i, e)) (s, (j, f)) = subst (λ n. Apart (set_of sets n) (set_of sets b.second)) (sym e.1) (subst (λ n. Apart (set_of sets r.second) (set_of sets n)) (sym f.1) (sharing_apart (set_of sets r.second) (set_of sets s.second) (apart.1 r s i j)))

  all_apart : (side : BuiltPair → List ℕ) (es : List BuiltPair) → ((a b : BuiltPair) → OfRule a → OfRule b → Apart (side a) (side b)) → Every OfRule es → AllApart (map side es)
  all_apart side es f h = every_over (λ s. Every (Apart s) (map side es)) side es (every_map (λ a w. every_over (Apart (side a)) side es (every_map (λ b v. f a b w v) es h)) es h)

  cells_fit : (P : ℕ → Type 0) (es : List BuiltPair) → Every (GoodPair P) es → Every OfRule es → FitPair P (class_subtable sets es)
  cells_fit P es h w = (
    record {
      fits = every_over (λ e. FitsRecord e.values1 × FitsRecord e.values2) (with_sets sets) es (every_map (λ e g. (g.0.0, g.1.0)) es h);
      firsts = subst AllApart (sym (map_twice (λ e. e.first) es)) (all_apart (λ e. set_of sets e.first) es firsts_apart w);
      seconds = subst AllApart (sym (map_twice (λ e. e.second) es)) (all_apart (λ e. set_of sets e.second) es seconds_apart w);
    },
    every_over (GoodPair P) (with_sets sets) es h,
  )
    where
      map_twice : (f : Cell → List ℕ) (es : List BuiltPair) → map f (map (with_sets sets) es) ≡ map (λ e. f (with_sets sets e)) es
      map_twice f [] = refl
      map_twice f (e ∷ es) = ap (λ z. f (with_sets sets e) ∷ z) (map_twice f es)

-- ---- from rules to entries

every_turned : {A : Type 0} (P : A → Type 0) (xs ys : List A) → Every P xs → Every P ys → Every P (reverse_aux xs ys)
every_turned P [] ys h k = k
every_turned P (x ∷ xs) ys h k = every_turned P xs (x ∷ ys) h.1 (h.0, k)

glyph_fit : (Q : PairRule → Type 0) (rs : List PairRule) → Every Q rs → Every (λ r. Q (glyphs r)) (glyph_rules rs)
glyph_fit Q [] h = tt
glyph_fit Q (glyphs r ∷ rs) h = (h.0, glyph_fit Q rs h.1)
glyph_fit Q (classes r ∷ rs) h = glyph_fit Q rs h.1

class_fit : (Q : PairRule → Type 0) (rs : List PairRule) → Every Q rs → Every (λ r. Q (classes r)) (class_rules rs)
class_fit Q [] h = tt
class_fit Q (glyphs r ∷ rs) h = class_fit Q rs h.1
class_fit Q (classes r ∷ rs) h = (h.0, class_fit Q rs h.1)

-- what every rule has, the rules of every group have
grouped_every : (sets : List (List ℕ)) (Q : Pair → Type 0) (group rs : List Pair) → Every Q group → Every Q rs → Every (Every Q) (grouped sets group rs)
grouped_every sets Q group [] h k = (h, tt)
grouped_every sets Q group (r ∷ rs) h k = go (joins sets group r) (grouped_every sets Q (group ++ (r ∷ [])) rs (every_append Q group (r ∷ []) h (k.0, tt)) k.1) (grouped_every sets Q (r ∷ []) rs (k.0, tt) k.1)
  where
    go : (b : Bool) → Every (Every Q) (grouped sets (group ++ (r ∷ [])) rs) → Every (Every Q) (grouped sets (r ∷ []) rs) → Every (Every Q) (elim b [ true ↦ grouped sets (group ++ (r ∷ [])) rs | false ↦ group ∷ grouped sets (r ∷ []) rs ])
    go true m n = m
    go false m n = (h, n)

groups_every : (sets : List (List ℕ)) (Q : Pair → Type 0) (rs : List Pair) → Every Q rs → Every (Every Q) (groups sets rs)
groups_every sets Q [] h = tt
groups_every sets Q (r ∷ rs) h = grouped_every sets Q (r ∷ []) rs (h.0, tt) h.1

module _ (P : ℕ → Type 0) (l : RuleList PairRule) (made : Made pair_rules l) where
  -- two records that name what was entered
  abbrev FitsPair : Pair → Type 0
  FitsPair r = (FitsValues r.values1 × Every (λ m. unknown l m ≡ false) (build_order r.values1)) × (FitsValues r.values2 × Every (λ m. unknown l m ≡ false) (build_order r.values2))

  fits_glyphs : (r : Pair) → FitsRule pair_rules l (glyphs r) → FitsPair r
  fits_glyphs r f = let k = known_metrics pair_rules l (glyphs r) f.0 in ((f.1.0, (k.0, (k.1.0, (k.1.1.0, (k.1.1.1.0, tt))))), (f.1.1.0, k.1.1.1.1))

  fits_classes : (r : Pair) → FitsRule pair_rules l (classes r) → FitsPair r
  fits_classes r f = let k = known_metrics pair_rules l (classes r) f.0 in ((f.1.0, (k.0, (k.1.0, (k.1.1.0, (k.1.1.1.0, tt))))), (f.1.1.0, k.1.1.1.1))

  pair_good : (r : Pair) (ids : List ℕ) → FitsPair r → Own l made.devices P ids (pair_lists r) → GoodPair P (built_pair l.devices r ids)
  pair_good r ids f h =
      let M : ℕ → ℕ → Type 0 = λ k n. P k in (
        record_good l made.devices P r.values1 ids f.0.0 f.0.1 (matched_front M ids (delta_lists r.values1) (delta_lists r.values2) h),
        record_good l made.devices P r.values2 (drop (length (delta_lists r.values1)) ids) f.1.0 f.1.1 (matched_back M ids (delta_lists r.values1) (delta_lists r.values2) h),
      )

  -- ---- a section's glyph pairs, and a group's cells

  pairs_fit_section : (rs : List Pair) (ids : List ℕ) → Every FitsPair rs → Own l made.devices P ids (pairs_lists (standing_pairs rs)) → Every (FitPair P) (pair_subtables (built_each pair_lists (built_pair l.devices) (standing_pairs rs) ids))
  pairs_fit_section rs ids f h =
      let es = built_each pair_lists (built_pair l.devices) (standing_pairs rs) ids in
      let good = built_every (λ k n. P k) pair_lists (built_pair l.devices) FitsPair (GoodPair P) pair_good (standing_pairs rs) ids (every_sorted pair_order FitsPair (reverse rs) (every_turned FitsPair rs [] f tt)) h in
      every_over (FitPair P) (of_formats es) (sorted formats_before (map formats es)) (every_all (formats_fit P es good) (sorted formats_before (map formats es)))

  abbrev FitsGroup : List Pair → Type 0
  FitsGroup cells = (group : List Pair) × (Sides.BothApart l.sets group × Every (λ r. FitsPair r × In r group) cells)

  standing_fit : (group : List Pair) → Every FitsPair group → Sides.BothApart l.sets group → FitsGroup (standing_cells l.sets group)
  standing_fit group f w = (group, (w, every_sorted (cell_order l.sets) (λ r. FitsPair r × In r group) group (every_both FitsPair (λ r. In r group) group f (every_member group))))

  cells_fit_section : (cells : List Pair) (ids : List ℕ) → FitsGroup cells → Own l made.devices P ids (pairs_lists cells) → FitPair P (class_subtable l.sets (built_each pair_lists (built_pair l.devices) cells ids))
  cells_fit_section cells ids (group, (w, f)) h =
      let es = built_each pair_lists (built_pair l.devices) cells ids in
      let MadeSo = built_every (λ k n. P k) pair_lists (built_pair l.devices) (λ r. FitsPair r × In r group) (λ e. GoodPair P e × OfRule l.sets group w e) (λ r i g k. (pair_good r i g.0 k, (r, (g.1, (refl, refl))))) cells ids f h in
      cells_fit l.sets group w P es (every_map (λ e g. g.0) es MadeSo) (every_map (λ e g. g.1) es MadeSo)

  section_fits : (rs : List PairRule) (ids : List ℕ) → Every (FitsRule pair_rules l) rs → Own l made.devices P ids (pair_build.lists l.sets rs) → Every (FitPair P) (pair_build.subtables l.sets l.devices rs ids)
  section_fits rs ids f h =
      let M : ℕ → ℕ → Type 0 = λ k n. P k in
      let pairs = pairs_lists (standing_pairs (glyph_rules rs)) in
      let cells = concat (map pairs_lists (standing_groups l.sets rs)) in
      let gs = groups l.sets (class_rules rs) in
      let MadeCells = λ (g : List Pair) (i : List ℕ). class_subtable l.sets (built_each pair_lists (built_pair l.devices) g i) in
      let fits = every_both (Every FitsPair) (Sides.BothApart l.sets) gs (groups_every l.sets FitsPair (class_rules rs) (every_map fits_classes (class_rules rs) (class_fit (FitsRule pair_rules l) rs f))) (Sides.groups_apart l.sets (class_rules rs)) in
      every_append (FitPair P) (pair_subtables (built_each pair_lists (built_pair l.devices) (standing_pairs (glyph_rules rs)) ids)) (built_each pairs_lists MadeCells (standing_groups l.sets rs) (drop (length pairs) ids))
      (pairs_fit_section (glyph_rules rs) ids (every_map fits_glyphs (glyph_rules rs) (glyph_fit (FitsRule pair_rules l) rs f)) (matched_front M ids pairs cells h))
      (built_every M pairs_lists MadeCells FitsGroup (FitPair P) cells_fit_section (standing_groups l.sets rs) (drop (length pairs) ids)
      (every_over FitsGroup (standing_cells l.sets) gs (every_map (λ g w. standing_fit g w.0 w.1) gs fits)) (matched_back M ids pairs cells h))

  -- EVERY SUBTABLE OF A BUILD FITS
  pub pairs_fit : (ids : List ℕ) → Matched (λ k n. P k) ids (numbers_to_add pair_build l) → Every (FitPair P) (built pair_build l ids)
  pairs_fit ids h = every_concat (FitPair P) (built_sections pair_build l ids)
      (built_every (λ k n. P k) (pair_build.lists l.sets) (pair_build.subtables l.sets l.devices) (Every (FitsRule pair_rules l)) (Every (FitPair P)) section_fits (sections l) ids made.rules h)
