-- What entering answers and leaves: for an entry that is there, with no place for it, and for a new one.
use Rattle.std.proofs.Common.{◌≡◌, ℕ, ◌+◌, ◌-◌, ◌<◌, ◌≤◌, Bool, true, false, not, cond, ◌&&◌, ◌⊎◌, ltb, leb, List, [], ◌∷◌, ◌++◌, map, length, take, set, Some, None, Ok, Err, Option, Decides, sym, refl, ap, ◌∙◌, subst, arith, length-set}
use borrow.Rule.Slice.PartMut.{put_mid}
use Rattle.std.proofs.lemmas.Slice.{take-put_mid}
use Rattle.std.proofs.lemmas.Bool.Decides.{nat_tests}
use Rattle.std.specs.Cmp.Lexicographic.{pointwise_decides}
use Rattle.std.specs.List.{position, position_or_len}
use Rattle.spec.specs.Denials.{Word, Answer, arises, when}
use Rattle.spec.specs.Lists.{any, sum_of}
use Rattle.spec.specs.Rules.{interned, number_in, overfull}
use Rattle.denials.specs.declared.denial.Denial as code_denial
use Rattle.denials.specs.declared.denial.Part as code_part
use Rattle.denials.specs.Answers.{denied_or, left_by}
use Rattle.denials.specs.Denials.{denial_of, part_of}
use Rattle.storage.specs.declared.span.Span.{Span}
use Rattle.storage.specs.Interners.{Interned, IsLaid, Entered, entry, same_entry}
use Rattle.storage.proofs.Interning.{any_old, any_new, number_push, interned_old, interned_new, overfull_old, overfull_push}
use Rattle.storage.proofs.Numbers.{number_in_is}
use Rattle.storage.proofs.Spans.{laid_more, length_is, weight_is, pushed}

-- ---- what a search tells
module _ {A : Type 0} (eq : A → A → Bool) (x : A) (es : List A) where
  there : (k n : ℕ) → cond (ltb k (length es)) (Some k) None ≡ Some n → (n ≡ k) × (k < length es)
  there k n h = grind (arith, nat_tests)

  absent : (k : ℕ) → ◌≡◌ {A = Option ℕ} (cond (ltb k (length es)) (Some k) None) None → length es ≤ k
  absent k h = grind (arith, nat_tests)

  found_old : (n : ℕ) → position (λ y. eq y x) es ≡ Some n → (n ≡ number_in eq es x) × (any (λ y. eq y x) es ≡ true)
  found_old n h =
      let e = number_in_is eq x es in
      let t = there (position_or_len (λ y. eq y x) es) n h in
      (t.0 ∙ sym e, any_old eq x es (omega (arith, e, t.1)))

  found_new : position (λ y. eq y x) es ≡ None → any (λ y. eq y x) es ≡ false
  found_new h =
      let e = number_in_is eq x es in
      any_new eq x es (omega (arith, e, absent (position_or_len (λ y. eq y x) es) h))

-- ---- an interner whose spans lie one after another, and an entry
abbrev seen : {T H : Type 0} → code_part.Part → List T → List (Span H) → ℕ → Interned T H
seen part pool table used = record { contents = map (entry pool) (take used table); places = length table; room = length pool; part = part }

module _ {T H : Type 0} (same : H × List T → H × List T → Bool) (pool : List T) (table : List (Span H)) (part : code_part.Part) (used filled : ℕ) (lies : IsLaid pool table used filled)
    (before : Interned T H) (view : seen part pool table used ≡ before) (x : H × List T) where
  abbrev es : List (H × List T)
  es = map (entry pool) (take used table)

  long : length es ≡ used
  long = length_is pool table used lies.in_table

  weight : sum_of (λ (e : H × List T). length e.1) es ≡ filled
  weight = weight_is pool (take used table) filled lies.in_order lies.in_pool

  full : List (H × List T) → Bool
  full ys = overfull (length table) (length pool) (λ (e : H × List T). e.1) ys

  says : List (H × List T) → Bool → Answer
  says ys b = denied_or (when b (arises Word.full 0 (part_of part))) (Answer.entered (number_in same ys x))

  leaves : List (H × List T) → Bool → List (H × List T)
  leaves ys b = left_by (when b (arises Word.full 0 (part_of part))) es ys

  -- it is there
  pub enters_old : (n : ℕ) → position (λ y. same y x) before.contents ≡ Some n → Entered same before before x (Ok n)
  unfolding full says leaves
  enters_old n h =
      let f = found_old same x es n (ap (λ v. position (λ y. same y x) v.contents) view ∙ h) in
      let a : interned same es x ≡ es = interned_old same x es f.1 in
      let o : full es ≡ false = overfull_old (length table) (length pool) (λ (e : H × List T). e.1) es (omega (arith, long, lies.in_table)) (omega (arith, weight, lies.in_pool)) in
      subst (λ v. Entered same v v x (Ok n)) view (record {
        answer = ap Answer.entered f.0 ∙ sym (ap (λ ys. says ys (full ys)) a ∙ ap (says es) o);
        after = sym (ap (λ ys. leaves ys (full ys)) a ∙ ap (leaves es) o);
        same_places = refl;
        same_room = refl;
        same_part = refl;
      })

  module _ (absent : position (λ y. same y x) before.contents ≡ None) where
    unknown : any (λ y. same y x) es ≡ false
    unknown = found_new same x es (ap (λ v. position (λ y. same y x) v.contents) view ∙ absent)

    is_new : interned same es x ≡ es ++ x ∷ []
    is_new = interned_new same x es unknown

    fits : full (es ++ x ∷ []) ≡ not (ltb used (length table) && leb (filled + length x.1) (length pool))
    unfolding full
    fits = overfull_push (length table) (length pool) (λ (e : H × List T). e.1) es x ∙ (λ i. not (ltb (long i) (length table) && leb (weight i + length x.1) (length pool)))

    -- it lacks a place, or its list has more elements than there is room for
    pub enters_full : (e : code_denial.Denial) → denial_of e ≡ arises Word.full 0 (part_of part) → (used ≡ length table) ⊎ (length pool - filled < length x.1) → Entered same before before x (Err e)
    unfolding full says leaves
    enters_full e d h =
        let over : (ltb used (length table) && leb (filled + length x.1) (length pool)) ≡ false = grind (arith, nat_tests, h, lies.in_pool) in
        let o : full (es ++ x ∷ []) ≡ true = fits ∙ ap not over in
        subst (λ v. Entered same v v x (Err e)) view (record {
          answer = ap Answer.denied d ∙ sym (ap (λ ys. says ys (full ys)) is_new ∙ ap (says (es ++ x ∷ [])) o);
          after = sym (ap (λ ys. leaves ys (full ys)) is_new ∙ ap (leaves (es ++ x ∷ [])) o);
          same_places = refl;
          same_room = refl;
          same_part = refl;
        })

    -- it comes behind the others, where pool' is as long as the pool, and has its list behind what that held
    module _ (place : (used ≡ length table) → ⊥) (room : length x.1 ≤ length pool - filled) (pool' : List T) (longs : length pool' ≡ length pool) where
      free : used < length table
      free = omega (arith, place, lies.in_table)

      fit : filled + length x.1 ≤ length pool
      fit = omega (arith, room, lies.in_pool)

      abbrev span : Span H
      span = record { start = filled; len = length x.1; head = x.0 }

      pub lies_more : IsLaid pool' (set table used span) (used + 1) (filled + length x.1)
      lies_more =
          let l = length-set table used span in
          record {
            in_table = omega (arith, l, free);
            few_places = omega (arith, l, lies.few_places);
            in_pool = omega (arith, longs, fit);
            in_order = laid_more table table used filled span refl free lies.in_order refl;
          }

      pub enters_new : same x x ≡ true → take (filled + length x.1) pool' ≡ take filled pool ++ x.1 → Entered same before (seen part pool' (set table used span) (used + 1)) x (Ok used)
      unfolding full says leaves
      enters_new reflexive written =
          let under : (ltb used (length table) && leb (filled + length x.1) (length pool)) ≡ true = grind (arith, nat_tests, free, fit) in
          let o : full (es ++ x ∷ []) ≡ false = fits ∙ ap not under in
          let n : number_in same (es ++ x ∷ []) x ≡ length es = number_push same x reflexive es unknown in
          let p = pushed pool pool' x.1 table table used filled x.0 refl free lies.in_pool lies.in_order written in
          subst (λ v. Entered same v (seen part pool' (set table used span) (used + 1)) x (Ok used)) view (record {
            answer = ap Answer.entered (sym long ∙ sym n) ∙ sym (ap (λ ys. says ys (full ys)) is_new ∙ ap (says (es ++ x ∷ [])) o);
            after = p ∙ sym (ap (λ ys. leaves ys (full ys)) is_new ∙ ap (leaves (es ++ x ∷ [])) o);
            same_places = length-set table used span;
            same_room = longs;
            same_part = refl;
          })

-- a list that was copied behind what a pool held stands there
pub copied_behind : {T : Type 0} (filled at k : ℕ) (pool list ys : List T) → at ≡ filled → filled ≤ length pool → ys ≡ list → take (filled + length list) (put_mid at k pool ys) ≡ take filled pool ++ list
copied_behind filled at k pool list ys a l e =
    ap (λ n. take (filled + length list) (put_mid n k pool ys)) a
    ∙ take-put_mid filled k pool ys (filled + length list) (ap (λ zs. filled + length zs) (sym e)) l
    ∙ ap (λ zs. take filled pool ++ zs) e

-- an entry is the same as itself
pub entry_self : {T H : Type 0} (heads : H → H → Bool) (elements : T → T → Bool) → ((x y : H) → Decides (heads x y) (x ≡ y)) → ((x y : T) → Decides (elements x y) (x ≡ y))
    → (x : H × List T) → same_entry heads elements x x ≡ true
entry_self heads elements hl el x = (λ i. (hl x.0 x.0).1 refl i && (pointwise_decides el x.1 x.1).1 refl i)
