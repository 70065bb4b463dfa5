-- Stores keep what they hold: through every call of a run, and so the ids of a build hold its lists at the end.
use Rattle.std.proofs.Common.{◌≡◌, ℕ, List, [], ◌∷◌, Some, Ok, Err, Option, Result, sym, refl, ◌∙◌, subst, inl, inr}
use Rattle.spec.specs.Denials.{Denial, Answer}
use Rattle.spec.specs.Entries.{Delta}
use Rattle.spec.specs.Rules.{Call, enter_set, enter_device, enter_deltas, insert, break, build, RuleList, Capacity}
use Rattle.spec.specs.Build.{lists_to_add}
use Rattle.spec.specs.Stores.{Store, Holds, Keeps, Added, AddedAll}
use Rattle.spec.specs.Runs.{Kind, Run, ends, builds, goes, Does, RunsKeep}
use Rattle.list_laws.specs.Answering.{Matched}
use Rattle.list_laws.proofs.Members.{some_none}

module _ {S : Type 0} (m : Store S) where
  keeps_self : (s : S) → Keeps m s s
  keeps_self s = λ k h. (h, λ r. refl)

  keeps_same : (s t : S) → t ≡ s → Keeps m s t
  keeps_same s t e = subst (λ x. Keeps m s x) (sym e) (keeps_self s)

  keeps_trans : (s t u : S) → Keeps m s t → Keeps m t u → Keeps m s u
  keeps_trans s t u f g = λ k h. let a = f k h in let b = g k a.0 in (b.0, λ r. b.1 r ∙ a.1 r)

  keeps_added : (s t : S) (l : List Delta) (r : Result ℕ Denial) → Added m s t l r → Keeps m s t
  keeps_added s t l (Ok k) h = elim h.1 [ inl a ↦ a.1.0 | inr a ↦ a.keeps ]
  keeps_added s t l (Err d) h = h.0.0.0

  keeps_all : (ls : List (List Delta)) (ks : List ℕ) (s t : S) → AddedAll m s t ls ks → Keeps m s t
  keeps_all [] [] s t h = keeps_same s t h
  keeps_all [] (k ∷ ks) s t h = absurd h
  keeps_all (l ∷ ls) [] s t h = absurd h
  keeps_all (l ∷ ls) (k ∷ ks) s t h = keeps_trans s h.0 t (keeps_added s h.0 l (Ok k) h.1) (keeps_all ls ks h.0 t h.2)

  -- what was added is held, then and later
  added_holds : (s t : S) (l : List Delta) (k : ℕ) → Added m s t l (Ok k) → Holds m t k l
  added_holds s t l k h = elim h.1 [ inl a ↦ a.2 | inr a ↦ a.holds ]

  pub all_hold : (ls : List (List Delta)) (ks : List ℕ) (s t : S) → AddedAll m s t ls ks → Matched (Holds m t) ks ls
  all_hold [] ks s t h = tt
  all_hold (l ∷ ls) [] s t h = absurd h
  all_hold (l ∷ ls) (k ∷ ks) s t h =
      let a = added_holds s h.0 l k h.1 in let b = keeps_all ls ks h.0 t h.2 k a.0 in
      ((b.0, λ r. b.1 r ∙ a.1 r), all_hold ls ks h.0 t h.2)

module _ {R Q O A B S : Type 0} (kind : Kind R Q O A B) (m : Store S) (capacity : Capacity) where
  keeps_does : (l : RuleList R) (s t : S) (c : Call R) (a : Answer) → Does kind m capacity l s t c a → Keeps m s t
  keeps_does l s t (enter_set gs) a h = keeps_same m s t h.1
  keeps_does l s t (enter_device x y vs) a h = keeps_same m s t h.1
  keeps_does l s t (enter_deltas ds) a h = keeps_same m s t h.1
  keeps_does l s t (insert r) a h = keeps_same m s t h.1
  keeps_does l s t break a h = keeps_same m s t h.1
  keeps_does l s t build a h = let b = h.2.2 in keeps_trans m s b.middle t (keeps_all m b.before b.ids s b.middle b.took) (keeps_added m b.middle t b.next (Err h.2.1) b.denied)

  -- EVERY ID HELD AT FIRST OR AFTER ANY CALL keeps its deltas
  pub runs_keep : (l : RuleList R) (s : S) (cs : List (Call R)) (ans : List Answer) (t : S) → RunsKeep kind m capacity l s cs ans t
  runs_keep l s _ _ _ _ _ _ ends = (keeps_self m s, tt)
  runs_keep l s _ _ t _ _ _ (builds {ids = ids} h) = (keeps_all m _ ids s t h, (keeps_self m t, tt))
  runs_keep l s _ _ t l' _ got (goes {u = u} {c = c} {a = a} h run) = let rest = runs_keep _ u _ _ t _ _ _ run in (keeps_trans m s u t (keeps_does l s u c a h) rest.0, rest)

  -- the ids of an accepted build hold the lists that it handed over
  pub run_holds : {l l' : RuleList R} {s t : S} {cs : List (Call R)} {ans : List Answer} {us : List S} {got : Option (List ℕ)} (ids : List ℕ) → Run kind m capacity l s cs ans l' t us got → got ≡ Some ids
      → Matched (Holds m t) ids (lists_to_add kind.builds l')
  run_holds ids ends e = some_none (sym e)
  run_holds {l} {s = s} {t = t} ids (builds {ids = ks} h) e = subst (λ z. Matched (Holds m t) z (lists_to_add kind.builds l)) (same e) (all_hold m (lists_to_add kind.builds l) ks s t h)
    where
      same : {x y : List ℕ} → ◌≡◌ {A = Option (List ℕ)} (Some x) (Some y) → x ≡ y
      same e = cc
  run_holds ids (goes h run) e = run_holds ids run e
