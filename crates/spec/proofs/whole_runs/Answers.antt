use Rattle.std.proofs.Common.{[], ◌∷◌, pos, refl, inr}
use Rattle.spec.specs.Denials.{Word, Part, arises, passed}
use Rattle.spec.specs.Cases.{entry}
use Rattle.spec.specs.Runs.{ends, builds, goes}
use Rattle.spec.specs.RunExamples.{no_place}
use Rattle.spec.proofs.whole_runs.Goals as goal

pub returns : goal.returns
returns c = record {
  accepted = goes (refl, refl) (builds refl);
  denied = goes (refl, refl) (goes (refl, refl) (goes (
    passed (arises Word.store_full 0 Part.store),
    refl,
    (
      0,
      arises Word.store_full 0 Part.store,
      record {
        before = [];
        next = entry 1 (pos 5) ∷ [];
        rest = [];
        ids = [];
        middle = no_place;
        order = refl;
        count = refl;
        took = refl;
        denied = ((((λ k h. (h, λ r. refl)), (λ k h. (h, λ r. refl)), refl), (λ l h. h), (λ l h. h)), inr (refl, (λ h. h.1), refl, refl));
      },
      refl,
    ),
  ) ends));
}
