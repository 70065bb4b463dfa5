-- What holds of rule lists and ids holds of runs: any calls in any order.
use Rattle.std.proofs.Common.{ℕ, List, refl}
use Rattle.spec.specs.Stores.{Store}
use Rattle.spec.specs.Runs.{Kind}
use Rattle.spec.specs.Rules.{RuleList, sections, opened}
use Rattle.spec.specs.Build.{built_sections}
use Rattle.spec.specs.Promise.{EachSection}
use Rattle.laws.specs.Made.{RunsMake}
use Rattle.laws.specs.Whole.{BytesAnswer, RunsAnswer}
use Rattle.laws.proofs.Making.{run_makes, opened_made}
use Rattle.laws.proofs.Keeping.{run_holds, runs_keep}

module _ {R Q O A B S : Type 0} (kind : Kind R Q O A B) (m : Store S) where
  pub runs_make : RunsMake kind m
  runs_make capacity s t cs ans l us got f run = run_makes kind m capacity (opened_made kind.rules) f run

  pub runs_answer : BytesAnswer kind m → ((l : RuleList R) (ids : List ℕ) → EachSection (kind.stands l.sets) (sections l) (built_sections kind.builds l ids)) → RunsAnswer kind m
  runs_answer h stand capacity s t cs ans l us ids f run = record {
    reads = h t l ids (run_makes kind m capacity (opened_made kind.rules) f run) (run_holds kind m capacity ids run refl);
    stands = stand l ids;
    keeps = runs_keep kind m capacity opened s cs ans t;
  }
