use Rattle.corollaries.proofs.Images.{refutes, inv_of_none}
use Rattle.corollaries.proofs.counter_laws.counter_runs_refute_invariants.Goals as goal

pub returns : goal.returns
returns c s = record {
  refutes = λ program p w h i. refutes program p w h i;
  invariant =
      λ program p a. ((λ i n w l h. refutes program p w h i), (λ h. inv_of_none program p a h));
}
