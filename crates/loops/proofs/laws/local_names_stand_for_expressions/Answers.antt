use Rattle.loops.proofs.Substitution.{in_one_effect, run_without, invariants_without, formed_without}
use Rattle.loops.proofs.laws.local_names_stand_for_expressions.Goals as goal

pub returns : goal.returns
returns c s = record {
  effect = λ program branch s is. in_one_effect program branch s is;
  run = λ program word s is. run_without program word s is;
  formed = λ program some w. formed_without program some w;
  invariants = λ program p. invariants_without program p;
}
