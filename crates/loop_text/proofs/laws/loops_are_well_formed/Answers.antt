use Rattle.loop_text.proofs.WellFormed.{loop_well}
use Rattle.loop_text.proofs.laws.loops_are_well_formed.Goals as goal

pub returns : goal.returns
returns c = record {
  formed = λ bytes l e. (loop_well bytes l e).formed;
  some_name = λ bytes l e. (loop_well bytes l e).some_name;
  few_names = λ bytes l e. (loop_well bytes l e).limits.few_names;
  few_branches = λ bytes l e. (loop_well bytes l e).limits.few_branches;
}
