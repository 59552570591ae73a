use Rattle.program_text.specs.Programs.{most_names}
use Rattle.program_text.proofs.WellRead.{program_well}
use Rattle.program_text.proofs.laws.programs_are_well_formed.Goals as goal

pub returns : goal.returns
unfolding most_names
returns c = record {
  some_name = λ bytes p e. (program_well bytes p e).some_name;
  few_names = λ bytes p e. (program_well bytes p e).few_names;
  no_unknown = λ bytes p e. (program_well bytes p e).no_unknown;
  well_formed = λ bytes p e. (program_well bytes p e).well_formed;
}
