use Rattle.program_text.proofs.ProgramLaws.{program_fault}
use Rattle.program_text.proofs.laws.first_faults_are_answered.Goals as goal

pub returns : goal.returns
returns c = program_fault
