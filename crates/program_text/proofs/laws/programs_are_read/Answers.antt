use Rattle.program_text.proofs.ProgramLaws.{program_read}
use Rattle.program_text.proofs.laws.programs_are_read.Goals as goal

pub returns : goal.returns
returns c = program_read
