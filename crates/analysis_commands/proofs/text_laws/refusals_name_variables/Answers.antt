use Rattle.analysis_commands.proofs.Naming.{named}
use Rattle.analysis_commands.proofs.text_laws.refusals_name_variables.Goals as goal

pub returns : goal.returns
returns c = λ program before after e is. named program before after e is
