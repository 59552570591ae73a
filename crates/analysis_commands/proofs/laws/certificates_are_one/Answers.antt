use Rattle.analysis_commands.proofs.OneCertificate.{one_text}
use Rattle.analysis_commands.proofs.laws.certificates_are_one.Goals as goal

pub returns : goal.returns
returns c = λ kind text said other m k a b. one_text kind text said other m k a b
