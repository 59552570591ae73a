use Rattle.analysis_commands.proofs.PrintedCertificates.{printed_valid}
use Rattle.analysis_commands.proofs.laws.printed_certificates_are_valid.Goals as goal

pub returns : goal.returns
returns c = λ text said a few. printed_valid text said a few
