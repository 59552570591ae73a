use Rattle.poly_text.proofs.PrintedSays.{printed_reads}
use Rattle.poly_text.proofs.laws.printed_polynomials_are_read.Goals as goal

pub returns : goal.returns
returns c = λ names p plain differ is narrow. printed_reads names plain differ p is narrow
