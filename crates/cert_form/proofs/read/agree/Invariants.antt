use Rattle.cert_form.proofs.Texts.{Agreed}
use Rattle.cert_form.proofs.read.agree.Given as goal

abbrev pub invariant-loop-i : goal.invariant-loop-i
invariant-loop-i l = Agreed l.names l.list l.i
