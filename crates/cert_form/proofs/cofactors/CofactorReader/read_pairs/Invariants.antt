use Rattle.cert_form.specs.Path.{path_bytes}
use Rattle.cert_form.proofs.PairSteps.{PairsSoFar}
use Rattle.cert_form.proofs.cofactors.CofactorReader.read_pairs.Given as goal

abbrev pub invariant-loop-i : goal.invariant-loop-i
invariant-loop-i l = PairsSoFar l.self.names.now l.self.elements (path_bytes l.path) l.list l.i
    l.found
