use Rattle.grammars.proofs.Faults.{whole_refused}
use Rattle.grammars.proofs.FirstFaults.{first_faults}
use Rattle.grammars.proofs.laws.first_faults_are_answered.Goals as goal

pub returns : goal.returns
returns c _ = λ L checked gs whole s tokens spelled ts x why.
    let p = whole_refused L checked gs whole.fit s ts x why in
    let q = first_faults L gs s tokens spelled ts x why in
    ((λ e. q.0 (p.0 e)), (λ f. p.1 (q.1 f)))
