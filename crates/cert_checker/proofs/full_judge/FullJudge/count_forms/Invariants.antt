use Rattle.corollaries.specs.Parts.{in_forms}
use Rattle.corollaries.specs.Stage.{below}
use Rattle.cert_checker.specs.FullJudge.{terms_by}
use Rattle.cert_checker.specs.LongParts.{IsTotal}
use Rattle.cert_checker.proofs.full_judge.FullJudge.count_forms.Given as goal

abbrev pub invariant-loop-branch : goal.invariant-loop-branch
invariant-loop-branch l = IsTotal (λ b. terms_by l.self (in_forms b)) 0 (below l.branch) l.terms
