use Rattle.std.proofs.Common.{◌≢◌}
use Rattle.std.proofs.lemmas.Result.{IfErr-weaker}
use Rattle.closed_forms.specs.Comparison.{IsPastBy}
use Rattle.closed_forms.proofs.Ending.{of_class}
use Rattle.closed_forms.proofs.begins.Comparison.passing.Goals as goal

pub returns-clause-refused : goal.returns-clause-refused
returns-clause-refused c = IfErr-weaker _ _ _
    (of_class (IsPastBy c.args.self.now 0)
    (λ v. (c.args.since ≢ 0) × IsPastBy c.args.self.now 0 v)
    (λ v w. (c.if-since-eq0.false, w))) c.apart.ensures.refused
