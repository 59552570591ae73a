use Rattle.std.proofs.Common.{ap, ◌∙◌}
use Rattle.std.proofs.lemmas.Result.{IfOk-weaker}
use Rattle.algebra.specs.Fraction.{product}
use Rattle.frac128.specs.FracMeaning.{fraction_of}
use Rattle.frac128.proofs.fraction.FracField.div.Goals as goal

pub returns-clause-ok : goal.returns-clause-ok
returns-clause-ok c = IfOk-weaker c.mul.result _ _ (λ q e. e
    ∙ ap (product (fraction_of c.args.self.now)) c.reciprocal.ensures) c.mul.ensures.ok
