use Rattle.frac128.specs.FracMeaning.{fraction_of}
use Rattle.expo.proofs.Stepping.{even_sign, odd_sign}
use Rattle.expo.proofs.operations.coefficient_inverse_form.Goals as goal

pub returns-then-exponent-eq0 : goal.returns-then-exponent-eq0
returns-then-exponent-eq0 c = even_sign c.args.term.now.mono _ c.exponent.result c.exponent.ensures
    c.if-exponent-eq0.true

pub returns-else-exponent-eq0 : goal.returns-else-exponent-eq0
returns-else-exponent-eq0 c = odd_sign c.args.term.now.mono _ (fraction_of c.neg.result)
    c.exponent.result c.exponent.ensures c.if-exponent-eq0.false c.neg.ensures
