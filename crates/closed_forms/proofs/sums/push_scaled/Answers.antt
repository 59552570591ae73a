use Rattle.std.proofs.Common.{refl}
use Rattle.algebra.specs.Fraction.{rationals}
use Rattle.machines.specs.Collect.{scale_terms}
use Rattle.frac128.specs.FracMeaning.{fraction_of}
use Rattle.closed_forms.proofs.Mixing.{tell, left_at, scaled_next, past_scaled_at, scaled_none, none_left}
use Rattle.closed_forms.proofs.sums.push_scaled.Goals as goal

pub loop-term-preserved : goal.loop-term-preserved
loop-term-preserved c =
    let i = c.loop-term.term-index in
    scaled_next _ _ (left_at _ i c.loop-term-test.true c.term-item.is)
    (fraction_of c.args.number.now) _ _ _
    c.in_ok-mono.ensures.ok c.in_ok-coef.ensures.ok c.in_ok-push.ensures.items c.loop-term.invariant

pub returns-clause-terms : goal.returns-clause-terms
returns-clause-terms c =
    none_left (λ ts. scale_terms rationals (fraction_of c.args.number.now) (tell ts))
    (scaled_none (fraction_of c.args.number.now)) _ _ _ _
    c.loop-term-test.false c.loop-term.invariant

pub returns-in_err-coef-clause-wide : goal.returns-in_err-coef-clause-wide
returns-in_err-coef-clause-wide c =
    λ h. past_scaled_at _ _ (fraction_of c.args.number.now) c.loop-term-test.true c.term-item.is
    (c.in_err-coef.ensures.wide.0 refl)
