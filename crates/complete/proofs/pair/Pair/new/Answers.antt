use Rattle.std.proofs.Common.{length, sym, ap, subst, ◌∙◌}
use Rattle.polynomials.specs.Exponent.{Divides}
use Rattle.polynomials.proofs.Degrees.{divides-left, divides-right}
use Rattle.polynomials.proofs.Exponent.{length-lcm}
use Rattle.complete.proofs.pair.Pair.new.Goals as goal

pub sugar_at-left_sugar-requires-clause-multiple : goal.sugar_at-left_sugar-requires-clause-multiple
sugar_at-left_sugar-requires-clause-multiple c = subst (Divides c.args.first.now)
    (sym c.in_ok-multiple.ensures.ok) (divides-left c.args.first.now c.args.second.now)

pub sugar_at-left_sugar-requires-clause-same : goal.sugar_at-left_sugar-requires-clause-same
sugar_at-left_sugar-requires-clause-same c = sym (ap length c.in_ok-multiple.ensures.ok
    ∙ length-lcm _ _ c.requires.same)

pub sugar_at-right_sugar-requires-clause-multiple :
    goal.sugar_at-right_sugar-requires-clause-multiple
sugar_at-right_sugar-requires-clause-multiple c = subst (Divides c.args.second.now)
    (sym c.in_ok-multiple.ensures.ok) (divides-right c.args.first.now c.args.second.now)

pub sugar_at-right_sugar-requires-clause-same : goal.sugar_at-right_sugar-requires-clause-same
sugar_at-right_sugar-requires-clause-same c = sym c.requires.same
    ∙ sym (ap length c.in_ok-multiple.ensures.ok ∙ length-lcm _ _ c.requires.same)
