use Rattle.std.proofs.Common.{◌-◌, refl, arith, subst, ◌∙◌}
use Rattle.algebra.specs.Size.{IsPast}
use Rattle.algebra.specs.Fraction.{fraction_size}
use Rattle.expo.proofs.Binomials.{some_natural, next_is, small_quotient}
use Rattle.expo.proofs.Outcomes.{ok_weaker}
use Rattle.expo.proofs.table.next_binomial.Goals as goal

pub div-requires : goal.div-requires
div-requires c =
    let h = c.requires.row in
    some_natural (c.args.place - c.args.row) _ (omega arith) c.frac_of_usize-2.ensures

pub returns-in_err-factor-clause-wide : goal.returns-in_err-factor-clause-wide
returns-in_err-factor-clause-wide c =
    let h = c.requires.row in
    let f = c.requires.few in
    λ e. absurd (small_quotient _ _ c.args.place (c.args.place - c.args.row) (omega arith)
    (omega arith) f (omega arith) c.frac_of_usize.ensures c.frac_of_usize-2.ensures
    (c.in_err-factor.ensures.wide.0 refl))

pub returns-clause-ok : goal.returns-clause-ok
returns-clause-ok c =
    ok_weaker _ _ (λ x e. e ∙ next_is _ _ _ _ c.args.place c.args.row c.requires.row
    c.requires.given c.frac_of_usize.ensures c.frac_of_usize-2.ensures c.in_ok-factor.ensures.ok)
    c.mul.result c.mul.ensures.ok

pub returns-clause-wide : goal.returns-clause-wide
returns-clause-wide c =
    λ e. subst (λ x. IsPast (fraction_size x)) (next_is _ _ _ _ c.args.place c.args.row
    c.requires.row c.requires.given c.frac_of_usize.ensures c.frac_of_usize-2.ensures
    c.in_ok-factor.ensures.ok) (c.mul.ensures.wide.0 e)
