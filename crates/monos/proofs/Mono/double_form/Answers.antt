use Rattle.std.proofs.Common.{ap, sym, subst, ◌∙◌, arith}
use Rattle.monos.specs.Forms.{exponents_of, IsProper}
use Rattle.monos.proofs.ShortMonos.{is_short}
use Rattle.monos.proofs.Mono.double_form.Goals as goal

pub returns-in-Short-clause-double : goal.returns-in-Short-clause-double
returns-in-Short-clause-double c =
    let short = is_short _ _ _ _ (subst IsProper c.in-Short.is c.self.invariant)
    (ap exponents_of (sym c.in-Short.is) ∙ c.self.view_is) in
    ((λ t. absurd (let no = t in cc)), (λ double. absurd (omega (arith, short.few, double.many))))
