use Rattle.std.proofs.Common.{refl, sym, ap, subst, ◌∙◌}
use Rattle.monos.specs.Forms.{exponents_of, IsProper}
use Rattle.monos.proofs.ShortMonos.{is_short}
use Rattle.monos.proofs.Mono.short_form.Goals as goal

pub returns-in-Short-clause-short : goal.returns-in-Short-clause-short
returns-in-Short-clause-short c =
    let short = is_short _ _ _ _ (subst IsProper c.in-Short.is c.self.invariant)
    (ap exponents_of (sym c.in-Short.is) ∙ c.self.view_is) in
    ((λ _. short), (λ _. refl))
