use Rattle.std.proofs.Common.{sym, ap, subst, ◌∙◌}
use Rattle.monos.specs.Forms.{exponents_of, IsProper}
use Rattle.monos.proofs.ShortMonos.{count_is}
use Rattle.monos.proofs.Mono.arity.Goals as goal

pub returns-in-Short-clause-arity : goal.returns-in-Short-clause-arity
returns-in-Short-clause-arity c =
    let count = count_is _ _ _ _ (subst IsProper c.in-Short.is c.self.invariant)
    (ap exponents_of (sym c.in-Short.is) ∙ c.self.view_is) in
    cc
