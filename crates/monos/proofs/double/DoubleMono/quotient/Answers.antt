use Rattle.std.proofs.Common.{sym, ◌∙◌, arith}
use Rattle.monos.proofs.Doubles.{divides_is, product_of, is_double}
use Rattle.monos.proofs.double.DoubleMono.quotient.Goals as goal

pub quotient-requires-2-clause-divides : goal.quotient-requires-2-clause-divides
quotient-requires-2-clause-divides c = ((divides_is _ _ _ _ _ _ c.other.invariant.0
    c.self.invariant.0 c.other.view_is c.self.view_is (sym c.requires.arity)).1
    c.requires.divides).1

pub returns-clause-ok : goal.returns-clause-ok
returns-clause-ok c = product_of _ _ _ _ _ _ _ _
    (c.other.invariant.0 ∙ sym c.self.invariant.0 ∙ sym c.quotient.ensures.arity)
    c.other.view_is c.self.view_is c.quotient.ensures.ok c.quotient-2.ensures.ok

pub returns-clause-double : goal.returns-clause-double
returns-clause-double c = is_double _ _ (c.quotient.ensures.arity ∙ c.self.invariant.0)
    (omega (arith, c.quotient-2.ensures.arity, c.self.invariant.1))
    c.quotient.ensures.short c.quotient-2.ensures.short
