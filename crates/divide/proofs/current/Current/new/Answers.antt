use Rattle.std.proofs.Common.{◌++◌, ap, sym, subst}
use Rattle.polynomials.specs.Polynomial.{IsPolynomial}
use Rattle.poly.specs.Seen.{terms_in}
use Rattle.poly.specs.View.{terms_of}
use Rattle.divide.proofs.Parts.{undivided_none}
use Rattle.divide.proofs.current.Current.new.Goals as goal

pub returns-clause-left : goal.returns-clause-left
returns-clause-left g c = ap (λ l. terms_of g.K.Ring.meaning l ++ terms_in c.args.poly)
    c.new.ensures.items

pub returns-clause-current : goal.returns-clause-current
returns-clause-current g c = λ ls. record {
  descending =
      subst (IsPolynomial g.K.Ring.scalars.arithmetic (g.O.Order.order c.args.poly.order)
      c.args.poly.arity)
      (sym (ap (λ l. terms_of g.K.Ring.meaning l ++ terms_in c.args.poly) c.new.ensures.items))
      c.args.poly.polynomial;
  undivided = undivided_none ls _ (ap (terms_of g.K.Ring.meaning) c.new.ensures.items);
}
