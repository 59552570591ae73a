use Rattle.std.proofs.Common.{◌≡◌, ◌++◌, sym, ap, subst, ◌∙◌}
use Rattle.polynomials.specs.Polynomial.{IsPolynomial}
use Rattle.poly.specs.View.{term_of, terms_of}
use Rattle.divide.specs.Current.{left_of}
use Rattle.divide.proofs.OneCut.{along}
use Rattle.divide.proofs.Parts.{joined}
use Rattle.divide.proofs.current.Current.into_poly.Given.{Over}
use Rattle.divide.proofs.current.Current.into_poly.Goals.{In_ok-append}
use Rattle.divide.proofs.current.Current.into_poly.Goals as goal

-- the terms, put together
all : (g : Over) (c : In_ok-append g)
    → terms_of g.K.Ring.meaning c.append.new.self.items ≡ left_of c.args.self
all g c = joined (term_of g.K.Ring.meaning) c.args.self.done.items c.args.self.rest.terms.items _
    (c.in_ok-append.ensures.items
    ∙ ap (λ v. c.args.self.done.items ++ v.items) c.into_terms.ensures)

pub from_descending-requires-clause-descending : goal.from_descending-requires-clause-descending
from_descending-requires-clause-descending g c =
    let S = g.K.Ring.scalars in
    let at = (goal.at.from_descending-requires-clause-descending g c).In_ok-append in
    along S g.O.Order.order _ _ _ _ _ (sym c.order-order.ensures) (sym c.arity-arity.ensures.arity)
    (subst (IsPolynomial S.arithmetic (g.O.Order.order c.args.self.rest.order)
    c.args.self.rest.arity) (sym (all g at)) c.requires.descending)

pub returns-clause-terms : goal.returns-clause-terms
returns-clause-terms g c =
    c.from_descending.ensures.terms ∙ all g (goal.at.returns-clause-terms g c).In_ok-append
