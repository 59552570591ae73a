use Rattle.std.proofs.Common.{◌≡◌, sym, ap, subst, ◌∙◌}
use Rattle.algebra.specs.Fraction.{ℚ}
use Rattle.polynomials.specs.Order.{grevlex}
use Rattle.polynomials.specs.Polynomial.{IsPolynomial}
use Rattle.frac128.specs.FracMeaning.{fraction_of}
use Rattle.poly.specs.View.{terms_of}
use Rattle.expo.specs.Images.{more}
use Rattle.expo.proofs.Single.{more_made, more_falls}
use Rattle.expo.proofs.images.one_more.Goals as goal

pub from_descending-requires-clause-descending : goal.from_descending-requires-clause-descending
from_descending-requires-clause-descending c =
    let m = c.args.arity in
    let is : terms_of fraction_of c.in_ok-terms.terms.items ≡ more m =
    ap (terms_of fraction_of) c.in_ok-terms.ensures.items
    ∙ more_made m _ _ _ _ c.requires.some c.in_ok-variable.ensures.ok c.in_ok-one.ensures.ok
    c.one-2.ensures c.one-3.ensures in
    subst (IsPolynomial ℚ grevlex m) (sym is) (more_falls m)

pub returns-clause-terms : goal.returns-clause-terms
returns-clause-terms c =
    c.from_descending.ensures.terms ∙ ap (terms_of fraction_of) c.in_ok-terms.ensures.items
    ∙ more_made c.args.arity _ _ _ _ c.requires.some c.in_ok-variable.ensures.ok
    c.in_ok-one.ensures.ok c.one-2.ensures c.one-3.ensures
