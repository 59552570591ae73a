use Rattle.std.proofs.Common.{◌≡◌, ◌<◌, ◌≤◌, List, All, length, ap, refl, sym, subst, ◌∙◌}
use Rattle.algebra.specs.Fraction.{ℚ}
use Rattle.polynomials.specs.Order.{grevlex}
use Rattle.polynomials.specs.Polynomial.{IsPolynomial}
use Rattle.frac128.specs.declared.fraction.Frac.{Frac}
use Rattle.poly.specs.Seen.{terms_in}
use Rattle.poly.specs.declared.Term.{Term}
use Rattle.solvable_maps.specs.AfterIterations.{rest_of}
use Rattle.closed_forms.proofs.Mixing.{tell, all_arity, left_at, none_left, read_of, rest_next, rest_polynomial, rest_skipped}
use Rattle.closed_forms.proofs.sums.rest_of.Goals as goal
use Rattle.closed_forms.proofs.sums.rest_of.Goals.{After-arity}

pub has_any-requires : goal.has_any-requires
has_any-requires c =
    let at = read_of (c.deref-term-items.ensures.value ∙ ap (λ v. v.items) c.terms.ensures)
    c.loop-term-test.true c.term-item.is in
    subst (λ n. All (λ j. j < n) c.args.group.now)
    (sym (ap (λ (t : Term Frac). length t.mono) at.1 ∙ all_arity _ _
    c.args.poly.now.polynomial.arity c.loop-term.term-index c.term-item.result at.0)) c.requires

pub loop-term-preserved-then-has_any : goal.loop-term-preserved-then-has_any
loop-term-preserved-then-has_any c =
    let at = read_of (c.deref-term-items.ensures.value ∙ ap (λ v. v.items) c.terms.ensures)
    c.loop-term-test.true c.term-item.is in
    rest_skipped _ _ (left_at _ _ at.0 at.1) _ _ _ (sym c.if-has_any.true ∙ c.has_any.ensures)
    c.loop-term.invariant

pub loop-term-preserved : goal.loop-term-preserved
loop-term-preserved c =
    let at = read_of (c.deref-term-items.ensures.value ∙ ap (λ v. v.items) c.terms.ensures)
    c.loop-term-test.true c.term-item.is in
    rest_next _ _ (left_at _ _ at.0 at.1) _ _ _ _ (sym c.if-has_any.false ∙ c.has_any.ensures)
    c.in_ok-mono.ensures.ok refl c.in_ok-push.ensures.items c.loop-term.invariant

-- all terms have been read
rest_is : (c : After-arity) → tell c.loop-term.rest.items
    ≡ rest_of c.args.group.now (terms_in c.args.poly.now)
rest_is c = none_left (λ ts. rest_of c.args.group.now (tell ts)) refl _ _ _ _
    (subst (λ (ts : List (Term Frac)). length ts ≤ c.loop-term.term-index)
    (c.deref-term-items.ensures.value ∙ ap (λ v. v.items) c.terms.ensures) c.loop-term-test.false)
    c.loop-term.invariant

pub from_descending-requires-clause-descending : goal.from_descending-requires-clause-descending
from_descending-requires-clause-descending c =
    subst (λ m. IsPolynomial ℚ grevlex m (tell c.loop-term.rest.items)) (sym c.arity.ensures.arity)
    (subst (IsPolynomial ℚ grevlex c.args.poly.now.arity)
    (sym (rest_is (goal.at.from_descending-requires-clause-descending c).After-arity))
    (rest_polynomial ℚ grevlex c.args.group.now c.args.poly.now.polynomial))

pub returns-clause-terms : goal.returns-clause-terms
returns-clause-terms c = c.from_descending.ensures.terms
    ∙ rest_is (goal.at.returns-clause-terms c).After-arity
