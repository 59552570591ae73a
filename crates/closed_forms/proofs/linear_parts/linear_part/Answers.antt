use Rattle.std.proofs.Common.{◌<◌, List, get_or, ap, sym, subst, ◌∙◌}
use Rattle.algebra.specs.Fraction.{ℚ}
use Rattle.solvable_maps.specs.Uses.{unit}
use Rattle.polynomials.proofs.Distinct.{distinct_falls}
use Rattle.polynomials.proofs.Orders.{grevlex_order}
use Rattle.polynomials.specs.Order.{grevlex}
use Rattle.polynomials.specs.Polynomial.{Arity, IsDistinct}
use Rattle.polynomials.specs.Terms.{coefficient}
use Rattle.frac128.specs.FracMeaning.{fraction_of}
use Rattle.frac128.specs.declared.fraction.Frac.{Frac}
use Rattle.poly.specs.Seen.{terms_in}
use Rattle.poly.specs.declared.Term.{Term}
use Rattle.closed_forms.proofs.Alone.{made_next}
use Rattle.closed_forms.proofs.Mixing.{tell, all_arity}
use Rattle.closed_forms.proofs.linear_parts.linear_part.Goals as goal

pub number_of-requires-clause-distinct : goal.number_of-requires-clause-distinct
number_of-requires-clause-distinct c =
    subst (λ (ts : List (Term Frac)). IsDistinct (tell ts)) (sym (c.deref.ensures.value ∙ ap (λ v.
    v.items) c.terms.ensures)) (distinct_falls grevlex grevlex_order _
    c.args.poly.now.polynomial.falls)

pub number_of-requires-clause-inside : goal.number_of-requires-clause-inside
number_of-requires-clause-inside c = λ k d l.
    subst (λ n. get_or c.args.group.now c.loop-variable.variable-index 0 < n) (sym (all_arity _ _
    (subst (λ (ts : List (Term Frac)). Arity c.args.poly.now.arity (tell ts))
    (sym (c.deref.ensures.value ∙ ap (λ v. v.items) c.terms.ensures))
    c.args.poly.now.polynomial.arity) k d l)) (c.requires c.loop-variable.variable-index 0
    c.loop-variable-test.true)

pub loop-variable-preserved : goal.loop-variable-preserved
loop-variable-preserved c =
    let i = c.loop-variable.variable-index in
    made_next fraction_of (λ j. coefficient ℚ (terms_in c.args.poly.now)
    (unit c.args.poly.now.arity j)) _ i _ c.number_of.result c.loop-variable-test.true
    c.loop-variable.invariant c.in_ok-push.ensures.items (c.number_of.ensures c.args.poly.now.arity
    (all_arity _ _ (subst (λ (ts : List (Term Frac)). Arity c.args.poly.now.arity (tell ts))
    (sym (c.deref.ensures.value ∙ ap (λ v. v.items) c.terms.ensures))
    c.args.poly.now.polynomial.arity)) ∙ ap (λ (ts : List (Term Frac)). coefficient ℚ (tell ts)
    (unit c.args.poly.now.arity (get_or c.args.group.now i 0)))
    (c.deref.ensures.value ∙ ap (λ v. v.items) c.terms.ensures))
