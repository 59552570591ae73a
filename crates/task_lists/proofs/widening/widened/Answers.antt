use Rattle.std.proofs.Common.{◌≡◌, ◌≤◌, ◌+◌, All, length, refl, sym, ap, subst, ◌∙◌, arith}
use Rattle.std.proofs.lemmas.List.Elements.{All-weaker}
use Rattle.std.proofs.lemmas.Result.{IfOk-weaker}
use Rattle.algebra.specs.Fraction.{ℚ}
use Rattle.polynomials.specs.Polynomial.{Arity}
use Rattle.polynomials.specs.Terms.{Same, retold}
use Rattle.polynomials.specs.Order.{grevlex}
use Rattle.polynomials.proofs.Orders.{grevlex_order}
use Rattle.polynomials.proofs.Same.{Same-trans}
use Rattle.frac128.specs.declared.fraction.Frac.{Frac}
use Rattle.frac128.specs.FracMeaning.{fraction_of}
use Rattle.poly.specs.declared.Term.{Term}
use Rattle.poly.specs.Seen.{terms_in}
use Rattle.poly.specs.View.{terms_of}
use Rattle.poly.proofs.Standing.{arity_over}
use Rattle.poly.proofs.Steps.{all_arity}
use Rattle.expo.proofs.Distinct.{pairs_of, differ_falls}
use Rattle.task_lists.specs.Shapes.{width_of, wider}
use Rattle.task_lists.proofs.Copies.{wider_arity, differ_wider, widened_same}
use Rattle.task_lists.proofs.widening.widened.Goals.{In_ok-terms}
use Rattle.task_lists.proofs.widening.widened.Goals as goal

pub wider_terms-requires-clause-long : goal.wider_terms-requires-clause-long
wider_terms-requires-clause-long c =
    let p = c.args.p.now in
    let r = c.requires.arity in
    subst (λ ts. All (λ (t : Term Frac). c.args.shape.front ≤ length t.mono) ts)
    (sym (c.deref.ensures.value ∙ ap (λ v. v.items) c.terms.ensures))
    (All-weaker (λ (t : Term Frac). length t.mono ≡ p.arity)
    (λ t. c.args.shape.front ≤ length t.mono) (λ t e. omega (arith, e, r)) _
    (all_arity fraction_of _ _ p.polynomial.arity))

pub wider_terms-requires-clause-few : goal.wider_terms-requires-clause-few
wider_terms-requires-clause-few c =
    let p = c.args.p.now in
    let r = c.requires.arity in
    let few = c.requires.few in
    subst (λ ts. All (λ (t : Term Frac). c.args.shape.copies + length t.mono ≤ 4096) ts)
    (sym (c.deref.ensures.value ∙ ap (λ v. v.items) c.terms.ensures))
    (All-weaker (λ (t : Term Frac). length t.mono ≡ p.arity)
    (λ t. c.args.shape.copies + length t.mono ≤ 4096) (λ t e. omega (arith, e, r, few)) _
    (all_arity fraction_of _ _ p.polynomial.arity))

made_is : (c : In_ok-terms) → terms_of fraction_of c.in_ok-terms.terms.items
    ≡ retold (wider c.args.shape.front c.args.shape.copies) (terms_in c.args.p.now)
made_is c = c.in_ok-terms.ensures.terms
    ∙ ap (λ ts. retold (wider c.args.shape.front c.args.shape.copies) (terms_of fraction_of ts))
    (c.deref.ensures.value ∙ ap (λ v. v.items) c.terms.ensures)

over : (c : In_ok-terms) → Arity (c.args.shape.front + c.args.shape.variables)
    (terms_in c.args.p.now)
over c = arity_over _ c.args.p.now c.requires.arity

pub from_distinct-requires-clause-arities : goal.from_distinct-requires-clause-arities
from_distinct-requires-clause-arities c =
    let at = (goal.at.from_distinct-requires-clause-arities c).In_ok-terms in
    let s = c.args.shape in
    subst (λ n. All (λ (t : Term Frac). length t.mono ≡ n) c.in_ok-terms.terms.items)
    (sym c.width.ensures) (all_arity fraction_of _ _ (subst (Arity (width_of s)) (sym (made_is at))
    (wider_arity s.front s.copies _ _ (over at))))

pub from_distinct-requires-clause-distinct : goal.from_distinct-requires-clause-distinct
from_distinct-requires-clause-distinct c =
    let at = (goal.at.from_distinct-requires-clause-distinct c).In_ok-terms in
    let s = c.args.shape in
    pairs_of _ _ (made_is at) (differ_wider s.front s.copies _ _ (over at) (differ_falls grevlex
    grevlex_order _ c.args.p.now.polynomial.falls))

pub returns : goal.returns
returns c = record {
  widened = let at = (goal.at.returns c).In_ok-terms in
      let s = c.args.shape in
      IfOk-weaker c.from_distinct.result _ _
      (λ q i. record {
        order = refl;
        arity = i.arity ∙ c.width.ensures;
        same = Same-trans ℚ (subst (Same ℚ (terms_in q)) (made_is at) i.same)
            (widened_same s.front s.copies s.variables _ (over at));
      })
      c.from_distinct.ensures;
}
