use Rattle.std.proofs.Common.{◌≡◌, All, inl, inr, length, ap, sym, subst, ◌∙◌, arith}
use Rattle.std.proofs.lemmas.Result.{IfOk-weaker}
use Rattle.algebra.specs.Fraction.{fraction_size}
use Rattle.algebra.specs.Size.{IsPast}
use Rattle.polynomials.specs.Weight.{weight}
use Rattle.frac128.specs.declared.fraction.Frac.{Frac}
use Rattle.poly.specs.Seen.{terms_in}
use Rattle.poly.specs.declared.Term.{Term}
use Rattle.solvable_maps.specs.Expo.{with_normal_keys}
use Rattle.solvable_maps.specs.Iterations.{width}
use Rattle.closed_forms.specs.Inhomogeneities.{collect_terms}
use Rattle.closed_forms.specs.Recurrences.{base_by}
use Rattle.closed_forms.proofs.Making.{poly_is, normal_over, room_before, base_width}
use Rattle.closed_forms.proofs.Mixing.{tell, arity_all, wide_on}
use Rattle.closed_forms.proofs.recurrence.Recurrence.normal_sum.Goals as goal
use Rattle.closed_forms.proofs.recurrence.Recurrence.normal_sum.Goals.{After-width, In_ok-sum}

width_is : (c : After-width) → c.width.result ≡ width (length (base_by c.args.self.now))
    c.args.self.now.vars
width_is c =
    let r = c.args.self.now in
    c.width.ensures ∙ base_width _ r.vars (c.len.ensures ∙ r.base.now.ok.0)

pub width-requires : goal.width-requires
width-requires c =
    let r = c.args.self.now in
    let e = base_width _ r.vars (c.len.ensures ∙ r.base.now.ok.0) in
    let few = r.few in
    omega (arith, e, few)

pub from_terms-requires-clause-few : goal.from_terms-requires-clause-few
from_terms-requires-clause-few c =
    let e = width_is (goal.at.from_terms-requires-clause-few c).After-width in
    let few = c.args.self.now.few in
    omega (arith, e, few)

pub from_terms-requires-clause-arities : goal.from_terms-requires-clause-arities
from_terms-requires-clause-arities c =
    subst (λ w. All (λ (t : Term Frac). length t.mono ≡ w) c.args.terms.items)
    (sym (width_is (goal.at.from_terms-requires-clause-arities c).After-width)) c.requires

-- how many exponents the sum has, and what it is
module _ (c : In_ok-sum) where
  arity_is : c.in_ok-sum.sum.arity ≡ width (length (base_by c.args.self.now)) c.args.self.now.vars
  arity_is =
      let r = c.args.self.now in
      c.in_ok-sum.ensures.sum.arity ∙ c.width.ensures
      ∙ base_width _ r.vars (c.len.ensures ∙ r.base.now.ok.0)

  made : terms_in c.in_ok-sum.sum ≡ collect_terms (tell c.args.terms.items)
  made =
      let w = width (length (base_by c.args.self.now)) c.args.self.now.vars in
      poly_is c.in_ok-sum.sum _ (arity_all w _ c.requires) arity_is c.in_ok-sum.ensures.sum.same

pub returns-in_err-sum-clause-wide : goal.returns-in_err-sum-clause-wide
returns-in_err-sum-clause-wide c =
    wide_on c.from_residual.ensures.1 (λ w. inl (c.in_err-sum.ensures.wide w))

pub normal-requires-clause-front : goal.normal-requires-clause-front
normal-requires-clause-front c =
    room_before _ _ (arity_is (goal.at.normal-requires-clause-front c).In_ok-sum)

pub returns-clause-normal : goal.returns-clause-normal
returns-clause-normal c =
    let at = (goal.at.returns-clause-normal c).In_ok-sum in
    let bs = base_by c.args.self.now in
    IfOk-weaker c.normal.result _ _
    (λ y h. record {
      over_base = h.over_base;
      over_vars = (normal_over _ _ y (arity_is at) h).over_vars;
      terms = h.terms ∙ ap (λ q. collect_terms (with_normal_keys (length bs) q)) (made at);
    }) c.normal.ensures.normal

pub returns-clause-wide : goal.returns-clause-wide
returns-clause-wide c =
    let at = (goal.at.returns-clause-wide c).In_ok-sum in
    λ w. inr (subst (λ p. IsPast (weight fraction_size p)) (made at) (c.normal.ensures.wide w))
