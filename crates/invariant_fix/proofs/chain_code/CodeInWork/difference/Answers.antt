use Rattle.std.proofs.Common.{◌≡◌, ◌+◌, ◌<◌, ℕ, List, length, inl, inr, sym, ap, subst, ◌∙◌, arith}
use Rattle.std.proofs.lemmas.Result.{err_from_is_err_and}
use Rattle.algebra.specs.Fraction.{Fraction, ℚ, rationals, fractions}
use Rattle.algebra.proofs.Fractions.{ℚ_field}
use Rattle.polynomials.specs.Order.{grevlex}
use Rattle.polynomials.specs.Terms.{Terms, compose}
use Rattle.polynomials.specs.Polynomial.{Arity}
use Rattle.polynomials.specs.Weight.{IsPastSum}
use Rattle.polynomials.proofs.Arity.{arity-compose, arity-append, arity-negate, arity-variables, arity_at}
use Rattle.polynomials.proofs.Orders.{grevlex_order}
use Rattle.polynomials.proofs.Same.{Same-trans}
use Rattle.machines.specs.Collect.{collect}
use Rattle.machines.proofs.Collecting.{collect-is}
use Rattle.poly.specs.Operations.{IsVariable}
use Rattle.poly.specs.Seen.{Is, arity_of, terms_in, terms_each}
use Rattle.poly.proofs.Standing.{arities_over}
use Rattle.loop_model.specs.FracPoly.{FracPoly}
use Rattle.ideal_ops.specs.Calls.{AreOver}
use Rattle.invariant_fix.proofs.Blocks.{graded_polynomial}
use Rattle.invariant_fix.proofs.Variables.{in_blocks, variable_is, variable_arity}
use Rattle.corollaries.specs.CodeBetween.{variable_of}
use Rattle.invariant_fix.proofs.Making.{before_count, before_some, before_arity, before_over, block_at, over_at, difference_at, past_value_at, differs}
use Rattle.invariant_fix.proofs.chain_code.CodeInWork.difference.Goals as goal
use Rattle.invariant_fix.proofs.chain_code.CodeInWork.difference.Goals.{After-sub}

pub compose-requires-clause-some : goal.compose-requires-clause-some
compose-requires-clause-some c =
    let a = c.requires.value in let b = c.requires.work.some in omega (arith, a, b)

pub compose-requires-clause-count : goal.compose-requires-clause-count
compose-requires-clause-count c =
    let w = c.args.self.now in
    before_count (length w.values.now) w.code.now c.args.before.now.items c.requires.before
    ∙ sym c.requires.value

pub compose-requires-clause-arities : goal.compose-requires-clause-arities
compose-requires-clause-arities c =
    let w = c.args.self.now in
    let ps = c.args.before.now.items in
    before_over ps (over_at c.requires.work ps c.requires.before c.args.value.now.arity
    c.requires.value) (before_some c.requires.work ps c.requires.before)

-- the value that is put for the variable, and the variable
module _ (c : After-sub) where
  abbrev n : ℕ
  n = c.args.self.now.copies + c.args.value.now.arity

  abbrev var : ℕ
  var = c.args.self.now.copies + c.args.var

  abbrev ps : List FracPoly
  ps = c.args.before.now.items

  over : AreOver n ps
  over = over_at c.requires.work ps c.requires.before c.args.value.now.arity c.requires.value

  abbrev put : Terms Fraction
  put = compose ℚ n (terms_in c.args.value.now) (terms_each ps)

  put_arity : Arity n put
  put_arity = arity-compose n ℚ (terms_in c.args.value.now) _ (arities_over n ps over)

  put_is : Is c.args.value.now.order n put c.in_ok-composed.composed
  put_is =
      let size : arity_of ps ≡ n =
      before_arity ps over (before_some c.requires.work ps c.requires.before) in
      subst (λ k. Is c.args.value.now.order k
      (compose ℚ k (terms_in c.args.value.now) (terms_each ps)) c.in_ok-composed.composed) size
      c.in_ok-composed.ensures.composition

  made : IsVariable c.in_ok-now.now.order n var c.in_ok-now.now
  made =
      let sized : c.args.self.now.copies + c.arity.result ≡ n =
      ap (λ k. c.args.self.now.copies + k) c.arity.ensures.arity in
      subst (λ k. IsVariable c.in_ok-now.now.order k var c.in_ok-now.now) sized
      c.in_ok-now.ensures.variable

  now_is : terms_in c.in_ok-now.now ≡ variable_of n var
  now_is =
      let inside = c.requires.var in
      let value = c.requires.value in
      let place : var < n = omega (arith, inside, value) in
      variable_is _ n var place c.in_ok-now.now made

pub returns-clause-block : goal.returns-clause-block
returns-clause-block c =
    let e = (goal.at.returns-clause-block c).After-sub in
    let i = c.in_ok-reorder.ensures.same in
    block_at c.requires.work (ps e) c.requires.before c.args.value.now.arity
    c.requires.value c.in_ok-reorder.field-0 (
      ap (λ o. o.first) i.order,
      i.arity ∙ c.in_ok-less.ensures.difference.arity
          ∙ variable_arity _ (n e) (var e) c.in_ok-now.now (made e),
    )

pub returns-clause-difference : goal.returns-clause-difference
returns-clause-difference c =
    let w = c.args.self.now in
    let e = (goal.at.returns-clause-difference c).After-sub in
    let i = c.in_ok-reorder.ensures.same in
    difference_at c.requires.work (ps e) c.requires.before c.args.value.now.arity c.requires.value
    c.args.var _ c.in_ok-reorder.field-0 (in_blocks _ (arity-append (n e) _ _
    (arity_at (n e) _ (arity-variables (n e) ℚ) (var e))
    (arity-negate (n e) ℚ (put e) (put_arity e))) c.in_ok-reorder.field-0
    (ap (λ o. o.first) i.order) (i.arity ∙ c.in_ok-less.ensures.difference.arity ∙ variable_arity _
    (n e) (var e) c.in_ok-now.now (made e)) (Same-trans ℚ i.same (differs c.in_ok-now.now
    c.in_ok-composed.composed _ (put e) _ (now_is e) (put_is e).same
    c.in_ok-less.ensures.difference.same)))

pub returns-in_err-composed-clause-wide : goal.returns-in_err-composed-clause-wide
returns-in_err-composed-clause-wide c =
    let p = err_from_is_err_and c.from_residual.result c.from_residual.ensures.1 in
    λ h. past_value_at c.requires.work c.args.before.now.items c.requires.before
    c.args.value.now.arity
    c.requires.value c.args.var _ (inl (c.in_err-composed.ensures.wide (cc (p.1, p.2, h))))

pub returns-in_err-less-clause-wide : goal.returns-in_err-less-clause-wide
returns-in_err-less-clause-wide c =
    let e = (goal.at.returns-in_err-less-clause-wide c).After-sub in
    let composed : terms_in c.in_ok-composed.composed ≡ collect rationals grevlex (put e) =
    collect-is ℚ_field grevlex grevlex_order (n e) (put e) _ (put_arity e)
    (graded_polynomial (n e) c.in_ok-composed.composed (put_is e).arity) (put_is e).same in
    let p = err_from_is_err_and c.from_residual-in_err-less.result
    c.from_residual-in_err-less.ensures.1 in
    λ h. past_value_at c.requires.work (ps e) c.requires.before c.args.value.now.arity
    c.requires.value c.args.var _ (inr (subst (λ q. IsPastSum fractions (variable_of (n e) (var e))
    q) composed (subst (λ q. IsPastSum fractions q (terms_in c.in_ok-composed.composed)) (now_is e)
    (c.in_err-less.ensures.wide (cc (p.1, p.2, h))))))
