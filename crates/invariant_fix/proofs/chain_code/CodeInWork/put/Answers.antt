use Rattle.std.proofs.Common.{◌≡◌, ◌+◌, ℕ, List, length, sym, ap, subst, ◌∙◌, arith}
use Rattle.std.proofs.lemmas.Result.{err_from_is_err_and}
use Rattle.algebra.specs.Fraction.{ℚ}
use Rattle.polynomials.specs.Terms.{compose}
use Rattle.polynomials.proofs.Arity.{arity-compose}
use Rattle.polynomials.proofs.Same.{Same-trans}
use Rattle.poly.specs.Seen.{Is, arity_of, terms_in, terms_each}
use Rattle.poly.proofs.Standing.{arities_over}
use Rattle.loop_model.specs.FracPoly.{FracPoly}
use Rattle.ideal_ops.specs.Calls.{AreOver}
use Rattle.invariant_fix.proofs.Variables.{in_blocks}
use Rattle.invariant_fix.proofs.Making.{before_count, before_some, before_arity, before_over, put_at, block_at, over_at, past_at}
use Rattle.invariant_fix.proofs.chain_code.CodeInWork.put.Goals as goal
use Rattle.invariant_fix.proofs.chain_code.CodeInWork.put.Goals.{Start}

-- the polynomials for what the variables were
module _ (c : Start) where
  abbrev n : ℕ
  n = c.args.self.now.copies + c.args.element.now.arity

  abbrev ps : List FracPoly
  ps = c.args.before.now.items

  over : AreOver n ps
  over = over_at c.requires.work ps c.requires.before c.args.element.now.arity c.requires.element

  size : arity_of ps ≡ n
  size = before_arity ps over (before_some c.requires.work ps c.requires.before)

pub compose-requires-clause-some : goal.compose-requires-clause-some
compose-requires-clause-some c =
    let a = c.requires.element in let b = c.requires.work.some in omega (arith, a, b)

pub compose-requires-clause-count : goal.compose-requires-clause-count
compose-requires-clause-count c =
    let w = c.args.self.now in
    before_count (length w.values.now) w.code.now c.args.before.now.items c.requires.before
    ∙ sym c.requires.element

pub compose-requires-clause-arities : goal.compose-requires-clause-arities
compose-requires-clause-arities c =
    let at = (goal.at.compose-requires-clause-arities c).Start in
    before_over (ps at) (over at) (before_some c.requires.work (ps at) c.requires.before)

pub returns-clause-block : goal.returns-clause-block
returns-clause-block c =
    let at = (goal.at.returns-clause-block c).Start in
    let i = c.in_ok-reorder.ensures.same in
    block_at c.requires.work (ps at) c.requires.before c.args.element.now.arity
    c.requires.element c.in_ok-reorder.field-0
    (ap (λ o. o.first) i.order, i.arity ∙ c.in_ok-composed.ensures.composition.arity ∙ size at)

pub returns-clause-put : goal.returns-clause-put
returns-clause-put c =
    let w = c.args.self.now in
    let g = terms_in c.args.element.now in
    let at = (goal.at.returns-clause-put c).Start in
    let i = c.in_ok-reorder.ensures.same in
    let is = subst (λ k. Is c.args.element.now.order k (compose ℚ k g (terms_each (ps at)))
    c.in_ok-composed.composed) (size at) c.in_ok-composed.ensures.composition in
    put_at c.requires.work (ps at) c.requires.before c.args.element.now.arity c.requires.element g
    c.in_ok-reorder.field-0 (in_blocks _ (arity-compose (n at) ℚ g _
    (arities_over (n at) (ps at) (over at))) c.in_ok-reorder.field-0 (ap (λ o. o.first) i.order)
    (i.arity ∙ c.in_ok-composed.ensures.composition.arity ∙ size at) (Same-trans ℚ i.same is.same))

pub returns-in_err-composed-clause-wide : goal.returns-in_err-composed-clause-wide
returns-in_err-composed-clause-wide c =
    let p = err_from_is_err_and c.from_residual.result c.from_residual.ensures.1 in
    λ h. past_at c.requires.work c.args.before.now.items c.requires.before c.args.element.now.arity
    c.requires.element (terms_in c.args.element.now)
    (c.in_err-composed.ensures.wide (cc (p.1, p.2, h)))
