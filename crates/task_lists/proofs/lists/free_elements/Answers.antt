use Rattle.std.proofs.Common.{◌≡◌, ◌+◌, false, [], ◌∷◌, sym, ap, subst, ◌∙◌, arith}
use Rattle.std.specs.Prelude.{All}
use Rattle.std.proofs.lemmas.List.{map-append}
use Rattle.std.proofs.lemmas.List.Elements.{All-nil, All-same}
use Rattle.algebra.specs.Fraction.{ℚ, fractions}
use Rattle.algebra.proofs.Fractions.{fractions_ring, fractions_field, zero_is}
use Rattle.polynomials.specs.Order.{grevlex, blocks}
use Rattle.polynomials.specs.Polynomial.{IsPolynomial}
use Rattle.machines.specs.Elimination.{all_free}
use Rattle.poly.specs.Seen.{terms_in, terms_each}
use Rattle.poly.specs.Standing.{IsInVariables}
use Rattle.machines.specs.Front.{IsFreeOfFirst}
use Rattle.poly.proofs.Standing.{polynomial_over}
use Rattle.algebra.proofs.Lists.{take_next, have_more}
use Rattle.machines.proofs.Keeping.{kept_none, kept_step_in, kept_step_out, free_all, not_free, rest_made}
use Rattle.task_lists.proofs.Combining.{at_place}
use Rattle.task_lists.proofs.lists.free_elements.Goals as goal
use Rattle.task_lists.proofs.lists.free_elements.Goals.{then-is_free_of_first+in_ok-without_first+in_ok-push, else-is_free_of_first}

pub loop-p-init : goal.loop-p-init
loop-p-init c = (
  kept_none c.args.front _ (ap terms_each c.new-free.ensures.items),
  All-same (IsInVariables c.args.variables) _ [] c.new-free.ensures.items
      (All-nil (IsInVariables c.args.variables)),
)

pub loop-p-preserved : goal.loop-p-preserved
loop-p-preserved c =
    let k = c.args.front in
    let m = c.args.variables in
    let e = c.p-item.result in
    let i = c.loop-p.p-index in
    let first = at_place (λ p. p.order.first ≡ k) _ c.requires.blocks i e
    c.loop-p-test.true c.p-item.is in
    let arity = at_place (IsInVariables (k + m)) _ c.requires.arity i e
    c.loop-p-test.true c.p-item.is in
    let more = take_next terms_in _ i e c.loop-p-test.true c.p-item.is in
    elim c.if-is_free_of_first.branch [
      | then-is_free_of_first+in_ok-without_first+in_ok-push w ↦ (
          let q = w.in_ok-without_first.field-0 in
          let free : IsFreeOfFirst k (terms_in e) =
          c.is_free_of_first.ensures.0 w.if-is_free_of_first.true in
          let made = rest_made fractions fractions_ring fractions_field zero_is k m q.arity _ _ free
          (subst (λ j. IsPolynomial ℚ (blocks j grevlex grevlex) (k + m) (terms_in e)) first
          (polynomial_over (k + m) e arity)) q.polynomial w.in_ok-without_first.ensures.rest.same in
          let rest : q.arity ≡ m = w.in_ok-without_first.ensures.rest.arity
          ∙ (omega (arith, arity)) in
          let items = ap (λ v. v.items) w.free-is ∙ w.in_ok-push.ensures.items in (
            kept_step_in k _ _ _ _ _ _ more
                (free_all k _ free) (ap terms_each items
                ∙ map-append terms_in c.loop-p.free.items (q ∷ [])) made c.loop-p.invariant.0,
            have_more (IsInVariables m) _ _ q items
                c.loop-p.invariant.1 rest,
          ))
      | else-is_free_of_first w ↦ (
          let out : all_free k (terms_in e) ≡ false = not_free k _
          (λ f. (let yes = c.is_free_of_first.ensures.1 f in let no =
          w.if-is_free_of_first.false in let z : ⊥ = cc in z)) in (
            ap (λ v. terms_each v.items) w.free-is
                ∙ kept_step_out k _ _ _ _ more out c.loop-p.invariant.0,
            subst (λ v. All (IsInVariables m) v.items) (sym w.free-is) c.loop-p.invariant.1,
          ))
    ]
