use Rattle.std.proofs.Common.{◌+◌, ℕ, length, sym, ap, ◌∙◌, arith}
use Rattle.std.proofs.lemmas.Result.{err_from_is_err_and}
use Rattle.std.proofs.lemmas.List.{length-map}
use Rattle.algebra.specs.Fraction.{ℚ}
use Rattle.polynomials.specs.Terms.{compose}
use Rattle.polynomials.proofs.Arity.{arity-compose}
use Rattle.poly.specs.Seen.{terms_in, terms_each}
use Rattle.poly.specs.Standing.{StandsFor}
use Rattle.poly.proofs.Standing.{arities_over, polynomial_over}
use Rattle.coprime_base.specs.Sizes.{sizes}
use Rattle.rounds.specs.Form.{front}
use Rattle.task_lists.specs.Blocks.{in_blocks}
use Rattle.task_lists.proofs.Differences.{composed_stands}
use Rattle.task_lists.proofs.Placing.{heavy_composed, normal_is}
use Rattle.task_lists.proofs.orbit.pulled_back.Goals.{In_ok-moved}
use Rattle.task_lists.proofs.orbit.pulled_back.Goals as goal

abbrev numbers : In_ok-moved → ℕ
numbers c = length (sizes c.args.base.now.items)

abbrev width : In_ok-moved → ℕ
width c = front (numbers c) + c.args.p.now.arity

stands : (c : In_ok-moved) → StandsFor (width c) c.in_ok-moved.moved (compose ℚ (width c)
    (terms_in c.args.p.now) (terms_each c.args.back.now.items))
stands c = composed_stands (width c) _ c.requires.back
    (omega (arith, c.requires.some, c.requires.count)) c.args.p.now
    c.in_ok-moved.ensures.composition

pub returns-in_err-normal-clause-wide : goal.returns-in_err-normal-clause-wide
returns-in_err-normal-clause-wide c =
    let at = (goal.at.returns-in_err-normal-clause-wide c).In_ok-moved in
    let moved = c.in_ok-moved.moved in
    let p = err_from_is_err_and c.from_residual-in_err-normal.result
    c.from_residual-in_err-normal.ensures.1 in
    λ w. heavy_composed (width at) _ _ (polynomial_over (width at) moved (stands at).arity)
    (stands at).same (c.in_err-normal.ensures.wide (cc (p.1, p.2, w)))

pub returns-clause-pulled_back : goal.returns-clause-pulled_back
returns-clause-pulled_back c =
    let at = (goal.at.returns-clause-pulled_back c).In_ok-moved in
    let back = terms_each c.args.back.now.items in
    let i = c.in_ok-reorder.ensures.same in
    let within = (stands at).arity in
    normal_is (front (numbers at)) (width at) (numbers at) c.in_ok-moved.moved
    c.in_ok-normal.normal c.in_ok-reorder.field-0 c.in_ok-normal.ensures.normal
    c.in_ok-normal.ensures.arity (omega (arith, within)) (record {
      order = i.order ∙ ap in_blocks (c.front-first.ensures ∙ ap front (c.len.ensures
          ∙ c.args.base.now.ok.0 ∙ sym (length-map c.args.base.now.items _)));
      arity = i.arity;
      same = i.same;
    }) (compose ℚ (width at) (terms_in c.args.p.now) back) (stands at) (arity-compose (width at) ℚ
    (terms_in c.args.p.now) back (arities_over (width at) _ c.requires.back))

pub returns-clause-block : goal.returns-clause-block
returns-clause-block c =
    let at = (goal.at.returns-clause-block c).In_ok-moved in
    let i = c.in_ok-reorder.ensures.same in (
      ap (λ o. o.first) i.order ∙ c.front-first.ensures ∙ ap front (c.len.ensures
          ∙ c.args.base.now.ok.0 ∙ sym (length-map c.args.base.now.items _)),
      i.arity ∙ c.in_ok-normal.ensures.arity ∙ (stands at).arity,
    )
