use Rattle.std.proofs.Common.{◌≡◌, ◌+◌, [], ◌++◌, map, sym, ap, ap₂, subst, ◌∙◌, arith}
use Rattle.std.proofs.lemmas.List.{length-map, take_all}
use Rattle.std.proofs.lemmas.Result.{err_from_is_err_and}
use Rattle.algebra.specs.Fraction.{rationals}
use Rattle.polynomials.specs.Order.{grevlex, blocks}
use Rattle.machines.specs.Collect.{collect}
use Rattle.algebra.proofs.Growing.{grown_through, any_mapped}
use Rattle.algebra.proofs.Lists.{have_more}
use Rattle.poly.specs.Seen.{terms_in, terms_each}
use Rattle.poly.specs.Standing.{IsInVariables}
use Rattle.rounds.specs.Form.{front, pulled_back_by, relations}
use Rattle.task_lists.specs.Blocks.{Blocked, HasFront}
use Rattle.task_lists.specs.Placed.{HaveBlock}
use Rattle.task_lists.specs.Starting.{numbers_of}
use Rattle.task_lists.proofs.Differences.{all_at}
use Rattle.task_lists.proofs.orbit.orbit_list.Goals.{After-element-item}
use Rattle.task_lists.proofs.orbit.orbit_list.Goals as goal

over : (c : After-element-item) → c.element-item.result.arity ≡ c.args.variables
over c = all_at (IsInVariables c.args.variables) _ _
    c.element-item.result c.loop-element-test.true c.element-item.is c.requires.fits.elements

pub loop-element-preserved : goal.loop-element-preserved
loop-element-preserved c =
    let at = (goal.at.loop-element-preserved c).After-element-item in
    let r = numbers_of c.args.base.now in
    let back = terms_each c.args.back.now.items in
    let g = c.element-item.result in
    let p = c.in_ok-pulled_back.field-0 in
    record {
      list = grown_through terms_in (pulled_back_by r c.args.variables back)
          (λ (q : Blocked). terms_in q) [] _ _ g _ _ p c.loop-element-test.true c.element-item.is
          c.in_ok-push.ensures.items (c.in_ok-pulled_back.ensures.pulled_back ∙ ap (λ k.
          pulled_back_by r k back (terms_in g)) (over at)) c.loop-element.invariant.list;
      block =
          have_more (HasFront r c.args.variables) _ _ p c.in_ok-push.ensures.items
          c.loop-element.invariant.block (subst (λ k. HasFront r k p) (over at)
          c.in_ok-pulled_back.ensures.block);
    }

pub returns-in_err-pulled_back-clause-wide : goal.returns-in_err-pulled_back-clause-wide
returns-in_err-pulled_back-clause-wide c =
    let p = err_from_is_err_and c.from_residual.result c.from_residual.ensures.1 in
    λ w. any_mapped terms_in _ _ _ _ c.loop-element-test.true c.element-item.is
    (c.in_err-pulled_back.ensures.wide (cc (p.1, p.2, w)))

pub returns-clause-list : goal.returns-clause-list
returns-clause-list c =
    let r = numbers_of c.args.base.now in
    let m = c.args.variables in
    let pulled = pulled_back_by r m (terms_each c.args.back.now.items) in
    let counted : c.len.result ≡ r = c.len.ensures ∙ c.args.base.now.ok.0
    ∙ sym (length-map c.args.base.now.items _) in
    let first : front c.len.result + 0 ≡ front r = omega (arith, counted) in
    let last : 0 + m ≡ m = omega arith in
    c.in_ok-push_relations.ensures.list ∙ ap₂ ◌++◌ (c.loop-element.invariant.list ∙ ap (λ gs. map
    pulled (terms_each gs)) (take_all _ _ c.loop-element-test.false)) (ap (λ k. map
    (collect rationals (blocks k grevlex grevlex)) (relations c.len.result (0 + m))) first ∙ ap₂
    (λ n k. map (collect rationals (blocks (front r) grevlex grevlex)) (relations n k)) counted
    last)

pub returns-clause-block : goal.returns-clause-block
returns-clause-block c =
    let r = numbers_of c.args.base.now in
    let counted : c.len.result ≡ r = c.len.ensures ∙ c.args.base.now.ok.0
    ∙ sym (length-map c.args.base.now.items _) in
    let first : front c.len.result + 0 ≡ front r = omega (arith, counted) in
    subst (λ n. HaveBlock n (n + c.args.variables) c.push_relations.new.gens.items) first
    (c.in_ok-push_relations.ensures.block
    (subst (λ n. HaveBlock n (n + c.args.variables) c.loop-element.gens.items) (sym first)
    c.loop-element.invariant.block))
