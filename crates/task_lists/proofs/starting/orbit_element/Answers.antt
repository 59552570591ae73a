use Rattle.std.proofs.Common.{◌≡◌, ◌<◌, ◌≤◌, ◌-◌, [], get_or, length, sym, ap, subst, ◌∙◌, arith}
use Rattle.std.proofs.lemmas.List.{get_or-map, length-map}
use Rattle.std.proofs.lemmas.Result.{IfOk-weaker}
use Rattle.algebra.specs.Fraction.{ℚ, rationals}
use Rattle.machines.specs.Collect.{collect}
use Rattle.poly.specs.Seen.{terms_in, terms_each}
use Rattle.poly.specs.Standing.{IsInVariables}
use Rattle.poly.proofs.IsLaws.{same_equal}
use Rattle.rounds.specs.Form.{orbit_order, orbit_relations, pulled_back_by, relations}
use Rattle.task_lists.specs.Starting.{numbers_of}
use Rattle.task_lists.proofs.Elements.{orbit_count, relations_count, seen_at, at_front, at_back}
use Rattle.task_lists.proofs.starting.orbit_element.Goals as goal

pub relation_at-requires-clause-place : goal.relation_at-requires-clause-place
relation_at-requires-clause-place c =
    let r = numbers_of c.args.base.now in
    let list = c.args.list.now.items in
    let all = orbit_count (pulled_back_by r c.args.variables (terms_each c.args.back.now.items))
    (terms_each list) r c.args.variables in
    let elements = length-map list terms_in in
    let numbers : c.len-2.result ≡ r = c.len-2.ensures ∙ c.args.base.now.ok.0
    ∙ sym (length-map c.args.base.now.items _) in
    let size : c.len-3.result ≡ length list = c.len-3.ensures ∙ c.args.list.now.ok.0 in
    omega (arith, c.requires.place, all, elements, numbers, size)

pub returns-then-place-len-clause-same : goal.returns-then-place-len-clause-same
returns-then-place-len-clause-same c =
    let r = numbers_of c.args.base.now in
    let list = c.args.list.now.items in
    let size : c.len.result ≡ length list = c.len.ensures ∙ c.args.list.now.ok.0 in
    let inside : c.args.place < length list = omega (arith, c.if-place-len.true, size) in
    let back = terms_each c.args.back.now.items in
    let element = c.index.result.now in
    let arity : element.arity ≡ c.args.variables = subst (IsInVariables c.args.variables)
    (sym c.index.ensures) (c.requires.fits.elements c.args.place element inside) in
    IfOk-weaker c.pulled_back.result _ _ (λ p is. same_equal ℚ _ _ (is ∙ ap (λ k. pulled_back_by r k
    back (terms_in element)) arity ∙ at_front (pulled_back_by r c.args.variables back)
    (terms_each list) (orbit_relations r c.args.variables) c.args.place
    (omega (arith, inside, length-map list terms_in))
    (seen_at terms_in list _ inside c.index.ensures))) c.pulled_back.ensures.pulled_back

pub returns-clause-same : goal.returns-clause-same
returns-clause-same c =
    let r = numbers_of c.args.base.now in
    let list = c.args.list.now.items in
    let numbers : c.len-2.result ≡ r = c.len-2.ensures ∙ c.args.base.now.ok.0
    ∙ sym (length-map c.args.base.now.items _) in
    let size : c.len-3.result ≡ length (terms_each list) = c.len-3.ensures ∙ c.args.list.now.ok.0
    ∙ sym (length-map list terms_in) in
    let behind : c.len-3.result ≤ c.args.place =
    omega (arith, c.if-place-len.false, c.len.ensures, c.len-3.ensures) in
    let m = c.args.variables in
    let j = c.args.place - c.len-3.result in
    let all = orbit_count (pulled_back_by r m (terms_each c.args.back.now.items)) (terms_each list)
    r m in
    let within : j < length (relations r m) = (let n = relations_count r m in
    omega (arith, c.requires.place, all, n, size, behind)) in
    same_equal ℚ _ _ (c.in_ok-relation_at.ensures.relation
    ∙ ap (λ k. collect rationals (orbit_order k) (get_or (relations k m) j [])) numbers
    ∙ sym (get_or-map (collect rationals (orbit_order r)) (relations r m) j [] [] within)
    ∙ at_back (pulled_back_by r m (terms_each c.args.back.now.items)) (terms_each list)
    (orbit_relations r m) _ size behind)
