use Rattle.std.proofs.Common.{◌≡◌, ◌<◌, ◌≤◌, ◌-◌, [], length, map, sym, ap, ◌∙◌, arith}
use Rattle.std.proofs.lemmas.List.{get_or-map, length-map}
use Rattle.std.proofs.lemmas.Result.{IfOk-weaker}
use Rattle.algebra.specs.Fraction.{ℚ, rationals}
use Rattle.machines.specs.Elimination.{with_first}
use Rattle.poly.specs.Blending.{times_rest}
use Rattle.poly.specs.Seen.{terms_in, terms_each}
use Rattle.poly.proofs.IsLaws.{same_equal}
use Rattle.task_lists.proofs.Elements.{meet_count, seen_at, at_front, at_back}
use Rattle.task_lists.proofs.starting.meet_element.Goals as goal

pub returns-then-place-len-clause-same : goal.returns-then-place-len-clause-same
returns-then-place-len-clause-same c =
    let left = c.args.left.now.items in
    let size : c.len.result ≡ length left = c.len.ensures ∙ c.args.left.now.ok.0 in
    let inside : c.args.place < length left = omega (arith, c.if-place-len.true, size) in
    IfOk-weaker c.times_t.result _ _ (λ p is. same_equal ℚ _ _ (is ∙ at_front with_first
    (terms_each left) (map (times_rest rationals) (terms_each c.args.right.now.items)) c.args.place
    (omega (arith, inside, length-map left terms_in))
    (seen_at terms_in left _ inside c.index.ensures))) c.times_t.ensures.product

pub returns-clause-same : goal.returns-clause-same
returns-clause-same c =
    let left = c.args.left.now.items in
    let right = c.args.right.now.items in
    let j = c.args.place - c.len-2.result in
    let size : c.len-2.result ≡ length (terms_each left) = c.len-2.ensures ∙ c.args.left.now.ok.0
    ∙ sym (length-map left terms_in) in
    let behind : c.len-2.result ≤ c.args.place =
    omega (arith, c.if-place-len.false, c.len.ensures, c.len-2.ensures) in
    let all = meet_count with_first (times_rest rationals) (terms_each left) (terms_each right) in
    let seen : j < length (terms_each right) = omega (arith, c.requires.place, all, size, behind) in
    let inside : j < length right = omega (arith, seen, length-map right terms_in) in
    IfOk-weaker c.times_one_less_t.result _ _ (λ p is. same_equal ℚ _ _
    (is ∙ ap (times_rest rationals) (seen_at terms_in right j inside c.index-2.ensures)
    ∙ sym (get_or-map (times_rest rationals) (terms_each right) j [] [] seen) ∙ at_back with_first
    (terms_each left) (map (times_rest rationals) (terms_each right)) _ size behind))
    c.times_one_less_t.ensures.product
