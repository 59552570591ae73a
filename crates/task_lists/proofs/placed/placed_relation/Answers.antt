use Rattle.std.proofs.Common.{◌≡◌, ◌+◌, [], get_or, ap, subst}
use Rattle.std.proofs.lemmas.Result.{IfOk-weaker}
use Rattle.algebra.specs.Fraction.{rationals}
use Rattle.polynomials.specs.Order.{grevlex, blocks}
use Rattle.machines.specs.Collect.{collect}
use Rattle.poly.specs.Seen.{terms_in}
use Rattle.rounds.specs.Form.{relations}
use Rattle.task_lists.proofs.Placing.{relation_placed}
use Rattle.task_lists.proofs.placed.placed_relation.Goals as goal

pub returns-clause-relation : goal.returns-clause-relation
returns-clause-relation c =
    let p = c.in_ok-relation.relation in
    let r = c.args.numbers in
    let m = c.args.copies + c.args.variables in
    IfOk-weaker c.reorder.result _ _ (λ b is. subst (λ n. terms_in b ≡ collect rationals
    (blocks n grevlex grevlex) (get_or (relations r m) c.args.place []))
    (ap (λ n. n + c.args.copies) c.front.ensures) (relation_placed _ r m c.args.place p b
    c.in_ok-relation.ensures.relation c.in_ok-relation.ensures.block.1 is)) c.reorder.ensures.same
