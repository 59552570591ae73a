use Rattle.std.proofs.Common.{◌≡◌, ◌<◌, ◌+◌, [], ◌++◌, map, get_or, length, sym, ap, ◌∙◌, arith}
use Rattle.std.proofs.lemmas.List.{append-nil, get_or_default, take_all}
use Rattle.algebra.specs.Fraction.{rationals}
use Rattle.polynomials.specs.Order.{grevlex, blocks}
use Rattle.machines.specs.Collect.{collect}
use Rattle.poly.specs.Seen.{terms_in, terms_each}
use Rattle.algebra.proofs.Growing.{grown_behind}
use Rattle.algebra.proofs.Lists.{have_more}
use Rattle.rounds.specs.Form.{front, relations}
use Rattle.task_lists.specs.Blocks.{Blocked}
use Rattle.task_lists.proofs.Elements.{relations_count}
use Rattle.task_lists.proofs.placed.push_relations.Goals as goal

pub loop-place-init : goal.loop-place-init
loop-place-init c = record { list = sym (append-nil _); block = λ b. b }

pub loop-place-preserved : goal.loop-place-preserved
loop-place-preserved c =
    let p = c.in_ok-placed_relation.field-0 in
    let n = front c.args.numbers + c.args.copies in
    let i = c.loop-place.place in
    let all = relations c.args.numbers (c.args.copies + c.args.variables) in
    let count = relations_count c.args.numbers (c.args.copies + c.args.variables) in
    let within : i < length all = omega (arith, count, c.loop-place-test.true) in
    record {
      list = grown_behind (λ (q : Blocked). terms_in q)
          (collect rationals (blocks n grevlex grevlex)) _ all i _ _ _ p within
          (get_or_default all i [] (get_or all i []) within) c.in_ok-push.ensures.items
          c.in_ok-placed_relation.ensures.relation c.loop-place.invariant.list;
      block = λ b. have_more (λ (q : Blocked). (q.order.first ≡ n)
          × (q.arity ≡ n + c.args.variables)) _ _ p c.in_ok-push.ensures.items
          (c.loop-place.invariant.block b) c.in_ok-placed_relation.ensures.block;
    }

pub returns-clause-list : goal.returns-clause-list
returns-clause-list c =
    let count = relations_count c.args.numbers (c.args.copies + c.args.variables) in
    c.loop-place.invariant.list ∙ ap (λ l. terms_each c.args.gens.now.items ++ map
    (collect rationals (blocks (front c.args.numbers + c.args.copies) grevlex grevlex)) l)
    (take_all _ _ (omega (arith, count, c.loop-place-test.false)))

pub returns-clause-block : goal.returns-clause-block
returns-clause-block c = c.loop-place.invariant.block
