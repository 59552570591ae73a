use Rattle.std.proofs.Common.{length, arith, sym, subst, ◌∙◌}
use Rattle.solvable.specs.Walking.{IsWalks}
use Rattle.solvable.proofs.Walks.{searching_first, searching_more, table_at, cycle_least, none_at_all}
use Rattle.solvable.proofs.cycle.least_cycle.Goals as goal

pub loop-steps-init : goal.loop-steps-init
loop-steps-init c =
    searching_first c.args.used.now.items c.args.strong.now.items (length c.args.used.now.items)
    c.push.new.self.items c.new-walks.result.items c.in_ok-walks_of_no_step.field-0
    c.new-walks.ensures.items c.in_ok-push.ensures.items
    (λ uses. subst (λ m. IsWalks uses m 0 c.in_ok-walks_of_no_step.field-0.items) (c.len.ensures
    ∙ c.args.used.now.ok.0) (c.in_ok-walks_of_no_step.ensures uses))

pub returns-in-Some : goal.returns-in-Some
returns-in-Some c =
    let m = length c.args.used.now.items in
    let t = table_at c.args.used.now.items c.args.strong.now.items m c.requires.used
    c.requires.strong c.requires.linear c.loop-steps.steps c.loop-steps.walks.items
    c.index-told.result.now c.loop-steps.invariant c.index-told.ensures in
    cycle_least c.args.used.now.items c.args.strong.now.items m c.requires.used c.requires.strong
    c.requires.linear c.loop-steps.steps c.in-Some.first c.in-Some.second
    c.loop-steps.walks.items c.index-told.result.now.items c.in_ok-cycle.cycle.items
    c.loop-steps.invariant t c.in-Some.ensures.some (c.in_ok-cycle.ensures c.loop-steps.steps
    (sym c.loop-steps.invariant.count))

pub loop-steps-preserved : goal.loop-steps-preserved
loop-steps-preserved c =
    let m = length c.args.used.now.items in
    let t = table_at c.args.used.now.items c.args.strong.now.items m c.requires.used
    c.requires.strong c.requires.linear c.loop-steps.steps c.loop-steps.walks.items
    c.index-told.result.now c.loop-steps.invariant c.index-told.ensures in
    searching_more c.args.used.now.items c.args.strong.now.items m c.requires.used c.requires.strong
    c.requires.linear c.loop-steps.steps c.loop-steps.walks.items
    c.push-in-loop-steps.new.self.items c.index-told.result.now c.in_ok-more.more
    c.in_ok-push-2.ensures.items t c.in_default.ensures.none c.in_ok-more.ensures
    c.loop-steps.invariant

pub returns : goal.returns
returns c =
    none_at_all c.args.used.now.items c.args.strong.now.items (length c.args.used.now.items)
    c.requires.used c.requires.strong c.requires.linear c.loop-steps.steps
    c.loop-steps.walks.items
    (let e = c.len-steps-end.ensures in let n = c.args.used.now.ok.0 in let f =
    c.loop-steps-test.false in omega (arith, e, n, f)) c.loop-steps.invariant
