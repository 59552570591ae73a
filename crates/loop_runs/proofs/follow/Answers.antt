use Rattle.std.proofs.Common.{ap, length, ◌≡◌, ◌≤◌, ◌∙◌, arith}
use Rattle.std.proofs.lemmas.Result.{err_from_is_err_and}
use Rattle.std.proofs.lemmas.List.Elements.{same_from_all_zip, All-push}
use Rattle.std.proofs.lemmas.List.{drop_more, drop_all, map_push}
use Rattle.loop_model.specs.View.{program_of}
use Rattle.loop_runs.proofs.follow.Goals as goal
use Rattle.loop_runs.proofs.Iterations.{passes_on, states_more, states_stop, states_no_branch, states_end}

pub returns-in_default-clause-follows : goal.returns-in_default-clause-follows
returns-in_default-clause-follows c =
    let left = rw (drop_more c.args.word.now c.loop-index.index 0 c.loop-index-test.true) at
    c.loop-index.invariant.left in
    states_no_branch (program_of c.args.lp.now) _ _ _ _ _ _ left c.in_default.ensures.branch

pub returns-in_err-state-2-clause-follows : goal.returns-in_err-state-2-clause-follows
returns-in_err-state-2-clause-follows c =
    let size = c.loop-index.invariant.len in
    let locals = c.len.ensures.len ∙ ap length c.locals.ensures.locals in
    let left = rw (drop_more c.args.word.now c.loop-index.index 0 c.loop-index-test.true) at
    c.loop-index.invariant.left in
    let p = err_from_is_err_and c.from_residual-in_err-state-2.result
    c.from_residual-in_err-state-2.ensures.1 in
    rw (p.1, p.2) (passes_on c.in_err-state-2.field-0.0 _ _
    (rw (size, locals) at c.in_err-state-2.ensures.end) (λ f e.
    states_stop (program_of c.args.lp.now) _ _ _ _ _ _ _ f left c.in-Some.ensures.branch e))

pub loop-index-preserved : goal.loop-index-preserved
loop-index-preserved c =
    let size = c.loop-index.invariant.len in
    let locals = c.len.ensures.len ∙ ap length c.locals.ensures.locals in
    let left = rw (drop_more c.args.word.now c.loop-index.index 0 c.loop-index-test.true) at
    c.loop-index.invariant.left in
    let same : c.in_ok-clone.field-0.items ≡ c.loop-index.state.items =
    same_from_all_zip _ _ _ c.in_ok-clone.ensures.cases.0 (λ x y h. h) in
    let more = states_more (program_of c.args.lp.now) _ _ _ _ _ _ _ _ left c.in-Some.ensures.branch
    (rw (size, locals) at c.in_ok-state-2.ensures.end) in
    record {
      left = rw (c.in_ok-push.ensures.items, map_push, same) more;
      len = c.in_ok-state-2.ensures.len ∙ c.loop-index.invariant.len;
      sizes = rw c.in_ok-push.ensures.items
          (All-push (λ s. length s.items ≡ length (program_of c.args.lp.now).names)
          c.loop-index.states.items c.in_ok-clone.field-0 c.loop-index.invariant.sizes
          (ap length same ∙ c.loop-index.invariant.len));
    }

pub returns-clause-follows : goal.returns-clause-follows
returns-clause-follows c =
    let left = rw (drop_all c.loop-index.index c.args.word.now c.loop-index-test.false) at
    c.loop-index.invariant.left in
    rw (c.in_ok-push-2.ensures.items, map_push) (states_end (program_of c.args.lp.now) _ _ _ _ left)

pub after_iteration-requires-clause-few : goal.after_iteration-requires-clause-few
after_iteration-requires-clause-few c =
    let size = c.loop-index.invariant.len in
    let locals = c.len.ensures.len ∙ ap length c.locals.ensures.locals in
    let few : length c.args.lp.now.names ≤ 12 = c.args.lp.now.few_names in
    let least : length c.args.lp.now.locals ≤ 12 = c.args.lp.now.few_locals in
    omega (arith, size, locals, few, least)

pub after_iteration-requires-clause-statements : goal.after_iteration-requires-clause-statements
after_iteration-requires-clause-statements c =
    let size = c.loop-index.invariant.len in
    let locals = c.len.ensures.len ∙ ap length c.locals.ensures.locals in
    rw (size, locals) c.in-Some.ensures.statements

pub returns-in_err-state-2-clause-within : goal.returns-in_err-state-2-clause-within
returns-in_err-state-2-clause-within c =
    let size = c.loop-index.invariant.len in
    let locals = c.len.ensures.len ∙ ap length c.locals.ensures.locals in
    let p = err_from_is_err_and c.from_residual-in_err-state-2.result
    c.from_residual-in_err-state-2.ensures.1 in
    rw (p.1, p.2) (rw (size, locals) at c.in_err-state-2.ensures.within)
