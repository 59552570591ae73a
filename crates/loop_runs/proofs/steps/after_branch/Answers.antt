use Rattle.std.proofs.Common.{◌∙◌, sym, map}
use Rattle.std.proofs.lemmas.Result.{err_from_is_err_and}
use Rattle.std.proofs.lemmas.List.{at_drop_all}
use Rattle.loop_model.specs.Parts.{statement_of}
use Rattle.loop_runs.specs.Replay.{branch_end}
use Rattle.loop_runs.specs.Seen.{numbers_of}
use Rattle.loop_runs.proofs.steps.after_branch.Goals as goal
use Rattle.loop_runs.proofs.Iterations.{passes_on, drop_read, branch_more, branch_stops}

pub returns-in_err-state-clause-end : goal.returns-in_err-state-clause-end
returns-in_err-state-clause-end c =
    let d = drop_read c.args.branch.now c.loop-statement.statement-index c.statement-item.result
    c.loop-statement-test.true c.statement-item.is in
    let left = rw d at c.loop-statement.invariant.left in
    let p = err_from_is_err_and c.from_residual.result c.from_residual.ensures.1 in
    rw (p.1, p.2) (passes_on c.in_err-state.field-0.0 _ _ c.in_err-state.ensures.end (λ f e.
    sym (left ∙ branch_stops _ _ _ _ f e)))

pub loop-statement-preserved : goal.loop-statement-preserved
loop-statement-preserved c =
    let d = drop_read c.args.branch.now c.loop-statement.statement-index c.statement-item.result
    c.loop-statement-test.true c.statement-item.is in
    let left = rw d at c.loop-statement.invariant.left in
    record {
      left = left ∙ branch_more _ _ _ _ _ c.in_ok-state.ensures.end;
      len = c.in_ok-state.ensures.len ∙ c.loop-statement.invariant.len;
    }

pub returns-clause-end : goal.returns-clause-end
unfolding branch_end
returns-clause-end c = sym (c.loop-statement.invariant.left
    ∙ at_drop_all (λ cs. branch_end c.args.step (map statement_of cs)
    (numbers_of c.loop-statement.state.items)) c.args.branch.now
    c.loop-statement.statement-index c.loop-statement-test.false)
