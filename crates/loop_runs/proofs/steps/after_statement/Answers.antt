use Rattle.std.proofs.Common.{ap, ◌<◌, length}
use Rattle.std.proofs.lemmas.Result.{err_from_is_err_and}
use Rattle.loops.specs.WellFormed.{Uses}
use Rattle.loop_runs.specs.Replay.{and_then}
use Rattle.loop_runs.proofs.steps.after_statement.Goals as goal
use Rattle.loop_runs.proofs.Iterations.{passes_on, all_sides, after_store}

pub values_at-requires-clause-uses : goal.values_at-requires-clause-uses
values_at-requires-clause-uses c = rw (c.deref-2.ensures.value, c.deref-3.ensures.value)
    (all_sides (Uses (λ i. i < length c.args.state.items)) c.args.statement.now.values.items
    c.requires.values)

pub returns-in_err-values-clause-end : goal.returns-in_err-values-clause-end
returns-in_err-values-clause-end c =
    let p = err_from_is_err_and c.from_residual.result c.from_residual.ensures.1 in
    let k = rw (c.deref.ensures.value, c.deref-2.ensures.value, c.deref-3.ensures.value) at
    c.in_err-values.ensures.values in
    rw (p.1, p.2) (passes_on c.in_err-values.field-0.0 _ _ k (λ f e. ap (and_then _) e))

pub returns-clause-end : goal.returns-clause-end
returns-clause-end c =
    let s = rw (c.deref-4.ensures.value, c.deref-5.ensures.value, c.deref_mut.ensures.value) at
    c.store.ensures in
    let v = rw (c.deref.ensures.value, c.deref-2.ensures.value, c.deref-3.ensures.value) at
    c.in_ok-values.ensures.values in
    let l = rw c.deref_mut.ensures.value at c.deref_mut.ensures.len in
    after_store _ _ _ _ _ _ _ l v s
