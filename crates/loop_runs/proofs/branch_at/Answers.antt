use Rattle.std.proofs.Common.{arith}
use Rattle.loop_runs.proofs.branch_at.Goals as goal
use Rattle.loop_runs.proofs.Fits.{no_branch_zero, no_branch_past, branch_here, statements_here}
use Rattle.loop_model.specs.View.{program_of}

pub returns-in_err-index-clause-branch : goal.returns-in_err-index-clause-branch
returns-in_err-index-clause-branch c =
    rw c.from_residual.ensures (no_branch_zero (program_of c.args.lp.now) c.args.number
    c.in_err-index.ensures)

pub returns-in_err-branch-clause-branch : goal.returns-in_err-branch-clause-branch
returns-in_err-branch-clause-branch c =
    let i = c.in_ok-index.ensures in
    let h = c.in_err-branch.ensures.lookup in
    rw c.from_residual-in_err-branch.ensures (no_branch_past c.args.lp.now c.branches.result.now
    c.branches.ensures.branches c.args.number c.in_ok-index.index i.0 i.1 h.3)

pub returns-clause-branch : goal.returns-clause-branch
returns-clause-branch c =
    let i = c.in_ok-index.ensures in
    let h = c.in_ok-branch.ensures.lookup in
    rw c.deref.ensures.value (branch_here c.args.lp.now c.branches.result.now
    c.branches.ensures.branches c.args.number c.in_ok-index.index i.0 i.1
    c.in_ok-branch.branch.now (omega arith) h.1)

pub returns-clause-statements : goal.returns-clause-statements
returns-clause-statements c =
    let i = c.in_ok-index.ensures in
    let h = c.in_ok-branch.ensures.lookup in
    rw c.deref.ensures.value (statements_here c.args.lp.now c.branches.result.now
    c.branches.ensures.branches c.args.number c.in_ok-index.index i.0 i.1
    c.in_ok-branch.branch.now (omega arith) h.1)
