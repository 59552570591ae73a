use Rattle.loop_model.proofs.BranchMaps.{inside_seen}
use Rattle.cert_checker.specs.FullJudge.{terms_by, branch_by}
use Rattle.cert_checker.proofs.PartTotals.{several_next, several_beyond}
use Rattle.cert_checker.proofs.full_judge.FullJudge.count_round.Goals as goal

pub returns-in-Err-clause-beyond : goal.returns-in-Err-clause-beyond
returns-in-Err-clause-beyond c =
    let j = c.args.self.now in
    several_beyond (terms_by j) (branch_by j c.args.round) _ _ c.loop-branch.invariant _
    (inside_seen _ _ _ _
    c.branches-branch-end.ensures.branches c.loop-branch-test.true) c.in-Err.ensures.beyond

pub loop-branch-preserved : goal.loop-branch-preserved
loop-branch-preserved c =
    let j = c.args.self.now in
    several_next (terms_by j) (branch_by j c.args.round) _ _ c.loop-branch.invariant c.in-Ok.more
    c.in-Ok.ensures.total

pub count_branch-requires-clause-branch : goal.count_branch-requires-clause-branch
count_branch-requires-clause-branch c = inside_seen _ _ _ _
    c.branches-branch-end.ensures.branches c.loop-branch-test.true
