use Rattle.loop_runs.proofs.laws.refusals_are_no_runs.Goals as goal
use Rattle.loop_runs.proofs.Runs.{count_refused, start_refused, branch_refused}

pub returns-clause-count : goal.returns-clause-count
returns-clause-count c s = λ program state word values variables h. count_refused program state word
    values variables h

pub returns-clause-start : goal.returns-clause-start
returns-clause-start c s = λ program state word var h. start_refused program state word var h

pub returns-clause-no_branch : goal.returns-clause-no_branch
returns-clause-no_branch c s = λ program state word index h. branch_refused program state word index
    h
