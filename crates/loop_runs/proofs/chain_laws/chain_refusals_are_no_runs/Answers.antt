use Rattle.loop_runs.proofs.chain_laws.chain_refusals_are_no_runs.Goals as goal
use Rattle.loop_runs.proofs.ChainRuns.{chain_count_refused, chain_start_refused, chain_branch_refused}

pub returns-clause-count : goal.returns-clause-count
returns-clause-count g c = λ chain s words values variables many h.
    chain_count_refused chain s words many values variables h

pub returns-clause-start : goal.returns-clause-start
returns-clause-start g c = λ chain s words var many h is.
    chain_start_refused chain s words many var h is

pub returns-clause-no_branch : goal.returns-clause-no_branch
returns-clause-no_branch g c = λ chain s words index many h.
    chain_branch_refused chain s words many index h
