use Rattle.std.proofs.Common.{◌∙◌, ap}
use Rattle.loops.specs.Program.{Expr, Program}
use Rattle.std.specs.Prelude.{ℕ}
use Rattle.loop_runs.specs.ChainSeen.{chain_in}
use Rattle.analysis_commands.proofs.ChainAnswers.{bases_over, found_said, found_analysed, refused_said, refused_analysed, refused_named}
use Rattle.analysis_commands.proofs.chain_analysis.answer_to_chain.Goals as goal

pub found_answer-requires : goal.found_answer-requires
found_answer-requires c =
    rw c.deref.ensures.value (bases_over (chain_in c.args.chain.now) c.args.budget.units
    c.analyse_chain.new.meter
    c.in-Ok.bases.items c.in-Ok.ensures.bases c.in-Ok.ensures.last c.names.result.now
    (c.names.ensures.names ∙ ap (λ (p : Program (Expr ℕ)). p.names) c.first.ensures))

pub answer_to_refused-requires : goal.answer_to_refused-requires
answer_to_refused-requires c =
    refused_named (chain_in c.args.chain.now) c.args.budget.units c.analyse_chain.new.meter
    c.in-Err.refused c.in-Err.ensures.refused c.names-in-Err.result.now
    (c.names-in-Err.ensures.names ∙ ap (λ (p : Program (Expr ℕ)). p.names) c.first-in-Err.ensures)

pub returns-in-Ok-clause-answer : goal.returns-in-Ok-clause-answer
returns-in-Ok-clause-answer c =
    found_said (chain_in c.args.chain.now) c.args.budget.units c.analyse_chain.new.meter
    c.in-Ok.bases.items c.in-Ok.ensures.bases c.in-Ok.ensures.last c.found_answer.result
    c.names.result.now
    (c.names.ensures.names ∙ ap (λ (p : Program (Expr ℕ)). p.names) c.first.ensures)
    (rw c.deref.ensures.value at c.found_answer.ensures.text)
    (rw c.deref.ensures.value at c.found_answer.ensures.read_back)

pub returns-in-Ok-clause-analysed : goal.returns-in-Ok-clause-analysed
returns-in-Ok-clause-analysed c =
    found_analysed (chain_in c.args.chain.now) c.args.budget.units c.analyse_chain.new.meter
    c.in-Ok.bases.items c.in-Ok.ensures.bases c.in-Ok.ensures.last

pub returns-in-Err-clause-answer : goal.returns-in-Err-clause-answer
returns-in-Err-clause-answer c =
    refused_said (chain_in c.args.chain.now) c.args.budget.units c.analyse_chain.new.meter
    c.in-Err.refused c.in-Err.ensures.refused c.answer_to_refused.result c.names-in-Err.result.now
    (c.names-in-Err.ensures.names ∙ ap (λ (p : Program (Expr ℕ)). p.names) c.first-in-Err.ensures)
    c.answer_to_refused.ensures

pub returns-in-Err-clause-analysed : goal.returns-in-Err-clause-analysed
returns-in-Err-clause-analysed c =
    refused_analysed (chain_in c.args.chain.now) c.args.budget.units c.analyse_chain.new.meter
    c.in-Err.refused c.in-Err.ensures.refused
