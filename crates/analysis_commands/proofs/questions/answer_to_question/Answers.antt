use Rattle.std.proofs.Common.{ap, ◌∙◌}
use Rattle.loop_model.specs.View.{program_of}
use Rattle.machines.specs.Journal.{Journal}
use Rattle.poly.specs.Seen.{terms_in}
use Rattle.analysis_commands.proofs.BasisAnswers.{finds_of, has_analysed, refused_named}
use Rattle.analysis_commands.proofs.MemberAnswers.{unanalysed_said, analysed_asked}
use Rattle.analysis_commands.proofs.questions.answer_to_question.Goals as goal

pub answer_by_division-requires-clause-limit : goal.answer_by_division-requires-clause-limit
answer_by_division-requires-clause-limit c =
    c.in-Ok.ensures.limit ∙ ap (λ (j : Journal). j.limit) c.open.ensures

pub answer_by_division-requires-clause-found : goal.answer_by_division-requires-clause-found
answer_by_division-requires-clause-found c =
    let h = c.in-Ok.ensures in
    finds_of (program_of c.args.lp.now) c.analyse.new.meter c.in-Ok.found h.free h.forms h.closed
    h.rounds h.basis

pub answer_to_refusal-requires : goal.answer_to_refusal-requires
answer_to_refusal-requires c =
    refused_named (program_of c.args.lp.now) c.open.new.self c.analyse.new.meter c.in-Err.error
    c.names.result.now c.names.ensures.names c.in-Err.ensures.refused

pub returns-in-Err-clause-answer : goal.returns-in-Err-clause-answer
returns-in-Err-clause-answer c =
    unanalysed_said (program_of c.args.lp.now) (terms_in c.args.p.now) c.args.budget.units
    c.open.new.self c.analyse.new.meter c.open.ensures c.in-Err.ensures.limit
    c.answer_to_refusal.result c.names.result.now c.names.ensures.names c.in-Err.error
    c.in-Err.ensures.refused c.answer_to_refusal.ensures

pub returns-in-Err-clause-asked : goal.returns-in-Err-clause-asked
returns-in-Err-clause-asked c =
    let l = program_of c.args.lp.now in
    analysed_asked l (terms_in c.args.p.now) c.args.budget.units c.analyse.new.meter
    (has_analysed l c.args.budget.units c.open.new.self c.analyse.new.meter c.open.ensures
    c.in-Err.ensures.limit c.in-Err.ensures.follows)
