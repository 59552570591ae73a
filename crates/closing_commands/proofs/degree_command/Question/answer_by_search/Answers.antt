use Rattle.std.proofs.Common.{sym, ap, subst, ◌∙◌}
use Rattle.std.specs.Prelude.{IfOk}
use Rattle.machines.specs.Journal.{Journal}
use Rattle.closing.specs.LoopMaps.{program_in}
use Rattle.io_edge.specs.Views.{answer_view}
use Rattle.closing_commands.specs.Degrees.{Searches, HasSearched}
use Rattle.closing_commands.proofs.DegreeTold.{begun_told, stopped_answer, is_found, lead_over}
use Rattle.closing_commands.proofs.degree_command.Question.answer_by_search.Goals as goal

pub list_answer-requires-clause-found : goal.list_answer-requires-clause-found
list_answer-requires-clause-found c =
    is_found (program_in c.args.self.now.loop_maps) c.args.self.now.degree
    c.args.self.now.budget.units c.search.new.meter
    (c.search.ensures.limit ∙ ap (λ (j : Journal). j.limit) c.requires.opened) c.in-Ok.finding
    c.in-Ok.ensures.finds c.in-Ok.ensures.fits c.in-Ok.ensures.reduced c.in-Ok.ensures.many

pub proof_answer-requires-clause-found : goal.proof_answer-requires-clause-found
proof_answer-requires-clause-found c =
    is_found (program_in c.args.self.now.loop_maps) c.args.self.now.degree
    c.args.self.now.budget.units c.search.new.meter
    (c.search.ensures.limit ∙ ap (λ (j : Journal). j.limit) c.requires.opened) c.in-Ok.finding
    c.in-Ok.ensures.finds c.in-Ok.ensures.fits c.in-Ok.ensures.reduced c.in-Ok.ensures.many

pub returns-in-Basis-clause-answer : goal.returns-in-Basis-clause-answer
returns-in-Basis-clause-answer c =
    subst
    (λ ev. IfOk c.list_answer.result (λ a. Searches (program_in c.args.self.now.loop_maps)
    c.args.self.now.degree c.list_answer.new.meter ev c.args.self.now.budget.units
    (answer_view a))) (sym c.in-Basis.is) c.list_answer.ensures.answer

pub returns-in-Basis-clause-searched : goal.returns-in-Basis-clause-searched
returns-in-Basis-clause-searched c =
    subst
    (λ ev. HasSearched (program_in c.args.self.now.loop_maps) c.args.self.now.degree
    c.list_answer.new.meter ev c.args.self.now.budget.units) (sym c.in-Basis.is)
    c.list_answer.ensures.searched

pub search_refusal-requires : goal.search_refusal-requires
search_refusal-requires c =
    lead_over (program_in c.args.self.now.loop_maps) c.args.self.now.degree
    c.search.new.meter.limit c.search.new.meter.entries c.in-Err.error c.in-Err.ensures.stopped
    c.names-names.result.now c.names-names.ensures.names

pub returns-in-Err-clause-answer : goal.returns-in-Err-clause-answer
returns-in-Err-clause-answer c =
    stopped_answer (program_in c.args.self.now.loop_maps) c.args.self.now.degree
    c.search.new.meter c.args.self.now.budget.units
    (c.search.ensures.limit ∙ ap (λ (j : Journal). j.limit) c.requires.opened)
    c.args.self.now.evidence c.requires.free c.names-names.result.now c.names-names.ensures.names
    c.in-Err.error c.in-Err.ensures.stopped c.in-Err.ensures.many c.search_refusal.result
    c.search_refusal.ensures

pub returns-in-Err-clause-searched : goal.returns-in-Err-clause-searched
returns-in-Err-clause-searched c =
    begun_told (program_in c.args.self.now.loop_maps) c.args.self.now.degree
    c.search.new.meter c.args.self.now.budget.units
    (c.search.ensures.limit ∙ ap (λ (j : Journal). j.limit) c.requires.opened)
    c.args.self.now.evidence c.in-Err.ensures.begun
