use Rattle.std.proofs.Common.{ap}
use Rattle.std.proofs.lemmas.Result.{IfOk-weaker}
use Rattle.machines.specs.Journal.{Journal}
use Rattle.loop_model.specs.View.{program_of}
use Rattle.io_edge.specs.Views.{answer_view}
use Rattle.closing_commands.proofs.DegreeTold.{map_told, none_begun, begun_told}
use Rattle.closing_commands.proofs.degree_command.answer_by_maps.Goals as goal

pub returns-in-Err-clause-answer : goal.returns-in-Err-clause-answer
returns-in-Err-clause-answer c =
    IfOk-weaker c.map_refusal.result _ _
    (λ a says. map_told (program_of c.args.lp.now) c.args.degree c.open.new.self
    c.args.budget.units (ap (λ (j : Journal). j.limit) c.open.ensures) c.args.evidence
    (ap (λ (j : Journal). j.entries) c.open.ensures) c.in-Err.error c.in-Err.ensures.stops
    (answer_view a) says) c.map_refusal.ensures

pub returns-in-Err-clause-searched : goal.returns-in-Err-clause-searched
returns-in-Err-clause-searched c =
    begun_told (program_of c.args.lp.now) c.args.degree c.open.new.self c.args.budget.units
    (ap (λ (j : Journal). j.limit) c.open.ensures) c.args.evidence
    (none_begun (program_of c.args.lp.now) c.args.degree c.open.new.self.entries
    (ap (λ (j : Journal). j.entries) c.open.ensures))
