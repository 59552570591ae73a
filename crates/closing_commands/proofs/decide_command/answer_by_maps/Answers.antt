use Rattle.std.proofs.Common.{ap}
use Rattle.std.proofs.lemmas.Result.{IfOk-weaker}
use Rattle.machines.specs.Journal.{Journal}
use Rattle.poly.specs.Seen.{terms_in}
use Rattle.loop_model.specs.View.{program_of}
use Rattle.io_edge.specs.Views.{answer_view}
use Rattle.closing_commands.proofs.DecideTold.{map_told, asked_none}
use Rattle.closing_commands.proofs.decide_command.answer_by_maps.Goals as goal

pub returns-in-Err-clause-answer : goal.returns-in-Err-clause-answer
returns-in-Err-clause-answer c =
    IfOk-weaker c.map_refusal.result _ _
    (λ a says. map_told (program_of c.args.lp.now) (terms_in c.args.polynomial)
    c.open.new.self c.args.evidence c.args.budget.units
    (ap (λ (j : Journal). j.limit) c.open.ensures)
    (ap (λ (j : Journal). j.entries) c.open.ensures) c.in-Err.error c.in-Err.ensures.stops
    (answer_view a) says) c.map_refusal.ensures

pub returns-in-Err-clause-asked : goal.returns-in-Err-clause-asked
returns-in-Err-clause-asked c =
    asked_none (program_of c.args.lp.now) (terms_in c.args.polynomial) c.open.new.self
    c.args.evidence c.args.budget.units (ap (λ (j : Journal). j.limit) c.open.ensures)
    (ap (λ (j : Journal). j.entries) c.open.ensures)
