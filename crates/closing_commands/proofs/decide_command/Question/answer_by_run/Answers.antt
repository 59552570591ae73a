use Rattle.std.proofs.Common.{ap, ◌∙◌, rules}
use Rattle.std.proofs.lemmas.Result.{IfOk-weaker}
use Rattle.frac128.specs.FracMeaning.{fraction_of}
use Rattle.poly.specs.Seen.{terms_in}
use Rattle.counter_run.specs.Answers.{states_of}
use Rattle.io_edge.specs.Views.{answer_view}
use Rattle.closing.specs.LoopMaps.{program_in}
use Rattle.closing_commands.proofs.DecideTold.{run_found, run_told}
use Rattle.closing_commands.proofs.decide_command.Question.answer_by_run.Goals as goal

pub returns-in-Ok-Run : goal.returns-in-Ok-Run
returns-in-Ok-Run c =
    let l = program_in c.args.self.now.loop_maps in
    let p = terms_in c.args.self.now.polynomial in
    let w = c.args.counter.candidate.word.items in
    let run = run_found l p w c.in-Ok-Run.field-0 c.in-Ok-Run.word c.in-Ok-Run.states
    c.in-Ok-Run.value (search rules) c.in-Ok-Run.ensures.run in
    IfOk-weaker c.no_answer.result _ _
    (λ a says. run_told l p w c.deref.result.now c.names.result.now
    (states_of c.in-Ok-Run.states.items) (states_of c.deref-in-Ok-Run.result.now)
    (fraction_of c.in-Ok-Run.value) c.names.ensures.names (c.deref.ensures.value ∙ run.0)
    (ap states_of c.deref-in-Ok-Run.ensures.value) run.1 (answer_view a) says)
    c.no_answer.ensures
