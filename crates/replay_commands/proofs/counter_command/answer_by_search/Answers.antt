use Rattle.std.proofs.Common.{length, ap, sym, subst}
use Rattle.loop_model.specs.View.{program_of}
use Rattle.poly.specs.Seen.{terms_in}
use Rattle.counter_run.specs.Answers.{HasSizes}
use Rattle.replay_commands.proofs.CounterTold.{told_found, told_error}
use Rattle.replay_commands.proofs.counter_command.answer_by_search.Goals as goal

pub found_answer-requires : goal.found_answer-requires
found_answer-requires c =
    subst (λ m. HasSizes m c.in-Ok.found) (ap length (sym c.names.ensures.names))
    c.in-Ok.ensures.sizes

pub returns-in-Ok : goal.returns-in-Ok
returns-in-Ok c =
    told_found (program_of c.args.lp.now) (terms_in c.args.polynomial.now) c.args.most
    c.names.result.now c.names.ensures.names c.in-Ok.ensures.free c.in-Ok.found
    c.in-Ok.ensures.found c.found_answer.result c.found_answer.ensures

pub returns-in-Err : goal.returns-in-Err
returns-in-Err c =
    told_error (program_of c.args.lp.now) (terms_in c.args.polynomial.now) c.args.most
    c.in-Err.error c.in-Err.ensures.refused c.search_refusal.result c.search_refusal.ensures
