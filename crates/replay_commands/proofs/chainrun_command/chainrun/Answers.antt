use Rattle.std.proofs.Common.{rules, refl, map, string_bytes}
use Rattle.io_edge.specs.Change.{◌⟶◌}
use Rattle.io_edge.proofs.Going.{obeys, obeys_nothing, obeys_without}
use Rattle.replay_commands.specs.ChainrunArguments.{request_in}
use Rattle.replay_commands.specs.ChainrunCourse.{course}
use Rattle.replay_commands.specs.ChainrunViews.{view}
use Rattle.replay_commands.proofs.chainrun_command.chainrun.Goals as goal

pub returns-in-Ok-Some : goal.returns-in-Ok-Some
returns-in-Ok-Some g c m =
    obeys course (request_in (map string_bytes c.args.arguments.now)) (view c.in-Ok-Some.request) _
    (m ⟶ m) c.answer_to.result c.reply.result (search rules) (c.answer_to.ensures m) c.reply.ensures

pub returns-in-Ok-None : goal.returns-in-Ok-None
returns-in-Ok-None g c m =
    obeys_nothing course (request_in (map string_bytes c.args.arguments.now)) _ m
    (search rules) refl refl

pub returns-in-Err : goal.returns-in-Err
returns-in-Err g c m =
    obeys_without course (request_in (map string_bytes c.args.arguments.now)) _ m c.in-Err.e
    (search rules) refl refl
