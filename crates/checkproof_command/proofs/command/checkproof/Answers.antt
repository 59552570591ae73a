use Rattle.std.proofs.Common.{rules, refl, map, string_bytes}
use Rattle.io_edge.specs.Change.{◌⟶◌}
use Rattle.io_edge.proofs.Going.{obeys, obeys_nothing}
use Rattle.checkproof_command.specs.Arguments.{request_in}
use Rattle.checkproof_command.specs.Course.{course}
use Rattle.checkproof_command.specs.Views.{view}
use Rattle.checkproof_command.proofs.command.checkproof.Goals as goal

pub returns-in-Some : goal.returns-in-Some
returns-in-Some g c m =
    obeys course (request_in (map string_bytes c.args.arguments.now)) (view c.in-Some.request) _
    (m ⟶ m) c.answer_to.result c.reply.result (search rules) (c.answer_to.ensures m) c.reply.ensures

pub returns-in-None : goal.returns-in-None
returns-in-None g c m =
    obeys_nothing course (request_in (map string_bytes c.args.arguments.now)) _ m
    (search rules) refl refl
