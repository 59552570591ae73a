use Rattle.std.proofs.Common.{rules, refl, map, string_bytes}
use Rattle.io_edge.proofs.Going.{obeys, obeys_nothing}
use Rattle.command_parts.specs.FileRequests.{request_in}
use Rattle.certificate_commands.specs.FullCourse.{course}
use Rattle.command_parts.specs.FileViews.{view}
use Rattle.certificate_commands.proofs.full_command.full.Goals as goal

pub returns-in-Some : goal.returns-in-Some
returns-in-Some g c =
    obeys course (request_in (map string_bytes c.args.arguments.now))
    (view c.in-Some.request) _ _ c.answer_to.result c.reply.result (search rules)
    c.answer_to.ensures c.reply.ensures

pub returns-in-None : goal.returns-in-None
returns-in-None g c =
    obeys_nothing course (request_in (map string_bytes c.args.arguments.now)) _ _
    (search rules) refl refl
