use Rattle.std.proofs.Common.{rules, refl, map, string_bytes}
use Rattle.io_edge.proofs.Going.{obeys, obeys_nothing}
use Rattle.analysis_commands.specs.MemberArguments.{request_in}
use Rattle.analysis_commands.specs.MemberCourse.{course}
use Rattle.analysis_commands.specs.MemberViews.{view}
use Rattle.analysis_commands.proofs.member_command.member.Goals as goal

pub returns-in-Some : goal.returns-in-Some
returns-in-Some g c =
    obeys (course c.args.meter.now) (request_in (map string_bytes c.args.arguments.now))
    (view c.in-Some.request) _ _ c.answer_to.result c.reply.result (search rules)
    c.answer_to.ensures c.reply.ensures

pub returns-in-None : goal.returns-in-None
returns-in-None g c =
    obeys_nothing (course c.args.meter.now) (request_in (map string_bytes c.args.arguments.now)) _ _
    (search rules) refl refl
