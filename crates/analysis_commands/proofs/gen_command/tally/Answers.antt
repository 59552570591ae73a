use Rattle.std.proofs.Common.{rules, refl, map, string_bytes}
use Rattle.io_edge.specs.Change.{◌⟶◌}
use Rattle.io_edge.proofs.Going.{obeys, obeys_nothing, at_end, replied}
use Rattle.analysis_commands.specs.Counting.{HasCounted, AnswersFamily}
use Rattle.analysis_commands.specs.GenArguments.{request_in}
use Rattle.analysis_commands.specs.GenCourse.{course}
use Rattle.analysis_commands.proofs.gen_command.tally.Goals as goal

pub returns-in-Some : goal.returns-in-Some
returns-in-Some c = λ files.
    let n = c.in-Some.number in
    let left = c.answer_to_family.new.meter in
    obeys course (request_in (map string_bytes c.args.arguments.now)) n (files ⟶ files)
    (c.args.meter.now ⟶ left) c.answer_to_family.result c.reply.result (search rules)
    (at_end (files ⟶ files) (HasCounted n) (AnswersFamily n) c.args.meter.now left _ refl refl
    c.answer_to_family.ensures.kept
    (replied c.answer_to_family.result (AnswersFamily n left) c.answer_to_family.ensures.answer))
    c.reply.ensures

pub returns-in-None : goal.returns-in-None
returns-in-None c = λ files.
    obeys_nothing course (request_in (map string_bytes c.args.arguments.now)) (files ⟶ files)
    c.args.meter.now (search rules) refl refl
