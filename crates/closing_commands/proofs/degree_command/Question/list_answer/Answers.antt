use Rattle.closing.specs.LoopMaps.{program_in}
use Rattle.closing_commands.proofs.DegreeTold.{list_told, list_begun}
use Rattle.closing_commands.proofs.degree_command.Question.list_answer.Goals as goal

pub returns-in_err-append-clause-searched : goal.returns-in_err-append-clause-searched
returns-in_err-append-clause-searched c =
    list_begun (program_in c.args.self.now.loop_maps) c.args.self.now.degree
    c.args.self.now.budget.units c.args.meter.now
    c.append.new.meter c.append.ensures.limit c.args.finding c.requires.found c.append.ensures.begun

pub returns-clause-answer : goal.returns-clause-answer
returns-clause-answer c =
    list_told (program_in c.args.self.now.loop_maps) c.args.self.now.degree
    c.args.self.now.budget.units c.args.meter.now
    c.append.new.meter c.append.ensures.limit c.args.finding c.requires.found c.requires.free
    c.in_ok-append.ensures.entries c.names.result.now c.names.ensures.names c.deref.result.now
    c.deref.ensures.value c.basis_answer.result c.basis_answer.ensures.answer
    c.basis_answer.ensures.read_back

pub returns-clause-searched : goal.returns-clause-searched
returns-clause-searched c =
    list_begun (program_in c.args.self.now.loop_maps) c.args.self.now.degree
    c.args.self.now.budget.units c.args.meter.now
    c.append.new.meter c.append.ensures.limit c.args.finding c.requires.found c.append.ensures.begun
