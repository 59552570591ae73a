use Rattle.closing.specs.LoopMaps.{program_in}
use Rattle.closing_commands.proofs.DegreeTold.{proof_told, proof_begun}
use Rattle.closing_commands.proofs.degree_command.Question.proof_answer.Goals as goal

pub returns-in_err-append-clause-searched : goal.returns-in_err-append-clause-searched
returns-in_err-append-clause-searched c =
    proof_begun (program_in c.args.self.now.loop_maps) c.args.self.now.degree
    c.args.self.now.budget.units c.args.meter.now
    c.append.new.meter c.append.ensures.limit c.args.finding c.requires.found
    c.certificate_answer-answer.new.meter c.deref.result.now c.deref.ensures.value
    c.deref-2.result.now c.deref-2.ensures.value c.certificate_answer-answer.ensures.begun
    c.append.ensures.begun

pub returns-clause-answer : goal.returns-clause-answer
returns-clause-answer c =
    proof_told (program_in c.args.self.now.loop_maps) c.args.self.now.degree
    c.args.self.now.budget.units c.args.meter.now
    c.append.new.meter c.append.ensures.limit c.args.finding c.requires.found
    c.certificate_answer-answer.new.meter c.deref.result.now c.deref.ensures.value
    c.deref-2.result.now c.deref-2.ensures.value c.certificate_answer-answer.ensures.limit
    c.requires.free c.in_ok-append.ensures.entries c.certificate_answer-answer.result
    c.certificate_answer-answer.ensures.answer

pub returns-clause-searched : goal.returns-clause-searched
returns-clause-searched c =
    proof_begun (program_in c.args.self.now.loop_maps) c.args.self.now.degree
    c.args.self.now.budget.units c.args.meter.now
    c.append.new.meter c.append.ensures.limit c.args.finding c.requires.found
    c.certificate_answer-answer.new.meter c.deref.result.now c.deref.ensures.value
    c.deref-2.result.now c.deref-2.ensures.value c.certificate_answer-answer.ensures.begun
    c.append.ensures.begun
