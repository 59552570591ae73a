use Rattle.std.proofs.Common.{rules}
use Rattle.loop_model.specs.View.{program_of}
use Rattle.loop_model.proofs.Formed.{formed}
use Rattle.poly.specs.Seen.{terms_in}
use Rattle.analysis_commands.proofs.MemberAnswers.{basis_arity, cofactors_arity, told_said, undivided_said, divided_asked}
use Rattle.analysis_commands.proofs.questions.answer_by_division.Goals as goal

pub member-requires : goal.member-requires
member-requires c = record {
  arity = basis_arity (program_of c.args.lp.now) c.args.meter.now c.args.found.now.basis.items
      c.args.p.now.arity c.requires.arity c.requires.found;
}

pub membership_answer-requires : goal.membership_answer-requires
membership_answer-requires c =
    cofactors_arity (program_of c.args.lp.now) c.args.p.now.arity c.names.result.now c.in-Ok.answer
    c.requires.arity c.names.ensures.names c.in-Ok.ensures.cofactors

pub returns-in-Ok-clause-answer : goal.returns-in-Ok-clause-answer
returns-in-Ok-clause-answer c =
    let l = program_of c.args.lp.now in
    let f = c.requires.found in
    let h = c.in-Ok.ensures in
    told_said l (terms_in c.args.p.now) c.args.budget c.args.meter.now c.member.new.meter
    c.requires.limit c.member.ensures.limit c.args.found.now.basis.items f
    c.membership_answer.result c.names.result.now c.names.ensures.names c.in-Ok.answer
    (h.answered l f.rounds f.finished) h.ok h.sum
    (h.invariant l f.rounds (formed c.args.lp.now) c.requires.arity f.finished)
    c.membership_answer.ensures

pub returns-in-Ok-clause-asked : goal.returns-in-Ok-clause-asked
returns-in-Ok-clause-asked c =
    divided_asked (program_of c.args.lp.now) (terms_in c.args.p.now) c.args.budget c.args.meter.now
    c.member.new.meter c.requires.limit c.member.ensures.limit c.args.found.now.basis.items
    c.requires.found c.member.ensures.work

pub returns-in-Err-clause-answer : goal.returns-in-Err-clause-answer
returns-in-Err-clause-answer c =
    undivided_said (program_of c.args.lp.now) (terms_in c.args.p.now) c.args.budget
    c.args.meter.now c.member.new.meter c.requires.limit c.member.ensures.limit
    c.args.found.now.basis.items c.requires.found c.division_refusal.result c.in-Err.error
    (search rules) (search rules) c.division_refusal.ensures

pub returns-in-Err-clause-asked : goal.returns-in-Err-clause-asked
returns-in-Err-clause-asked c =
    divided_asked (program_of c.args.lp.now) (terms_in c.args.p.now) c.args.budget c.args.meter.now
    c.member.new.meter c.requires.limit c.member.ensures.limit c.args.found.now.basis.items
    c.requires.found c.member.ensures.work
