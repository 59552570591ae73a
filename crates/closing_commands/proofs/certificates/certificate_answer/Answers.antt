use Rattle.poly.specs.Seen.{terms_each}
use Rattle.closing.specs.LoopMaps.{program_in}
use Rattle.closing_commands.proofs.ProvedTold.{polynomials_over, proved_answered, proved_begun, unproved_answered, unproved_begun}
use Rattle.closing_commands.proofs.certificates.certificate_answer.Goals as goal

pub returns-in-Ok-clause-answer : goal.returns-in-Ok-clause-answer
returns-in-Ok-clause-answer c =
    let l = program_in c.args.loop_maps.now in
    proved_answered l (terms_each c.args.polynomials.now) (terms_each c.args.list.now)
    c.proof_of.new.meter (polynomials_over _ c.args.polynomials.now c.requires.over)
    c.names.result.now c.names.ensures.names c.in-Ok.proof c.in-Ok.ensures.proof
    c.in-Ok.ensures.fits c.args.budget.units c.proof_answer.result c.proof_answer.ensures.answer
    c.proof_answer.ensures.read_back

pub returns-in-Ok-clause-begun : goal.returns-in-Ok-clause-begun
returns-in-Ok-clause-begun c =
    proved_begun (program_in c.args.loop_maps.now) (terms_each c.args.polynomials.now)
    (terms_each c.args.list.now) c.proof_of.new.meter c.in-Ok.proof c.in-Ok.ensures.proof

pub returns-in-Err-clause-answer : goal.returns-in-Err-clause-answer
returns-in-Err-clause-answer c =
    unproved_answered (program_in c.args.loop_maps.now) (terms_each c.args.polynomials.now)
    (terms_each c.args.list.now) c.proof_of.new.meter c.args.budget.units c.proving_refusal.result
    c.in-Err.error c.in-Err.ensures.unproved c.proving_refusal.ensures

pub returns-in-Err-clause-begun : goal.returns-in-Err-clause-begun
returns-in-Err-clause-begun c =
    unproved_begun (program_in c.args.loop_maps.now) (terms_each c.args.polynomials.now)
    (terms_each c.args.list.now) c.proof_of.new.meter c.in-Err.error c.in-Err.ensures.unproved
