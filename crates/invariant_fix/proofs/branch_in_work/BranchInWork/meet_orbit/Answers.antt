use Rattle.std.proofs.Common.{sym, subst, arith}
use Rattle.std.proofs.lemmas.Result.{IfOk-weaker, err_from_is_err_and}
use Rattle.poly.specs.Seen.{terms_each}
use Rattle.invariant_fix.specs.InWork.{KnowsIterations, Awaits, meeting}
use Rattle.invariant_fix.proofs.Lists.{known_later, known_more, iterations_few}
use Rattle.invariant_fix.proofs.Branching.{meet_due, met_done}
use Rattle.invariant_fix.proofs.branch_in_work.BranchInWork.meet_orbit.Goals as goal

pub returns-in_err-next-clause-err : goal.returns-in_err-next-clause-err
returns-in_err-next-clause-err c =
    let p = err_from_is_err_and c.from_residual.result c.from_residual.ensures.1 in
    rw (p.1, p.2) (c.in_err-next.ensures.err (terms_each c.args.so_far.now) c.requires.next)

pub meet_with_orbit-requires-clause-so_far : goal.meet_with_orbit-requires-clause-so_far
meet_with_orbit-requires-clause-so_far c =
    known_later _ _ c.requires.so_far c.in_ok-next.ensures.units

pub meet_with_orbit-requires-clause-next : goal.meet_with_orbit-requires-clause-next
meet_with_orbit-requires-clause-next c =
    let a = c.args.self.now.setting.now.arity in
    subst (KnowsIterations c.args.self.now 12 c.orbit.new.meter) (sym c.deref.ensures.value)
    (known_more a _ _ _ c.in_ok-next.ensures.list
    (let z = iterations_few a 1 (omega arith) in omega (arith, z)))

pub meet_with_orbit-requires-clause-due : goal.meet_with_orbit-requires-clause-due
meet_with_orbit-requires-clause-due c =
    let w = c.args.self.now in
    subst (λ hs. Awaits w c.orbit.new.meter (meeting w c.args.so_far.now hs))
    (sym c.deref.ensures.value)
    (meet_due w c.orbit.new.meter c.args.so_far.now c.in_ok-next.next.items c.requires.meets
    (c.in_ok-next.ensures.next (terms_each c.args.so_far.now) c.requires.next))

pub returns-clause-next : goal.returns-clause-next
returns-clause-next c =
    IfOk-weaker c.meet_with_orbit.result _ _
    (λ ls h. met_done c.args.self.now c.meet_with_orbit.new.meter c.args.so_far.now
    c.deref.result.now ls.items h) c.meet_with_orbit.ensures.met
