use Rattle.std.proofs.Common.{arith}
use Rattle.invariant_fix.proofs.Works.{since_at}
use Rattle.invariant_fix.proofs.Branching.{orbit_due}
use Rattle.invariant_fix.proofs.branch_in_work.BranchInWork.list_behind.Goals as goal

pub meet_orbit-requires-clause-next : goal.meet_orbit-requires-clause-next
meet_orbit-requires-clause-next c =
    let e = since_at c.requires.at c.index.result.now c.index.ensures in
    let l = c.if-index-lt2.true in
    orbit_due c.args.self.now c.args.meter.now _ (omega (arith, e, l)) c.requires.next
