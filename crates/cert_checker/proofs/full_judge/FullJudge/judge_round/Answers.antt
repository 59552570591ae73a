use Rattle.std.proofs.Common.{◌<◌, length, sym, subst, arith}
use Rattle.algebra.specs.Each.{Each}
use Rattle.loop_model.proofs.BranchMaps.{inside_seen, past_seen}
use Rattle.cert_checker.specs.FullJudge.{program_by, cert_by}
use Rattle.cert_checker.specs.InverseForm.{IsInverseForm}
use Rattle.cert_checker.specs.FullWide.{IsPastPart}
use Rattle.cert_checker.proofs.Branches.{orbit_alone, both_hold, orbit_stops, meet_stops}
use Rattle.cert_checker.proofs.Stopping.{several_hold, first_several, several_stop, passed_on}
use Rattle.cert_checker.proofs.full_judge.FullJudge.judge_round.Goals as goal
use Rattle.cert_checker.proofs.full_judge.FullJudge.judge_round.Goals.{After-index, then-branch-gt0+in_ok-judge_meet, else-branch-gt0}

-- the branch is one of the loop's
inside : (c : After-index) → c.loop-branch.branch < length (program_by c.args.self.now).branches
inside c = inside_seen _ _ _ _ c.branches-branch-end.ensures.branches c.loop-branch-test.true

pub loop-branch-init : goal.loop-branch-init
unfolding Each
loop-branch-init c = tt

pub index-requires : goal.index-requires
index-requires c =
    let l = inside_seen _ _ _ _ c.branches-branch-end.ensures.branches c.loop-branch-test.true in
    let n = c.args.back.now.ok.0 in
    omega (arith, l, n, c.requires.back.count)

pub judge_orbit-requires-clause-back : goal.judge_orbit-requires-clause-back
judge_orbit-requires-clause-back c =
    let l = inside (goal.at.judge_orbit-requires-clause-back c).After-index in
    subst (IsInverseForm (program_by c.args.self.now) c.args.self.now.cert.now c.loop-branch.branch)
    (sym c.index.ensures) (c.requires.back.each c.loop-branch.branch c.index.result.now l)

pub judge_orbit-requires-clause-branch : goal.judge_orbit-requires-clause-branch
judge_orbit-requires-clause-branch c =
    inside (goal.at.judge_orbit-requires-clause-branch c).After-index

pub judge_meet-requires-clause-branch : goal.judge_meet-requires-clause-branch
judge_meet-requires-clause-branch c =
    inside (goal.at.judge_meet-requires-clause-branch c).After-index

pub loop-branch-preserved : goal.loop-branch-preserved
loop-branch-preserved c =
    let j = c.args.self.now in
    several_hold _ _ c.loop-branch.branch c.loop-branch.invariant (elim c.if-branch-gt0.branch [
      | then-branch-gt0+in_ok-judge_meet w ↦ both_hold (program_by j) (cert_by j) c.args.round
          c.loop-branch.branch w.if-branch-gt0.true c.in_ok-judge_orbit.ensures.holds
          w.in_ok-judge_meet.ensures.holds
      | else-branch-gt0 w ↦ orbit_alone (program_by j) (cert_by j) c.args.round
          c.loop-branch.branch (omega (arith, w.if-branch-gt0.false))
          c.in_ok-judge_orbit.ensures.holds
    ])

pub returns-in_err-judge_orbit-clause-stops : goal.returns-in_err-judge_orbit-clause-stops
returns-in_err-judge_orbit-clause-stops c =
    let j = c.args.self.now in
    let l = inside (goal.at.returns-in_err-judge_orbit-clause-stops c).After-index in
    passed_on _ _ _ c.from_residual.ensures.1 (several_stop _ _
    (IsPastPart (program_by j) (cert_by j)) _ _ c.loop-branch.branch l
    c.loop-branch.invariant _ (orbit_stops (program_by j) (cert_by j) c.args.round
    c.loop-branch.branch _ c.in_err-judge_orbit.ensures.stops))

pub returns-in_err-judge_meet-clause-stops : goal.returns-in_err-judge_meet-clause-stops
returns-in_err-judge_meet-clause-stops c =
    let j = c.args.self.now in
    let l = inside (goal.at.returns-in_err-judge_meet-clause-stops c).After-index in
    passed_on _ _ _ c.from_residual-in_err-judge_meet.ensures.1 (several_stop _ _
    (IsPastPart (program_by j) (cert_by j)) _ _ c.loop-branch.branch l c.loop-branch.invariant _
    (meet_stops (program_by j) (cert_by j) c.args.round c.loop-branch.branch c.if-branch-gt0.true
    c.in_ok-judge_orbit.ensures.holds _ c.in_err-judge_meet.ensures.stops))

pub returns-clause-holds : goal.returns-clause-holds
returns-clause-holds c = first_several _ _ _ c.loop-branch.branch
    (past_seen _ _ _ _ c.branches-branch-end.ensures.branches c.loop-branch-test.false)
    c.loop-branch.invariant
