use Rattle.std.proofs.Common.{◌++◌, arith, refl, subst, map}
use Rattle.flows.specs.Chart.{closed}
use Rattle.program_model.specs.SyntaxView.{comparison_of}
use Rattle.program_model.specs.Forming.{assert_mark}
use Rattle.program_model.specs.Fronts.{AreEdges}
use Rattle.program_model.proofs.EventLaws.{handed_on}
use Rattle.program_model.proofs.Pointed.{point_more}
use Rattle.program_model.proofs.Asserting.{assert_goal, assert_closes, assert_free, assert_front}
use Rattle.program_model.proofs.Looping.{head_is}
use Rattle.program_model.proofs.forming.behind_assert.Goals as goal

pub returns-in_err-goal-clause-makes : goal.returns-in_err-goal-clause-makes
returns-in_err-goal-clause-makes c ps es os h =
    let n = c.args.variables in
    let k = comparison_of c.args.comparison.now in
    let x = c.in_err-goal.field-0.0 in
    handed_on _ _ x _ c.from_residual.ensures.1
    (assert_goal n c.args.at k ps es os x c.in_err-goal.ensures)

pub returns-in_err-transitions-clause-makes : goal.returns-in_err-transitions-clause-makes
returns-in_err-transitions-clause-makes c ps es os h =
    let n = c.args.variables in
    let k = comparison_of c.args.comparison.now in
    let x = c.in_err-transitions.field-0.0 in
    handed_on _ _ x _ c.from_residual-in_err-transitions.ensures.1
    (assert_closes n c.args.at k ps es os c.in_ok-goal.ensures.1 x
    (c.in_err-transitions.ensures n es os h.edges h.paths))

pub returns-clause-ready : goal.returns-clause-ready
returns-clause-ready c = c.in_ok-paths.ensures.ready c.args.variables c.requires.ready

pub returns-clause-makes : goal.returns-clause-makes
returns-clause-makes c ps es os h =
    let n = c.args.variables in
    let at = c.args.at in
    let k = comparison_of c.args.comparison.now in
    let p = point_more n ps (assert_mark at k) c.args.front.points.items c.push.new.self.items _
    c.in_ok-push.ensures.items h.points (record { at = refl; goal = c.in_ok-goal.ensures.0 }) in
    let m = c.push.new.self.ok.0 in
    let e = c.len.ensures in
    let head = head_is n ps (assert_mark at k) c.push.new.self.items c.len.result p
    (omega (arith, m, e)) in
    let t = c.in_ok-transitions.ensures n es os h.edges h.paths in (
      assert_front n at k ps es os _ p
          (subst (λ i. AreEdges n (es ++ map (closed i) os)
          c.in_ok-transitions.transitions.items) head t.0)
          (c.in_ok-paths.ensures.paths n os h.paths),
      assert_free n at k ps es os c.in_ok-goal.ensures.1 t.1,
    )
