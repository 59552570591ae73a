use Rattle.std.proofs.Common.{◌≡◌, ◌<◌, ◌↔◌, length, ap, subst, IsTrue, arith}
use Rattle.std.proofs.lemmas.List.{length-map}
use Rattle.algebra.specs.Fraction.{ℚ, rationals}
use Rattle.machines.specs.Cut.{lead_number}
use Rattle.poly.specs.Seen.{terms_in}
use Rattle.corollaries.specs.Stage.{in_list}
use Rattle.loop_model.proofs.Items.{in_list as in_items, item_of}
use Rattle.task_lists.proofs.Combining.{place_in}
use Rattle.cert_checker.specs.StageJudge.{stage_seen, HoldsBy}
use Rattle.cert_checker.proofs.Stopping.{here_stops, more_hold, passed_on}
use Rattle.cert_checker.proofs.full_stage.StageJudge.judge_list.Goals as goal
use Rattle.cert_checker.proofs.full_stage.StageJudge.judge_list.Goals.{After-is_monic}

-- what is told of the element at this place
module _ (c : After-is_monic) where
  within : c.loop-i.i < length (stage_seen c.args.self.now).list
  within = (place_in terms_in _ c.loop-i.i
      (in_items _ _ c.deref-p-items.ensures.value _ c.loop-i-test.true)).0

  tells : IsTrue c.is_monic.result ↔ HoldsBy c.args.self.now (in_list c.loop-i.i)
  tells = subst (λ p. IsTrue c.is_monic.result ↔ (lead_number rationals p ≡ ℚ.one))
      ((place_in terms_in _ c.loop-i.i (in_items _ _ c.deref-p-items.ensures.value _
      c.loop-i-test.true)).1 c.p-item.result
      (item_of _ _ c.deref-p-items.ensures.value _ _ c.p-item.is)) c.is_monic.ensures

pub loop-i-init : goal.loop-i-init
loop-i-init c = λ j l. absurd (omega arith)

pub loop-i-preserved : goal.loop-i-preserved
loop-i-preserved c = more_hold _ c.loop-i.i c.loop-i.invariant c.in_ok-told.ensures.holds
    (tells (goal.at.loop-i-preserved c).After-is_monic)

pub returns-in_err-told-clause-stops : goal.returns-in_err-told-clause-stops
returns-in_err-told-clause-stops c =
    let at = (goal.at.returns-in_err-told-clause-stops c).After-is_monic in
    passed_on _ _ _ c.from_residual.ensures.1 (here_stops _ _ _ c.loop-i.i (within at)
    c.loop-i.invariant _ (tells at) (λ w. absurd (cc)) _ c.in_err-told.ensures.stops)

pub returns-clause-holds : goal.returns-clause-holds
returns-clause-holds c =
    let list = c.args.self.now.stage.now.list.items in
    let n = length-map list terms_in in
    let size = ap length c.deref-p-items.ensures.value in
    λ j l. c.loop-i.invariant j (omega (arith, l, c.loop-i-test.false, n, size))
