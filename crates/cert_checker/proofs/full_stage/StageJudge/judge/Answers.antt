use Rattle.std.proofs.Common.{◌<◌, ℕ, length}
use Rattle.std.proofs.lemmas.Result.{on_ok_weaker, IfErr-weaker}
use Rattle.corollaries.specs.Representation.{pairs_of}
use Rattle.corollaries.specs.Stage.{in_list, in_gens, in_pairs}
use Rattle.task_lists.specs.Starting.{IsPastAt}
use Rattle.cert_checker.specs.FullStops.{IsStop}
use Rattle.cert_checker.specs.Parts.{place_of}
use Rattle.cert_checker.specs.declared.full_part.RowPlace.{RowPlace}
use Rattle.cert_checker.specs.declared.full_stage.StageJudge.{StageJudge}
use Rattle.cert_checker.specs.declared.full_stop.Stop.{Stop}
use Rattle.cert_checker.specs.StageJudge.{starting_by, stage_seen, HoldsBy, IsPastBy, places_by}
use Rattle.cert_checker.proofs.Stopping.{carried, passed_on}
use Rattle.cert_checker.proofs.Placed.{list_stops, gens_stop, pairs_stop, links_stop, stage_holds}
use Rattle.cert_checker.proofs.StageSteps.{ok_holds}
use Rattle.cert_checker.proofs.full_stage.StageJudge.judge.Goals as goal
use Rattle.cert_checker.proofs.full_stage.StageJudge.judge.Goals.{In_ok-in_row, In_ok-in_row-2, In_ok-in_row-3}

abbrev StopsBy : StageJudge → Stop RowPlace → Type 0
StopsBy s = IsStop place_of (HoldsBy s) (IsPastBy s) (places_by s)

-- the lists that hold
listed : (c : In_ok-in_row) (i : ℕ) → i < length (stage_seen c.args.self.now).list
    → HoldsBy c.args.self.now (in_list i)
listed c = ok_holds _ _ c.in_ok-in_row.ensures.holds c.judge_list.ensures.holds

made : (c : In_ok-in_row-2) (i : ℕ) → i < length (starting_by c.args.self.now)
    → HoldsBy c.args.self.now (in_gens i)
made c = ok_holds _ _ c.in_ok-in_row-2.ensures.holds c.judge_gens.ensures.holds

paired : (c : In_ok-in_row-3) (i : ℕ)
    → i < length (pairs_of (length (stage_seen c.args.self.now).list))
    → HoldsBy c.args.self.now (in_pairs i)
paired c = ok_holds _ _ c.in_ok-in_row-3.ensures.holds c.judge_pairs.ensures.holds

pub judge_pairs-requires-clause-monic : goal.judge_pairs-requires-clause-monic
judge_pairs-requires-clause-monic c =
    listed (goal.at.judge_pairs-requires-clause-monic c).In_ok-in_row

pub returns-in_err-in_row-clause-stops : goal.returns-in_err-in_row-clause-stops
returns-in_err-in_row-clause-stops c =
    let s = c.args.self.now in
    passed_on _ _ _ c.from_residual.ensures.1 (carried _ _ _ _
    (StopsBy s) c.in_err-in_row.ensures.stops c.judge_list.ensures.stops
    (list_stops s.front _ (stage_seen s) (IsPastAt s.begin)))

pub returns-in_err-in_row-2-clause-stops : goal.returns-in_err-in_row-2-clause-stops
returns-in_err-in_row-2-clause-stops c =
    let s = c.args.self.now in
    let at = (goal.at.returns-in_err-in_row-2-clause-stops c).In_ok-in_row in
    passed_on _ _ _ c.from_residual-in_err-in_row-2.ensures.1 (carried _ _ _ _
    (StopsBy s) c.in_err-in_row-2.ensures.stops c.judge_gens.ensures.stops
    (gens_stop s.front _ (stage_seen s) (IsPastAt s.begin) (listed at)))

pub returns-in_err-in_row-3-clause-stops : goal.returns-in_err-in_row-3-clause-stops
returns-in_err-in_row-3-clause-stops c =
    let s = c.args.self.now in
    let at = (goal.at.returns-in_err-in_row-3-clause-stops c).In_ok-in_row in
    let also = (goal.at.returns-in_err-in_row-3-clause-stops c).In_ok-in_row-2 in
    passed_on _ _ _ c.from_residual-in_err-in_row-3.ensures.1 (carried _ _ _ _
    (StopsBy s) c.in_err-in_row-3.ensures.stops c.judge_pairs.ensures.stops
    (pairs_stop s.front _ (stage_seen s) (IsPastAt s.begin) (listed at) (made also)))

pub returns-clause-holds : goal.returns-clause-holds
returns-clause-holds c =
    let s = c.args.self.now in
    let at = (goal.at.returns-clause-holds c).In_ok-in_row in
    let also = (goal.at.returns-clause-holds c).In_ok-in_row-2 in
    let last = (goal.at.returns-clause-holds c).In_ok-in_row-3 in
    on_ok_weaker _ (λ ok. stage_holds s.front _ (stage_seen s)
    (IsPastAt s.begin) (listed at) (made also) (paired last)
    (ok_holds _ _ ok c.judge_links.ensures.holds)) c.in_row-4.ensures.holds

pub returns-clause-stops : goal.returns-clause-stops
returns-clause-stops c =
    let s = c.args.self.now in
    let at = (goal.at.returns-clause-stops c).In_ok-in_row in
    let also = (goal.at.returns-clause-stops c).In_ok-in_row-2 in
    let last = (goal.at.returns-clause-stops c).In_ok-in_row-3 in
    IfErr-weaker c.in_row-4.result _ _ (λ x is. carried _ _ x _ (StopsBy s) is
    c.judge_links.ensures.stops (links_stop s.front _ (stage_seen s)
    (IsPastAt s.begin) (listed at) (made also) (paired last))) c.in_row-4.ensures.stops
