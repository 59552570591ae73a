use Rattle.std.proofs.Common.{◌≡◌, ◌<◌, [], length, refl, sym, ap, ◌∙◌}
use Rattle.std.specs.Prelude.{is_some}
use Rattle.std.specs.Option.{option_map}
use Rattle.poly.specs.Seen.{terms_each}
use Rattle.corollaries.specs.Counts.{IsStageCounted}
use Rattle.corollaries.specs.Full.{orbit, meet, form_of, stage_of, front_of, before, starting}
use Rattle.corollaries.specs.Parts.{in_round}
use Rattle.corollaries.specs.Stage.{places}
use Rattle.task_lists.specs.View.{stage_in}
use Rattle.cert_checker.specs.FullJudge.{program_by, cert_by, terms_by, stage_by}
use Rattle.cert_checker.specs.LongParts.{IsTotal, IsFirstBeyond}
use Rattle.cert_checker.specs.Parts.{place_of}
use Rattle.cert_checker.specs.declared.full_judge.FullJudge.{FullJudge}
use Rattle.cert_checker.proofs.Begun.{in_round as in_stages, orbit_is, meet_is, some_meet, polys_are}
use Rattle.cert_checker.proofs.Counted.{meet_behind, meet_not}
use Rattle.cert_checker.proofs.PartTotals.{total_map, beyond_map}
use Rattle.cert_checker.proofs.StageTotals.{as_stage, orbit_only, both_total, orbit_beyond, meet_beyond}
use Rattle.cert_checker.proofs.full_judge.FullJudge.count_branch.Goals as goal
use Rattle.cert_checker.proofs.full_judge.FullJudge.count_branch.Goals.{After-count_stage, In-Ok, In-Some}

-- what is counted of the orbit, in the words of the definition
module _ (c : After-count_stage) where
  abbrev j : FullJudge
  j = c.args.self.now

  list_is : terms_each c.deref.result.now ≡ before (program_by j) (cert_by j) c.args.round
  list_is = ap terms_each c.deref.ensures.value ∙ c.list_before-list.ensures.before

  polys_is : terms_each c.deref-2.result.now ≡ (form_of (cert_by j) c.args.branch).polys
  polys_is = ap terms_each c.deref-2.ensures.value
      ∙ polys_are c.requires.judge c.requires.branch c.index.ensures

  stage_is : stage_in c.index-stages.result.now.orbit
      ≡ stage_of (cert_by j) c.args.round c.args.branch orbit
  stage_is = orbit_is c.requires.judge c.requires.round c.index-2.ensures c.requires.branch
      c.index-stages.ensures

  orbit_counts : IsStageCounted (front_of (cert_by j) c.args.branch orbit)
      (length (starting (program_by j) (cert_by j) c.args.round c.args.branch orbit))
      (stage_of (cert_by j) c.args.round c.args.branch orbit)
  orbit_counts = (c.requires.judge.counted.stages c.args.round c.args.branch c.requires.round
      c.requires.branch).orbit

-- the orbit, counted
module _ (c : In-Ok) where
  abbrev then : After-count_stage
  then = (goal.at.In-Ok c).After-count_stage

  orbit_total : IsTotal (terms_by (j then)) c.args.before
      (stage_by (j then) c.args.round c.args.branch orbit) c.in-Ok.terms
  orbit_total = total_map (terms_by (j then))
      (in_round c.args.round c.args.branch orbit) c.args.before (places (front_of (cert_by (j then))
      c.args.branch orbit) (starting (program_by (j then)) (cert_by (j then)) c.args.round
      c.args.branch orbit) (stage_of (cert_by (j then)) c.args.round c.args.branch orbit))
      (as_stage (λ terms ps. IsTotal terms c.args.before ps c.in-Ok.terms) _ _ _ _ _ _
      (list_is then) (polys_is then) (stage_is then) c.in-Ok.ensures.total _ (orbit_counts then))

-- the intersection, of a later branch
module _ (c : In-Some) where
  abbrev done : In-Ok
  done = (goal.at.In-Some c).In-Ok

  abbrev own : FullJudge
  own = c.args.self.now

  later : 0 < c.args.branch
  later = meet_behind (program_by own) (cert_by own) c.requires.judge.counted c.args.round
      c.args.branch c.requires.round c.requires.branch
      (sym (some_meet c.requires.judge c.requires.round c.index-2.ensures c.requires.branch
      c.index-stages.ensures) ∙ ap (λ o. is_some (option_map stage_in o)) c.in-Some.is)

  met : stage_in c.in-Some.meet ≡ stage_of (cert_by own) c.args.round c.args.branch meet
  met = meet_is c.requires.judge c.requires.round c.index-2.ensures c.requires.branch
      c.index-stages.ensures c.in-Some.is

  meet_counts : IsStageCounted 1
      (length (starting (program_by own) (cert_by own) c.args.round c.args.branch meet))
      (stage_of (cert_by own) c.args.round c.args.branch meet)
  meet_counts = (c.requires.judge.counted.stages c.args.round c.args.branch c.requires.round
      c.requires.branch).meet later

pub index-stages-requires : goal.index-stages-requires
index-stages-requires c =
    in_stages c.requires.judge c.requires.round c.index-2.ensures c.requires.branch

pub returns-in-Err-clause-beyond : goal.returns-in-Err-clause-beyond
returns-in-Err-clause-beyond c =
    let e = (goal.at.returns-in-Err-clause-beyond c).After-count_stage in
    let program = program_by c.args.self.now in
    let full = cert_by c.args.self.now in
    let r = c.args.round in
    let b = c.args.branch in
    orbit_beyond program full r b c.args.before (beyond_map (terms_by (j e)) (in_round r b orbit)
    (place_of c.in-Err.place) (as_stage (λ terms ps. IsFirstBeyond terms c.args.before ps
    (place_of c.in-Err.place)) _ _ _ _ _ _ (list_is e) (polys_is e) (stage_is e)
    c.in-Err.ensures.beyond _ (orbit_counts e)))

pub returns-in_default-clause-total : goal.returns-in_default-clause-total
returns-in_default-clause-total c =
    let done = (goal.at.returns-in_default-clause-total c).In-Ok in
    let program = program_by c.args.self.now in
    let full = cert_by c.args.self.now in
    let none = meet_not program full c.requires.judge.counted c.args.round c.args.branch
    c.requires.round c.requires.branch
    (sym (some_meet c.requires.judge c.requires.round c.index-2.ensures c.requires.branch
    c.index-stages.ensures) ∙ ap (λ o. is_some (option_map stage_in o)) c.in_default.is) in
    orbit_only program full c.args.round c.args.branch c.args.before c.in-Ok.terms none
    (orbit_total done)

pub count_stage-requires-2 : goal.count_stage-requires-2
count_stage-requires-2 c =
    record { few = (orbit_total ((goal.at.count_stage-requires-2 c).In-Ok)).1 }

pub returns-in-Ok-count_stage-clause-total : goal.returns-in-Ok-count_stage-clause-total
returns-in-Ok-count_stage-clause-total c =
    let s = (goal.at.returns-in-Ok-count_stage-clause-total c).In-Some in
    let program = program_by c.args.self.now in
    let full = cert_by c.args.self.now in
    let r = c.args.round in
    let b = c.args.branch in
    both_total program full r b c.args.before c.in-Ok.terms c.in-Ok-count_stage.terms (later s)
    (orbit_total (done s)) (total_map (terms_by (own s)) (in_round r b meet) c.in-Ok.terms (places 1
    (starting program full r b meet) (stage_of full r b meet)) (as_stage (λ terms ps. IsTotal terms
    c.in-Ok.terms ps c.in-Ok-count_stage.terms) [] [] [] [] _ _ refl refl (met s)
    c.in-Ok-count_stage.ensures.total _ (meet_counts s)))

pub returns-in-Err-count_stage-clause-beyond : goal.returns-in-Err-count_stage-clause-beyond
returns-in-Err-count_stage-clause-beyond c =
    let s = (goal.at.returns-in-Err-count_stage-clause-beyond c).In-Some in
    let program = program_by c.args.self.now in
    let full = cert_by c.args.self.now in
    let r = c.args.round in
    let b = c.args.branch in
    let place = place_of c.in-Err-count_stage.place in
    meet_beyond program full r b c.args.before c.in-Ok.terms (in_round r b meet place) (later s)
    (orbit_total (done s)) (beyond_map (terms_by (own s)) (in_round r b meet) place
    (as_stage (λ terms ps. IsFirstBeyond terms c.in-Ok.terms ps place) [] [] [] [] _ _ refl refl
    (met s) c.in-Err-count_stage.ensures.beyond _ (meet_counts s)))
