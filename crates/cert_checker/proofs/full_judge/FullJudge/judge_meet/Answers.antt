use Rattle.std.proofs.Common.{◌≡◌, ◌<◌, ◌-◌, length, refl, sym, ap, ap₂, subst, subst₂, ◌∙◌, arith, true≢false}
use Rattle.std.specs.Prelude.{is_some, pred, Vec}
use Rattle.std.specs.declared.alloc.Global.{Global}
use Rattle.std.specs.Option.{option_map}
use Rattle.std.proofs.lemmas.Result.{on_ok_weaker, IfErr-weaker}
use Rattle.algebra.specs.Fraction.{rationals}
use Rattle.polynomials.specs.Order.{grevlex, blocks}
use Rattle.machines.specs.Elimination.{blend}
use Rattle.poly.specs.Seen.{terms_each}
use Rattle.loop_model.specs.FracPoly.{FracPoly}
use Rattle.corollaries.specs.Full.{orbit, meet, stage_of, so_far, starting}
use Rattle.task_lists.specs.Starting.{meet_starting, FitsMeet}
use Rattle.corollaries.specs.Counts.{IsStageCounted}
use Rattle.task_lists.specs.Images.{IsStageIn}
use Rattle.task_lists.specs.View.{stage_in}
use Rattle.cert_checker.specs.FullJudge.{program_by, cert_by, StopsAmong, stage_by}
use Rattle.cert_checker.specs.StageParts.{NeverPast}
use Rattle.cert_checker.specs.declared.full_judge.FullJudge.{FullJudge}
use Rattle.cert_checker.specs.declared.full_part.Kind.TheVariants as kind
use Rattle.cert_checker.proofs.Begun.{in_round, orbit_is, meet_is, some_meet, given_here, meet_over, given_over}
use Rattle.cert_checker.proofs.Branches.{last_branch, stage_all, stage_stops}
use Rattle.cert_checker.proofs.StageSteps.{ok_holds}
use Rattle.cert_checker.proofs.Stopping.{carried}
use Rattle.cert_checker.proofs.full_judge.FullJudge.judge_meet.Goals as goal
use Rattle.cert_checker.proofs.full_judge.FullJudge.judge_meet.Goals.{After-len}

pub index-stages-requires : goal.index-stages-requires
index-stages-requires c =
    in_round c.requires.judge c.requires.round c.index-round_stages.ensures c.requires.branch

pub unreachable-requires : goal.unreachable-requires
unreachable-requires c =
    let some = c.requires.judge.counted.others c.args.round c.args.branch c.requires.round
    c.requires.behind c.requires.branch in
    true≢false (sym some ∙ sym (some_meet c.requires.judge c.requires.round
    c.index-round_stages.ensures c.requires.branch c.index-stages.ensures)
    ∙ ap (λ o. is_some (option_map stage_in o)) c.in_default.is)

pub index-requires : goal.index-requires
index-requires c =
    in_round c.requires.judge c.requires.round c.index-round_stages.ensures
    (let k = c.requires.branch in omega (arith, k))

-- what the stage is judged by, in the words of the definition
module _ (c : After-len) where
  abbrev j : FullJudge
  j = c.args.self.now

  abbrev left : Vec FracPoly Global
  left = c.list_of.result.now

  abbrev right : Vec FracPoly Global
  right = c.index-stages.result.now.orbit.out

  under : c.args.branch - 1 < length (program_by j).branches
  under = omega (arith, c.requires.branch)

  variables : c.len.result ≡ length (program_by j).names
  variables = c.len.ensures.len ∙ ap length c.names.ensures.names

  left_is : terms_each left.items ≡ so_far (cert_by j) c.args.round (pred c.args.branch)
  left_is = c.list_of.ensures.given
      ∙ given_here c.requires.judge c.requires.round c.index-round_stages.ensures under
      c.index.ensures
      ∙ ap (so_far (cert_by j) c.args.round) (sym (last_branch c.args.branch))

  right_is : terms_each right.items ≡ (stage_of (cert_by j) c.args.round c.args.branch orbit).out
  right_is = ap (λ s. s.out) (orbit_is c.requires.judge c.requires.round
      c.index-round_stages.ensures c.requires.branch c.index-stages.ensures)

  starts : meet_starting left right
      ≡ starting (program_by j) (cert_by j) c.args.round c.args.branch meet
  starts = ap₂ (blend rationals (blocks 1 grevlex grevlex)) left_is right_is

  stage_is : stage_in c.in-Some.stage ≡ stage_of (cert_by j) c.args.round c.args.branch meet
  stage_is = meet_is c.requires.judge c.requires.round c.index-round_stages.ensures
      c.requires.branch c.index-stages.ensures c.in-Some.is

pub judge-requires : goal.judge-requires
judge-requires c =
    let e = (goal.at.judge-requires c).After-len in
    record {
      judge = record {
        fits = subst (λ n. FitsMeet n (left e) (right e)) (sym (variables e)) (record {
          few = omega (arith, c.args.self.now.lp.now.few_names);
          lefts = c.list_of.ensures.over (length (program_by (j e)).names)
              (given_over c.requires.judge c.requires.round c.index-round_stages.ensures (under e)
              c.index.ensures);
          rights = (given_over c.requires.judge c.requires.round c.index-round_stages.ensures
              c.requires.branch c.index-stages.ensures).0;
        });
        front = refl;
        few = (let n = variables e in omega (arith, n, c.args.self.now.lp.now.few_names));
        images = subst (λ n. IsStageIn 1 n c.in-Some.stage) (sym (variables e))
            (meet_over c.requires.judge c.requires.round c.index-round_stages.ensures
            c.requires.branch c.index-stages.ensures c.in-Some.is);
        counts = subst₂ (IsStageCounted 1) (sym (ap length (starts e))) (sym (stage_is e))
            ((c.requires.judge.counted.stages c.args.round c.args.branch c.requires.round
            c.requires.branch).meet c.requires.behind);
      };
    }

pub returns-clause-holds : goal.returns-clause-holds
returns-clause-holds c =
    let e = (goal.at.returns-clause-holds c).After-len in
    on_ok_weaker _ (λ ok. stage_all (program_by (j e)) (cert_by (j e)) _ _ kind.Meet refl (starts e)
    (stage_is e) (ok_holds _ _ ok c.judge.ensures.holds)) c.in_stage.ensures.holds

pub returns-clause-stops : goal.returns-clause-stops
returns-clause-stops c =
    let e = (goal.at.returns-clause-stops c).After-len in
    IfErr-weaker c.in_stage.result _ _ (λ x is. carried _ _ x _ (StopsAmong (j e)
    (stage_by (j e) c.args.round c.args.branch meet)) is c.judge.ensures.stops
    (stage_stops (program_by (j e)) (cert_by (j e)) _ _ kind.Meet refl (starts e) (stage_is e)
    NeverPast (λ i past. past))) c.in_stage.ensures.stops
