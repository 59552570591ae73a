use Rattle.std.proofs.Common.{◌≡◌, ◌<◌, ◌≤◌, ◌+◌, ℕ, List, length, sym, ap, subst, subst₂, ◌∙◌, arith}
use Rattle.std.specs.Prelude.{vec_len}
use Rattle.std.proofs.lemmas.List.{length-map}
use Rattle.std.proofs.lemmas.Result.{on_ok_weaker, IfErr-weaker}
use Rattle.algebra.specs.Fraction.{Fraction}
use Rattle.polynomials.specs.Terms.{Terms}
use Rattle.rounds.specs.Form.{front}
use Rattle.monos.specs.Variables.{most_variables}
use Rattle.poly.specs.Seen.{terms_each}
use Rattle.corollaries.specs.Full.{orbit, front_of, stage_of, starting}
use Rattle.task_lists.specs.Starting.{orbit_starting, IsPastOrbit}
use Rattle.corollaries.specs.Counts.{IsStageCounted}
use Rattle.task_lists.specs.Images.{IsStageIn}
use Rattle.task_lists.specs.View.{stage_in}
use Rattle.cert_checker.specs.FullJudge.{program_by, cert_by, StopsAmong, stage_by}
use Rattle.cert_checker.specs.declared.full_judge.FullJudge.{FullJudge}
use Rattle.cert_checker.specs.declared.full_part.Kind.TheVariants as kind
use Rattle.cert_checker.proofs.Begun.{formed, in_round, orbit_is, branch_over, front_is, orbit_fits, orbit_starts, orbit_past}
use Rattle.cert_checker.proofs.Branches.{stage_all, stage_stops}
use Rattle.cert_checker.proofs.StageSteps.{ok_holds}
use Rattle.cert_checker.proofs.Stopping.{carried}
use Rattle.cert_checker.proofs.full_judge.FullJudge.judge_orbit.Goals as goal
use Rattle.cert_checker.proofs.full_judge.FullJudge.judge_orbit.Goals.{After-index-3}

pub index-requires : goal.index-requires
index-requires c = let n = c.args.self.now.cert.now.forms.ok.0 in
    let l = formed c.requires.judge c.requires.branch in
    omega (arith, n, l)

pub index-requires-3 : goal.index-requires-3
index-requires-3 c = in_round c.requires.judge c.requires.round c.index-2.ensures c.requires.branch

-- what the stage is judged by, in the words of the definition
module _ (c : After-index-3) where
  abbrev j : FullJudge
  j = c.args.self.now

  abbrev list : List (Terms Fraction)
  list = orbit_starting c.len-2.result c.index.result.now.base c.args.back.now
      c.list_before-list.result.now.items

  abbrev past : ℕ → Type 0
  past = IsPastOrbit (terms_each c.args.back.now.items)
      (terms_each c.list_before-list.result.now.items)

  variables : c.len-2.result ≡ length (program_by j).names
  variables = c.len-2.ensures.len ∙ ap length c.names.ensures.names

  in_front : c.front.result ≡ front (vec_len c.index.result.now.base)
  in_front = c.front.ensures ∙ ap front c.len.ensures

  fronts : c.front.result ≡ front_of (cert_by j) c.args.branch orbit
  fronts = front_is c.requires.judge c.requires.branch c.index.ensures in_front

  starts : list ≡ starting (program_by j) (cert_by j) c.args.round c.args.branch orbit
  starts = orbit_starts c.requires.judge c.requires.branch c.index.ensures
      c.list_before-list.result.now c.requires.back variables c.args.round
      c.list_before-list.ensures.before

  stage_is : stage_in c.index-3.result.now.orbit
      ≡ stage_of (cert_by j) c.args.round c.args.branch orbit
  stage_is = orbit_is c.requires.judge c.requires.round c.index-2.ensures c.requires.branch
      c.index-3.ensures

pub judge-requires : goal.judge-requires
judge-requires c =
    let e = (goal.at.judge-requires c).After-index-3 in
    let base = c.index.result.now.base in
    record {
      judge = record {
        fits = orbit_fits c.requires.judge c.requires.branch c.index.ensures
            c.list_before-list.result.now c.requires.back (variables e)
            (subst (λ n. 0 < n) (ap length c.names.ensures.names) c.names.ensures.some)
            c.list_before-list.ensures.over;
        front = in_front e ∙ ap front (base.ok.0 ∙ sym (length-map base.items _));
        few = subst₂ (λ k n. k + n ≤ most_variables) (sym (fronts e)) (sym (variables e))
            c.requires.back.few;
        images = subst₂ (λ k n. IsStageIn k n c.index-3.result.now.orbit) (sym (in_front e))
            (sym (variables e)) (branch_over c.requires.judge c.requires.round c.index-2.ensures
            c.requires.branch c.index-3.ensures c.index.ensures).orbit;
        counts = subst (IsStageCounted c.front.result (length (list e))) (sym (stage_is e))
            (subst₂ (λ k n. IsStageCounted k n
            (stage_of (cert_by (j e)) c.args.round c.args.branch orbit)) (sym (fronts e))
            (sym (ap length (starts e))) (c.requires.judge.counted.stages c.args.round
            c.args.branch c.requires.round c.requires.branch).orbit);
      };
    }

pub returns-clause-holds : goal.returns-clause-holds
returns-clause-holds c =
    let e = (goal.at.returns-clause-holds c).After-index-3 in
    on_ok_weaker _ (λ ok. stage_all (program_by (j e)) (cert_by (j e)) _ _ kind.Orbit (fronts e)
    (starts e) (stage_is e) (ok_holds _ _ ok c.judge.ensures.holds)) c.in_stage.ensures.holds

pub returns-clause-stops : goal.returns-clause-stops
returns-clause-stops c =
    let e = (goal.at.returns-clause-stops c).After-index-3 in
    IfErr-weaker c.in_stage.result _ _ (λ x is. carried _ _ x _ (StopsAmong (j e)
    (stage_by (j e) c.args.round c.args.branch orbit)) is c.judge.ensures.stops
    (stage_stops (program_by (j e)) (cert_by (j e)) _ _ kind.Orbit (fronts e) (starts e)
    (stage_is e) (past e) (orbit_past c.requires.judge c.requires.branch c.index.ensures
    c.list_before-list.result.now c.requires.back (variables e) c.args.round
    c.list_before-list.ensures.before))) c.in_stage.ensures.stops
