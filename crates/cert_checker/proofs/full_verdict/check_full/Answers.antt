use Rattle.std.proofs.Common.{subst}
use Rattle.std.proofs.lemmas.Option.{MatchOption-at_some}
use Rattle.std.proofs.lemmas.Result.{IfOk-weaker}
use Rattle.loop_model.specs.View.{program_of}
use Rattle.loop_model.proofs.Formed.{formed}
use Rattle.loops.specs.Certificate.{IsValid, IsVerdict}
use Rattle.corollaries.specs.Full.{certificate}
use Rattle.corollaries.specs.Parts.{Holds, in_basis, in_steps}
use Rattle.corollaries.proofs.Complete.{full_generates}
use Rattle.cert_checker.specs.Views.{verdict_of}
use Rattle.task_lists.specs.View.{full_of}
use Rattle.cert_checker.proofs.FullOver.{full_over}
use Rattle.cert_checker.specs.Further.{further_parts}
use Rattle.cert_checker.specs.Parts.{part_of}
use Rattle.cert_checker.specs.FullStops.{IsStop}
use Rattle.cert_checker.specs.FullWide.{IsPastPart}
use Rattle.cert_checker.proofs.FormingLaws.{unformed_refused}
use Rattle.cert_checker.proofs.Kept.{kept_of}
use Rattle.cert_checker.proofs.Whole.{all_hold, further_behind, first_of, wide_of, start_first, step_first, start_invalid, step_invalid, long_part, failing_verdict, wide_refused, limit_refused, refusal}
use Rattle.cert_checker.proofs.full_verdict.check_full.Goals as goal
use Rattle.cert_checker.proofs.full_verdict.check_full.Goals.{In-Ok-Valid}

valid : (c : In-Ok-Valid) → IsValid (program_of c.args.lp.now)
    (certificate (full_of c.args.cert.now))
valid c = subst (λ v. IsVerdict (program_of c.args.lp.now)
    (certificate (full_of c.args.cert.now)) (verdict_of v)) c.in-Ok-Valid.field-0-is
    c.in-Ok-Valid.ensures.verdict

pub judge-requires-clause-kept : goal.judge-requires-clause-kept
judge-requires-clause-kept c = kept_of c.args.cert.now c.requires.images c.requires.counted

pub returns-in-Ok-StartFails-clause-verdict : goal.returns-in-Ok-StartFails-clause-verdict
returns-in-Ok-StartFails-clause-verdict c =
    let program = program_of c.args.lp.now in
    let cert = full_of c.args.cert.now in
    let i = c.in-Ok-StartFails.element in
    IfOk-weaker c.fails.result _ _ (λ v is. failing_verdict program cert (in_basis i)
    (start_first program cert i (subst (λ v. IsVerdict program (certificate cert) (verdict_of v))
    c.in-Ok-StartFails.field-0-is c.in-Ok-StartFails.ensures.verdict)) v is) c.fails.ensures.fails

pub returns-in-Ok-StartFails-clause-few : goal.returns-in-Ok-StartFails-clause-few
returns-in-Ok-StartFails-clause-few c =
    let program = program_of c.args.lp.now in
    let cert = full_of c.args.cert.now in
    IfOk-weaker c.fails.result _ _ (λ v is all. absurd (start_invalid program cert
    c.in-Ok-StartFails.element (subst (λ v. IsVerdict program (certificate cert) (verdict_of v))
    c.in-Ok-StartFails.field-0-is c.in-Ok-StartFails.ensures.verdict) all)) c.fails.ensures.fails

pub returns-in-Ok-StepFails-clause-verdict : goal.returns-in-Ok-StepFails-clause-verdict
returns-in-Ok-StepFails-clause-verdict c =
    let program = program_of c.args.lp.now in
    let cert = full_of c.args.cert.now in
    let b = c.in-Ok-StepFails.branch in
    let i = c.in-Ok-StepFails.element in
    IfOk-weaker c.fails-in-Ok-StepFails.result _ _ (λ v is.
    failing_verdict program cert (in_steps b i)
    (step_first program cert b i
    (subst (λ v. IsVerdict program (certificate cert) (verdict_of v))
    c.in-Ok-StepFails.field-0-is c.in-Ok-StepFails.ensures.verdict)) v is)
    c.fails-in-Ok-StepFails.ensures.fails

pub returns-in-Ok-StepFails-clause-few : goal.returns-in-Ok-StepFails-clause-few
returns-in-Ok-StepFails-clause-few c =
    let program = program_of c.args.lp.now in
    let cert = full_of c.args.cert.now in
    IfOk-weaker c.fails-in-Ok-StepFails.result _ _ (λ v is all. absurd (step_invalid program cert
    c.in-Ok-StepFails.branch c.in-Ok-StepFails.element
    (subst (λ v. IsVerdict program (certificate cert) (verdict_of v))
    c.in-Ok-StepFails.field-0-is c.in-Ok-StepFails.ensures.verdict) all))
    c.fails-in-Ok-StepFails.ensures.fails

pub returns-in-Err-clause-refused : goal.returns-in-Err-clause-refused
returns-in-Err-clause-refused c =
    let program = program_of c.args.lp.now in
    let cert = full_of c.args.cert.now in
    refusal program cert c.in-Err.error c.refused.result
    (unformed_refused program (certificate cert) c.in-Err.error c.in-Err.ensures.refused)
    c.refused.ensures

pub returns-in-Err-judge-clause-refused : goal.returns-in-Err-judge-clause-refused
returns-in-Err-judge-clause-refused c = refusal _ _
    c.in-Err-judge.error c.refused-in-Err-judge.result c.in-Err-judge.ensures.refused
    c.refused-in-Err-judge.ensures

pub first_long_part-requires : goal.first_long_part-requires
first_long_part-requires c =
    record {
      judge = record {
        images = c.requires.images;
        counted = c.requires.counted;
        values = c.in-Ok.ensures.maps.start;
        maps = c.in-Ok.ensures.maps.branches;
      };
    }

pub returns-in-Some-clause-refused : goal.returns-in-Some-clause-refused
returns-in-Some-clause-refused c =
    let program = program_of c.args.lp.now in
    let cert = full_of c.args.cert.now in
    let part = part_of c.in-Some.part in
    limit_refused program cert c.limit.result c.in-Ok.ensures.maps.free (long_part program cert
    part (valid (goal.at.returns-in-Some-clause-refused c).In-Ok-Valid) (MatchOption-at_some _ _ _
    c.in-Some.is c.first_long_part.ensures)) c.limit.ensures

pub judge_behind-requires : goal.judge_behind-requires
judge_behind-requires c =
    record {
      judge = record {
        images = c.requires.images;
        counted = c.requires.counted;
        values = c.in-Ok.ensures.maps.start;
        maps = c.in-Ok.ensures.maps.branches;
      };
    }

pub returns-in-Ok-judge_behind-clause-verdict : goal.returns-in-Ok-judge_behind-clause-verdict
returns-in-Ok-judge_behind-clause-verdict c = all_hold _ _
    (valid (goal.at.returns-in-Ok-judge_behind-clause-verdict c).In-Ok-Valid)
    c.in-Ok-judge_behind.ensures.holds

pub returns-in-Ok-judge_behind-clause-complete : goal.returns-in-Ok-judge_behind-clause-complete
returns-in-Ok-judge_behind-clause-complete c = λ is.
    let program = program_of c.args.lp.now in
    let cert = full_of c.args.cert.now in
    full_generates program (formed c.args.lp.now) cert
    (full_over program c.args.cert.now c.requires.images)
    (all_hold program cert
    (valid (goal.at.returns-in-Ok-judge_behind-clause-complete c).In-Ok-Valid)
    c.in-Ok-judge_behind.ensures.holds)

pub returns-in-Err-Fails-clause-verdict : goal.returns-in-Err-Fails-clause-verdict
returns-in-Err-Fails-clause-verdict c =
    let program = program_of c.args.lp.now in
    let cert = full_of c.args.cert.now in
    let part = part_of c.in-Err-Fails.part in
    IfOk-weaker c.fails-in-Err-Fails.result _ _ (λ v is. failing_verdict program cert part
    (first_of program cert (further_behind program cert
    (valid (goal.at.returns-in-Err-Fails-clause-verdict c).In-Ok-Valid) part
    (Holds program cert part → ⊥) (subst (IsStop part_of (Holds program cert)
    (IsPastPart program cert) (further_parts program cert)) c.in-Err-Fails.field-0-is
    c.in-Err-Fails.ensures.stops))) v is) c.fails-in-Err-Fails.ensures.fails

pub returns-in-Err-Wide-clause-refused : goal.returns-in-Err-Wide-clause-refused
returns-in-Err-Wide-clause-refused c =
    let program = program_of c.args.lp.now in
    let cert = full_of c.args.cert.now in
    let part = part_of c.in-Err-Wide.part in
    wide_refused program cert c.wide.result c.in-Ok.ensures.maps.free (wide_of program cert part
    (further_behind program cert (valid (goal.at.returns-in-Err-Wide-clause-refused c).In-Ok-Valid)
    part (IsPastPart program cert part) (subst (IsStop part_of (Holds program cert)
    (IsPastPart program cert) (further_parts program cert)) c.in-Err-Wide.field-0-is
    c.in-Err-Wide.ensures.stops))) c.wide.ensures
