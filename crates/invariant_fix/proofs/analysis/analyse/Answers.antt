use Rattle.std.proofs.Common.{None, ap, subst}
use Rattle.std.proofs.lemmas.Result.{err_from_is_err_and, IfErr-weaker}
use Rattle.ideal_ops.specs.Calls.{AreOver}
use Rattle.complete.proofs.Made.{if_ok}
use Rattle.loop_model.specs.View.{program_of}
use Rattle.loop_model.proofs.Formed.{formed}
use Rattle.loops.specs.Inv.{Inv}
use Rattle.invariant_fix.specs.Setting.{given_of}
use Rattle.invariant_fix.proofs.Following.{IsAnalysisOf, begun_here, basis_of, level_of, closed_by, valid_of, square_of, few_at, comes_followed, refuses_followed, refused_at, all_have}
use Rattle.invariant_fix.proofs.Options.{if_both, if_ok_two, if_ok_three}
use Rattle.invariant_fix.proofs.analysis.analyse.Goals as goal
use Rattle.invariant_fix.proofs.analysis.analyse.Goals.{In_ok-setting}

here : (c : In_ok-setting) → IsAnalysisOf (program_of c.args.lp.now) c.in_ok-setting.setting None
here c = let e = c.in_ok-setting.ensures in record {
  formed = formed c.args.lp.now;
  fits = e.fits;
  is = e.setting;
  given_is = ap given_of e.given;
}

pub start_basis-requires-clause-next : goal.start_basis-requires-clause-next
start_basis-requires-clause-next c =
    let e = c.in_ok-setting.ensures in begun_here c.in_ok-setting.setting e.given c.requires.unbegun

pub returns-in_err-basis-clause-follows : goal.returns-in_err-basis-clause-follows
returns-in_err-basis-clause-follows c =
    refuses_followed (here (goal.at.returns-in_err-basis-clause-follows c).In_ok-setting) _ _
    c.in_err-basis.ensures.err

pub returns-in_err-basis-clause-refused : goal.returns-in_err-basis-clause-refused
returns-in_err-basis-clause-refused c =
    let h = here (goal.at.returns-in_err-basis-clause-refused c).In_ok-setting in
    let p = err_from_is_err_and c.from_residual-in_err-basis.result
    c.from_residual-in_err-basis.ensures.1 in
    rw (p.1, p.2) (refused_at h c.in_ok-setting.ensures.free c.args.meter.now
    c.start_basis.new.meter c.in_err-basis.field-0.0 c.in_err-basis.ensures.err)

pub returns-clause-follows : goal.returns-clause-follows
returns-clause-follows c =
    let h = here (goal.at.returns-clause-follows c).In_ok-setting in
    if_both _ _ _ _ (λ a s. comes_followed h _ s)
    (λ r s. refuses_followed h _ r s) c.rounds.ensures.closed c.rounds.ensures.err

pub returns-clause-closed : goal.returns-clause-closed
returns-clause-closed c =
    let h = here (goal.at.returns-clause-closed c).In_ok-setting in
    if_ok_two _ _ _ c.rounds.result (λ a s k. closed_by h a s k)
    c.rounds.ensures.closed c.rounds.ensures.steps

pub returns-clause-basis : goal.returns-clause-basis
returns-clause-basis c =
    let h = here (goal.at.returns-clause-basis c).In_ok-setting in
    if_ok _ _ c.rounds.result (λ a s. basis_of h s) c.rounds.ensures.closed

pub returns-clause-rounds : goal.returns-clause-rounds
returns-clause-rounds c =
    let h = here (goal.at.returns-clause-rounds c).In_ok-setting in
    if_ok _ _ c.rounds.result (λ a s. level_of h s) c.rounds.ensures.closed

pub returns-clause-over : goal.returns-clause-over
returns-clause-over c =
    let e = c.in_ok-setting.ensures in
    if_ok _ _ c.rounds.result (λ a known. subst (λ n. AreOver n a.basis.items) e.setting.arity
    known.arity) c.rounds.ensures.list

pub returns-clause-square : goal.returns-clause-square
returns-clause-square c =
    let h = here (goal.at.returns-clause-square c).In_ok-setting in
    if_ok_three _ _ _ _ _ (λ a s k over. square_of h a (Inv (program_of c.args.lp.now))
    (basis_of h s) k over) c.rounds.ensures.closed c.rounds.ensures.steps c.rounds.ensures.over

pub returns-clause-certificate : goal.returns-clause-certificate
returns-clause-certificate c =
    let h = here (goal.at.returns-clause-certificate c).In_ok-setting in
    if_ok_two _ _ _ c.rounds.result (λ a s k. valid_of h a s k)
    c.rounds.ensures.closed c.rounds.ensures.steps

pub returns-clause-forms : goal.returns-clause-forms
returns-clause-forms c =
    let e = c.in_ok-setting.ensures in
    if_ok _ _ c.rounds.result (λ a h. all_have (program_of c.args.lp.now) (formed c.args.lp.now)
    c.in_ok-setting.setting e.fits e.setting) c.rounds.ensures.closed

pub returns-clause-refused : goal.returns-clause-refused
returns-clause-refused c =
    let h = here (goal.at.returns-clause-refused c).In_ok-setting in
    IfErr-weaker c.rounds.result _ _ (λ r s. refused_at h c.in_ok-setting.ensures.free
    c.args.meter.now c.rounds.new.meter r s) c.rounds.ensures.err

pub returns-clause-few : goal.returns-clause-few
returns-clause-few c =
    let e = c.in_ok-setting.ensures in
    if_ok _ _ c.rounds.result (λ a known. few_at (program_of c.args.lp.now) c.in_ok-setting.setting
    e.setting e.given a.basis.items _ known) c.rounds.ensures.list
