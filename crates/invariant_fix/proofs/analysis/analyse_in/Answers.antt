use Rattle.std.proofs.Common.{ℕ, length, Some, ap, sym, subst, ◌∙◌}
use Rattle.std.proofs.lemmas.Result.{IfErr-weaker}
use Rattle.complete.proofs.Made.{if_ok}
use Rattle.loops.specs.Program.{Expr, Program}
use Rattle.loops.specs.WellFormed.{IsWellFormed}
use Rattle.machines.specs.Journal.{units_of}
use Rattle.ideal_ops.specs.Calls.{AreOver}
use Rattle.poly.specs.Seen.{terms_each}
use Rattle.rounds.specs.Kept.{IsKept}
use Rattle.rounds.specs.Results.{IsReducedList}
use Rattle.invariant_fix.specs.Setting.{IsSettingOf, given_of}
use Rattle.invariant_fix.proofs.Following.{IsAnalysisOf, begun_given, kept_of, closed_by, square_of, comes_followed, refuses_followed, is_stopped, few_given, given_list}
use Rattle.invariant_fix.proofs.Options.{if_both, if_ok_two, if_ok_three}
use Rattle.invariant_fix.proofs.analysis.analyse_in.Goals as goal
use Rattle.invariant_fix.proofs.analysis.analyse_in.Goals.{In_ok-basis}

pub rounds-requires-clause-start : goal.rounds-requires-clause-start
rounds-requires-clause-start c =
    let e = c.with_list-setting.ensures in
    given_list c.with_list-setting.result c.in_ok-given.given e.given c.args.first.now _
    c.in_ok-given.ensures.same c.in_ok-basis.ensures.same c.in_ok-basis.ensures.arities (subst
    (λ m. AreOver m c.args.first.now) (sym e.arity) c.requires.over)
    (subst (λ m. IsReducedList m (terms_each c.args.first.now)) (sym e.arity) c.requires.reduced)
    (units_of c.args.meter.now.entries)

pub rounds-requires-clause-next : goal.rounds-requires-clause-next
rounds-requires-clause-next c =
    begun_given c.with_list-setting.result c.with_list-setting.ensures.given _
    (c.in_ok-given.ensures.same ∙ sym c.in_ok-basis.ensures.same) c.requires.unbegun

module _ (c : In_ok-basis) (program : Program (Expr ℕ)) (w : IsWellFormed program)
    (is : IsSettingOf program c.args.setting) where
  here : IsAnalysisOf program c.with_list-setting.result (Some (terms_each c.args.first.now))
  here = let e = c.with_list-setting.ensures in record {
    formed = w;
    fits = e.fits;
    is = e.setting program is;
    given_is = ap given_of e.given ∙ ap Some c.in_ok-given.ensures.same;
  }

  reduced : IsReducedList (length program.names) (terms_each c.args.first.now)
  reduced = subst (λ m. IsReducedList m (terms_each c.args.first.now)) is.arity c.requires.reduced

pub returns-clause-follows : goal.returns-clause-follows
returns-clause-follows c = λ program w is.
    (let h = here (goal.at.returns-clause-follows c).In_ok-basis program w is in
    if_both _ _ _ _ (λ a s. comes_followed h _ s) (λ r s. refuses_followed h _ r s)
    c.rounds.ensures.closed c.rounds.ensures.err)

pub returns-clause-closed : goal.returns-clause-closed
returns-clause-closed c = λ program w is.
    (let h = here (goal.at.returns-clause-closed c).In_ok-basis program w is in
    if_ok_two _ _ _ c.rounds.result (λ a s k. closed_by h a s k)
    c.rounds.ensures.closed c.rounds.ensures.steps)

pub returns-clause-basis : goal.returns-clause-basis
returns-clause-basis c = λ program w is.
    (let e = (goal.at.returns-clause-basis c).In_ok-basis in
    if_ok _ _ c.rounds.result (λ a s. kept_of (here e program w is) (reduced e program w is) s)
    c.rounds.ensures.closed)

pub returns-clause-square : goal.returns-clause-square
returns-clause-square c = λ program w is.
    (let e = (goal.at.returns-clause-square c).In_ok-basis in
    let h = here e program w is in
    if_ok_three _ _ _ _ _ (λ a s k over. square_of h a
    (IsKept program (terms_each c.args.first.now)) (kept_of h (reduced e program w is) s) k over)
    c.rounds.ensures.closed c.rounds.ensures.steps c.rounds.ensures.over)

pub returns-clause-few : goal.returns-clause-few
returns-clause-few c =
    if_ok _ _ c.rounds.result (λ a known. few_given c.with_list-setting.result c.in_ok-given.given
    c.with_list-setting.ensures.given c.args.first.now a.basis.items c.in_ok-given.ensures.same _
    known)
    c.rounds.ensures.list

pub returns-clause-refused : goal.returns-clause-refused
returns-clause-refused c = λ program w is.
    (let h = here (goal.at.returns-clause-refused c).In_ok-basis program w is in
    IfErr-weaker c.rounds.result _ _ (λ r s. is_stopped h c.rounds.new.meter r s)
    c.rounds.ensures.err)
