use Rattle.std.proofs.Common.{sym, subst}
use Rattle.std.proofs.lemmas.Result.{IfErr-weaker}
use Rattle.complete.proofs.Made.{if_ok}
use Rattle.ideal_ops.specs.Calls.{AreOver}
use Rattle.poly.specs.Seen.{terms_each}
use Rattle.loop_model.specs.View.{program_of}
use Rattle.loop_model.proofs.Formed.{formed}
use Rattle.rounds.specs.Results.{IsReducedList}
use Rattle.std.specs.Prelude.{Some}
use Rattle.invariant_fix.proofs.Following.{refused_stopped}
use Rattle.invariant_fix.proofs.analysis.analyse_from.Goals as goal

pub analyse_in-requires-clause-over : goal.analyse_in-requires-clause-over
analyse_in-requires-clause-over c =
    subst (λ m. AreOver m c.args.first.now) (sym c.in_ok-setting.ensures.setting.arity)
    c.requires.over

pub analyse_in-requires-clause-reduced : goal.analyse_in-requires-clause-reduced
analyse_in-requires-clause-reduced c =
    subst (λ m. IsReducedList m (terms_each c.args.first.now))
    (sym c.in_ok-setting.ensures.setting.arity) c.requires.reduced

pub returns-clause-follows : goal.returns-clause-follows
returns-clause-follows c =
    c.analyse_in.ensures.follows (program_of c.args.lp.now) (formed c.args.lp.now)
    c.in_ok-setting.ensures.setting

pub returns-clause-closed : goal.returns-clause-closed
returns-clause-closed c =
    c.analyse_in.ensures.closed (program_of c.args.lp.now) (formed c.args.lp.now)
    c.in_ok-setting.ensures.setting

pub returns-clause-basis : goal.returns-clause-basis
returns-clause-basis c =
    c.analyse_in.ensures.basis (program_of c.args.lp.now) (formed c.args.lp.now)
    c.in_ok-setting.ensures.setting

pub returns-clause-over : goal.returns-clause-over
returns-clause-over c =
    if_ok _ _ c.analyse_in.result (λ a over. subst (λ m. AreOver m a.basis.items)
    c.in_ok-setting.ensures.setting.arity over) c.analyse_in.ensures.over

pub returns-clause-square : goal.returns-clause-square
returns-clause-square c =
    c.analyse_in.ensures.square (program_of c.args.lp.now) (formed c.args.lp.now)
    c.in_ok-setting.ensures.setting

pub returns-clause-forms : goal.returns-clause-forms
returns-clause-forms c =
    if_ok _ _ c.analyse_in.result (λ a over. c.in_ok-setting.ensures.forms)
    c.analyse_in.ensures.over

pub returns-clause-refused : goal.returns-clause-refused
returns-clause-refused c =
    let e = c.in_ok-setting.ensures in
    IfErr-weaker c.analyse_in.result _ _ (λ r h. refused_stopped (program_of c.args.lp.now)
    (Some (terms_each c.args.first.now)) e.free e.forms c.args.meter.now c.analyse_in.new.meter
    r h) (c.analyse_in.ensures.refused (program_of c.args.lp.now) (formed c.args.lp.now) e.setting)
