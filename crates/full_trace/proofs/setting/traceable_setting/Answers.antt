use Rattle.std.proofs.Common.{sym, ap, ◌∙◌}
use Rattle.std.specs.List.{position}
use Rattle.loop_model.proofs.Formed.{formed}
use Rattle.full_trace.specs.Late.{is_late}
use Rattle.full_trace.proofs.Late.{at_zero, all_at_zero, first_late}
use Rattle.full_trace.proofs.setting.traceable_setting.Goals as goal

pub returns-in-Some-clause-refused : goal.returns-in-Some-clause-refused
returns-in-Some-clause-refused c =
    let e = c.in-Ok.ensures in (
      e.free,
      e.forms,
      first_late (formed c.args.lp.now) e.fits e.setting
          c.in-Some.branch (ap (position is_late) (sym c.deref.ensures.value)
          ∙ sym c.first_late.ensures ∙ c.in-Some.is),
    )

pub returns-in-None-clause-at_zero : goal.returns-in-None-clause-at_zero
returns-in-None-clause-at_zero c = at_zero _
    (ap (position is_late) (sym c.deref.ensures.value) ∙ sym c.first_late.ensures ∙ c.in-None.is)

pub returns-in-None-clause-all_at_zero : goal.returns-in-None-clause-all_at_zero
returns-in-None-clause-all_at_zero c =
    let e = c.in-Ok.ensures in
    all_at_zero (formed c.args.lp.now) e.fits e.setting (at_zero _ (ap (position is_late)
    (sym c.deref.ensures.value) ∙ sym c.first_late.ensures ∙ c.in-None.is))
