use Rattle.std.proofs.lemmas.Result.{IfOk-weaker}
use Rattle.closed_forms.specs.Later.{one_later, one_later_past}
use Rattle.closed_forms.proofs.FormsFrom.{one_later_over, one_later_is, one_later_wide}
use Rattle.closed_forms.proofs.Marks.{off}
use Rattle.closed_forms.proofs.Mixing.{ok_both}
use Rattle.closed_forms.proofs.form_in_work.FormInWork.form_from.Goals as goal

pub returns-then-is_zero-clause-over : goal.returns-then-is_zero-clause-over
returns-then-is_zero-clause-over c = IfOk-weaker c.before-then-is_zero.result _ _
    (one_later_over c.requires)
    c.before-then-is_zero.ensures.before

pub returns-then-is_zero-clause-form : goal.returns-then-is_zero-clause-form
returns-then-is_zero-clause-form c = ok_both _ _ _ _
    (λ e is h. one_later (c.is_zero.ensures.0 c.if-is_zero.true)
    (one_later_is c.requires e is h)) c.before-then-is_zero.ensures.before
    c.before-then-is_zero.ensures.values

pub returns-then-is_zero-clause-wide : goal.returns-then-is_zero-clause-wide
returns-then-is_zero-clause-wide c = λ w. one_later_past (c.is_zero.ensures.0 c.if-is_zero.true)
    (one_later_wide c.requires (c.before-then-is_zero.ensures.wide w))

pub some_form-requires-clause-nonzero : goal.some_form-requires-clause-nonzero
some_form-requires-clause-nonzero c = off c.if-is_zero.false c.is_zero.ensures.1
