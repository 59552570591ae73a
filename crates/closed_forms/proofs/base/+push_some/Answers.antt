use Rattle.std.proofs.lemmas.Result.{on_ok_weaker}
use Rattle.closed_forms.proofs.Marks.{off}
use Rattle.closed_forms.proofs.Rows.{fractions-push}
use Rattle.closed_forms.proofs.Sizing.{some_skip, some_next}
use Rattle.closed_forms.proofs.base.+push_some.Goals as goal

pub returns-then-is_zero : goal.returns-then-is_zero
returns-then-is_zero t c = on_ok_weaker c.push_some.result (some_skip _ _
    c.in-Some.ensures.cases.0 (c.is_zero.ensures.0 c.if-is_zero.true)) c.push_some.ensures

pub returns : goal.returns
returns t c = on_ok_weaker c.push_some-2.result (some_next _ _ c.in-Some.ensures.cases.0
    (off c.if-is_zero.false c.is_zero.ensures.1) (fractions-push _
    c.in-Some.value.now c.in_ok-push.ensures.items)) c.push_some-2.ensures
