use Rattle.task_lists.proofs.OneIterationBack.{told_back, past_back}
use Rattle.task_lists.proofs.late_form.told_by.Goals as goal

pub returns-clause-told : goal.returns-clause-told
returns-clause-told c = told_back c.args.poly.now
    c.in_ok-inverse_form.ensures.inverse_form c.in_ok-inverse_form.ensures.values _
    c.at_iteration.ensures.iteration c.at_iteration.ensures.values

pub returns-clause-wide : goal.returns-clause-wide
returns-clause-wide c = λ w. past_back c.args.poly.now c.in_ok-inverse_form.field-0
    c.in_ok-inverse_form.ensures.inverse_form (c.at_iteration.ensures.wide w)
