use Rattle.std.proofs.Common.{◌++◌, ◌∷◌, []}
use Rattle.std.proofs.lemmas.Result.{on_ok_weaker, err_from_is_err_and}
use Rattle.poly.specs.Seen.{terms_in}
use Rattle.rounds.specs.Form.{at_minus_one}
use Rattle.task_lists.specs.Late.{form_over}
use Rattle.task_lists.proofs.Differences.{pushed}
use Rattle.task_lists.proofs.OneIterationBack.{over_here, over_rest, stands_here, told_next, past_told, past_rest}
use Rattle.task_lists.proofs.late_form.+push_told.Goals as goal

pub returns-in_err-told_by-clause-wide : goal.returns-in_err-told_by-clause-wide
returns-in_err-told_by-clause-wide t c = λ bs m all w.
    let is = c.in-Some.ensures.cases.0 in
    let p = err_from_is_err_and c.from_residual.result c.from_residual.ensures.1 in
    past_told bs m is (over_here bs m is all) (c.in_err-told_by.ensures.wide (cc (p.1, p.2, w)))

pub returns-clause-told : goal.returns-clause-told
returns-clause-told t c = λ bs m all qs a.
    let is = c.in-Some.ensures.cases.0 in
    let e = c.in-Some.poly.now in
    let here = over_here bs m is all in
    let rest = over_rest bs m is all in
    let p = c.in_ok-told_by.field-0 in
    on_ok_weaker _ (told_next bs m is c.push_told.new.out.items qs) (c.push_told.ensures.told bs m
    rest (qs ++ at_minus_one (form_over bs) m (terms_in e.body) ∷ []) (pushed m _ qs _
    c.in_ok-push.ensures.items a (stands_here bs m is p here c.in_ok-told_by.ensures.told)))

pub returns-clause-wide : goal.returns-clause-wide
returns-clause-wide t c = λ bs m all w.
    let is = c.in-Some.ensures.cases.0 in
    let e = c.in-Some.poly.now in
    past_rest bs m is (c.push_told.ensures.wide bs m (over_rest bs m is all) w)
