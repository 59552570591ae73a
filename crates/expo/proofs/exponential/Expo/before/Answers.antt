use Rattle.expo.proofs.OneLess.{before_is, before_value_of}
use Rattle.expo.proofs.exponential.Expo.before.Goals as goal

pub returns-clause-before : goal.returns-clause-before
returns-clause-before c = before_is c.args.self.now c.in_ok-back.back c.in_ok-next.next
    c.in_ok-inverse_form.field-0 c.in_ok-back.ensures.inverse_form c.in_ok-next.ensures.shifted
    c.in_ok-inverse_form.ensures.inverse_form

pub returns-clause-values : goal.returns-clause-values
returns-clause-values c = before_value_of c.args.self.now c.in_ok-back.back c.in_ok-next.next
    c.in_ok-inverse_form.field-0 c.in_ok-back.ensures.inverse_form c.in_ok-next.ensures.shifted
    c.in_ok-inverse_form.ensures.inverse_form
