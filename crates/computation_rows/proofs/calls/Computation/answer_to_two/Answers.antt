use Rattle.std.proofs.Common.{sym, subst}
use Rattle.complete.specs.Completing.{AreLike}
use Rattle.computation_rows.proofs.calls.Computation.answer_to_two.Goals as goal

pub division_text-requires-clause-like : goal.division_text-requires-clause-like
division_text-requires-clause-like g c =
    let p = c.in_ok-dividend.ensures in
    let qs = c.in_ok-divisors.divisors.items in
    subst (λ l. AreLike c.in_ok-dividend.dividend.order c.in_ok-dividend.dividend.arity l)
    (sym c.deref.ensures.value)
    (subst (λ o. AreLike o c.in_ok-dividend.dividend.arity qs) (sym p.0)
    (subst (λ m. AreLike c.args.order m qs) (sym p.1) c.in_ok-divisors.ensures.like))

pub membership_text-requires-clause-like : goal.membership_text-requires-clause-like
membership_text-requires-clause-like g c =
    let p = c.in_ok-dividend.ensures in
    let qs = c.in_ok-divisors.divisors.items in
    subst (λ l. AreLike c.in_ok-dividend.dividend.order c.in_ok-dividend.dividend.arity l)
    (sym c.deref-in_default.ensures.value)
    (subst (λ o. AreLike o c.in_ok-dividend.dividend.arity qs) (sym p.0)
    (subst (λ m. AreLike c.args.order m qs) (sym p.1) c.in_ok-divisors.ensures.like))
