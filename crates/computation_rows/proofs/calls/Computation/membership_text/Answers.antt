use Rattle.std.proofs.Common.{◌≤◌, length, sym, subst}
use Rattle.poly.specs.Seen.{terms_each}
use Rattle.divide.specs.Current.{AreDivisors}
use Rattle.divide.specs.Limits.{list_limit}
use Rattle.ideal_ops.specs.Membership.{IsComplete}
use Rattle.computation_rows.proofs.Alike.{complete_of}
use Rattle.computation_rows.proofs.calls.Computation.membership_text.Goals as goal

pub contains-requires-clause-divisors : goal.contains-requires-clause-divisors
contains-requires-clause-divisors g c =
    subst (λ l. AreDivisors c.args.p.now.order c.args.p.now.arity l) (sym c.deref.ensures.value)
    (subst (λ o. AreDivisors o c.args.p.now.arity c.in_ok-basis.basis.items) c.order.ensures
    (subst (λ m. AreDivisors c.order.result m c.in_ok-basis.basis.items) c.arity.ensures.arity
    c.in_ok-basis.ensures.ran.to.gives.elements))

pub contains-requires-clause-few : goal.contains-requires-clause-few
contains-requires-clause-few g c = subst (λ l. length l ≤ list_limit) (sym c.deref.ensures.value)
    c.in_ok-basis.ensures.few

pub contains-requires-clause-complete : goal.contains-requires-clause-complete
contains-requires-clause-complete g c =
    subst (λ l. IsComplete c.args.p.now.order c.args.p.now.arity l) (sym c.deref.ensures.value)
    (subst (λ o. IsComplete o c.args.p.now.arity c.in_ok-basis.basis.items) c.order.ensures
    (subst (λ m. IsComplete c.order.result m c.in_ok-basis.basis.items) c.arity.ensures.arity
    (complete_of c.order.result _ c.in_ok-basis.basis.items (terms_each c.args.list.now)
    c.in_ok-basis.ensures.basis)))
