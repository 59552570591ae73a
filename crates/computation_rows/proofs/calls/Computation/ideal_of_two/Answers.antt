use Rattle.std.proofs.Common.{◌≤◌, ◌++◌, length, sym, subst, arith}
use Rattle.monos.specs.declared.order.Grevlex.{Grevlex}
use Rattle.poly.specs.Seen.{arity_of}
use Rattle.ideal_ops.specs.Calls.{HaveOneArity}
use Rattle.computation_rows.proofs.Alike.{one_arity, arity_within}
use Rattle.computation_rows.proofs.calls.Computation.ideal_of_two.Goals as goal

the_order : Grevlex
the_order = record {}

pub combined-requires-clause-alike : goal.combined-requires-clause-alike
combined-requires-clause-alike c =
    let ps = c.in_ok-left.left.items in
    let qs = c.in_ok-right.right.items in
    subst (λ xs. HaveOneArity (xs ++ c.deref-2.result.now)) (sym c.deref.ensures.value)
    (subst (λ ys. HaveOneArity (ps ++ ys)) (sym c.deref-2.ensures.value)
    (one_arity the_order (length c.args.self.now.names) ps qs c.in_ok-left.ensures.like
    c.in_ok-right.ensures.like))

pub combined-requires-clause-arity : goal.combined-requires-clause-arity
combined-requires-clause-arity c =
    let most = c.if-len-gt-MOST_NAMES_MET.false in
    let names = c.len.ensures.len in
    let ps = c.in_ok-left.left.items in
    let qs = c.in_ok-right.right.items in
    subst (λ xs. arity_of (xs ++ c.deref-2.result.now) ≤ 4095) (sym c.deref.ensures.value)
    (subst (λ ys. arity_of (ps ++ ys) ≤ 4095) (sym c.deref-2.ensures.value)
    (arity_within the_order (length c.args.self.now.names) 4095 (omega (arith, most, names)) ps qs
    c.in_ok-left.ensures.like c.in_ok-right.ensures.like))
