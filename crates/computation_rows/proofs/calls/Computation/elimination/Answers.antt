use Rattle.std.proofs.Common.{◌≤◌, length, sym, subst, arith}
use Rattle.poly.specs.Seen.{arity_of}
use Rattle.complete.specs.Completing.{AreAlike}
use Rattle.ideal_ops.specs.Calls.{first_block}
use Rattle.computation_rows.proofs.Alike.{alike, block_within}
use Rattle.computation_rows.proofs.calls.Computation.elimination.Goals as goal

pub eliminate-requires-clause-alike : goal.eliminate-requires-clause-alike
eliminate-requires-clause-alike c =
    subst (λ ps. AreAlike ps) (sym c.deref.ensures.value)
    (alike (record { first = c.args.first }) (length c.args.self.now.names) c.in_ok-list.list.items
    c.in_ok-list.ensures.like)

pub eliminate-requires-clause-block : goal.eliminate-requires-clause-block
eliminate-requires-clause-block c =
    let first = c.if-first-len.false in
    let names = c.len.ensures.len in
    subst (λ ps. first_block ps ≤ arity_of ps) (sym c.deref.ensures.value)
    (block_within c.args.first (length c.args.self.now.names) (omega (arith, first, names))
    c.in_ok-list.list.items c.in_ok-list.ensures.like)
