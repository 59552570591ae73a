use Rattle.std.proofs.Common.{◌≡◌, ◌≤◌, length, drop}
use Rattle.algebra.specs.Scalars.{field}
use Rattle.machines.specs.Completion.{empty_state, with_elements}
use Rattle.poly.specs.Seen.{terms_each}
use Rattle.complete.specs.Completing.{state_of, FitsCompletion}
use Rattle.complete.specs.Pairs.{IsTold}
use Rattle.complete.proofs.completing.first_state.Given as goal

abbrev pub invariant-loop-g : goal.invariant-loop-g
invariant-loop-g g l =
    let F = field g.K.Ring.scalars in
    let O = g.O.Order.order l.fn.order in
    FitsCompletion l.fn.order l.arity l.state × IsTold l.state.queue
    × (length l.state.basis.items ≤ l.g-index)
    × (with_elements F O empty_state (terms_each l.gens) ≡ with_elements F O (state_of l.state)
    (terms_each (drop l.g-index l.gens)))
