use Rattle.std.proofs.Common.{◌≤◌, ◌+◌, ◌*◌, ◌-◌, ◌^◌}
use Rattle.algebra.specs.Scalars.{field}
use Rattle.machines.specs.Journal.{units_of}
use Rattle.machines.proofs.Going.{Going}
use Rattle.machines.proofs.Measures.{open_}
use Rattle.complete.specs.Completing.{state_of, FitsCompletion, completion_of}
use Rattle.complete.specs.Pairs.{IsTold}
use Rattle.complete.proofs.completing.complete_in.Given as goal

abbrev pub invariant-loop-state : goal.invariant-loop-state
invariant-loop-state g l =
    FitsCompletion l.fn.order l.arity l.state × (units_of l.meter.entries ≤ l.meter.limit)
    × (l.meter.limit ≤ 2 ^ 28) × Going (completion_of l.fn.order l.gens) l.initial.meter l.meter
    (state_of l.state) × IsTold l.state.queue

abbrev pub decreases-loop-state : goal.decreases-loop-state
decreases-loop-state g l = 2 * (l.meter.limit - units_of l.meter.entries)
    + open_ (field g.K.Ring.scalars) (g.O.Order.order l.state.order) (state_of l.state).current
