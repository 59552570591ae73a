use Rattle.std.proofs.Common.{◌+◌, ◌*◌, ◌-◌, length}
use Rattle.algebra.specs.Scalars.{field}
use Rattle.machines.specs.Journal.{units_of}
use Rattle.machines.proofs.Going.{Going}
use Rattle.machines.proofs.Measures.{open_}
use Rattle.divide.specs.Current.{IsCurrent}
use Rattle.divide.specs.Division.{state_of, FitsDivision, division_of}
use Rattle.divide.proofs.dividing.divide.Given as goal

abbrev pub invariant-loop-state : goal.invariant-loop-state
invariant-loop-state g l = FitsDivision l.p.order l.p.arity (length l.list) l.state
    × Going (division_of l.p l.list) l.initial.meter l.meter (state_of l.state)
    × IsCurrent l.leads.items l.state.current

abbrev pub decreases-loop-state : goal.decreases-loop-state
decreases-loop-state g l = 2 * (l.meter.limit - units_of l.meter.entries)
    + open_ (field g.K.Ring.scalars) (g.O.Order.order l.state.current.rest.order)
    (state_of l.state).current
