use Rattle.std.proofs.Common.{◌+◌, ◌*◌, ◌-◌, length}
use Rattle.machines.specs.Journal.{units_of}
use Rattle.machines.proofs.Going.{Going}
use Rattle.reduced_basis.specs.Tidying.{elements_of, FitsTidying, tidying_of}
use Rattle.reduced_basis.proofs.tidying.tidy_in.Given as goal

abbrev pub invariant-loop-state : goal.invariant-loop-state
invariant-loop-state g l = FitsTidying l.fn.order l.arity l.state
    × Going (tidying_of l.fn.order l.list) l.initial.meter l.meter (elements_of l.state)

abbrev pub decreases-loop-state : goal.decreases-loop-state
decreases-loop-state g l = 2 * (l.meter.limit - units_of l.meter.entries)
    + length (elements_of l.state)
