use Rattle.std.proofs.Common.{◌≡◌}
use Rattle.full_trace.proofs.FormsMade.{polys_of}
use Rattle.full_trace.proofs.forms.bodies.Given as goal

abbrev pub invariant-loop-poly : goal.invariant-loop-poly
invariant-loop-poly l = l.out.items ≡ polys_of l.yielded
