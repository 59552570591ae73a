use Rattle.poly.specs.Seen.{terms_in}
use Rattle.loop_model.proofs.PowerLaws.{Raised}
use Rattle.loop_model.proofs.forming.power.Given as goal

abbrev pub invariant-loop-step : goal.invariant-loop-step
invariant-loop-step l = Raised l.base.arity l.at (terms_in l.base) l._step l.power
