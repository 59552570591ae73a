use Rattle.std.proofs.Common.{take}
use Rattle.algebra.specs.Fraction.{ℚ}
use Rattle.polynomials.specs.Terms.{variables}
use Rattle.poly.specs.Standing.{AllStandFor}
use Rattle.loop_model.proofs.state.free_state.Given as goal

abbrev pub invariant-loop-index : goal.invariant-loop-index
invariant-loop-index l = AllStandFor l.arity l.all.items (take l.index (variables ℚ l.arity))
