use Rattle.std.proofs.Common.{◌≡◌, Some}
use Rattle.frac128.specs.FracMeaning.{fraction_of}
use Rattle.loop_runs.specs.Checked.{checked_power as power}
use Rattle.loop_runs.proofs.values.power_of.Given as goal

abbrev pub invariant-loop-iteration : goal.invariant-loop-iteration
invariant-loop-iteration l = Some (fraction_of l.product) ≡ power (fraction_of l.base) l._iteration
