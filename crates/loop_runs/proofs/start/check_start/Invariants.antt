use Rattle.std.proofs.Common.{◌≡◌, drop, map}
use Rattle.loop_model.specs.Parts.{equation_of}
use Rattle.loop_runs.specs.Replay.{start_fault}
use Rattle.loop_runs.specs.Seen.{numbers_of}
use Rattle.loop_runs.proofs.start.check_start.Given as goal

abbrev pub invariant-loop-equation : goal.invariant-loop-equation
invariant-loop-equation l = start_fault (map equation_of l.init) (numbers_of l.state)
    ≡ start_fault (map equation_of (drop l.equation-index l.init)) (numbers_of l.state)
