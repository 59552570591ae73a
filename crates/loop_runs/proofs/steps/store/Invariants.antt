use Rattle.std.proofs.Common.{◌≡◌}
use Rattle.std.specs.Iterator.Adapters.{zip_first, zip_second}
use Rattle.std.specs.Slice.Iter.{iter_rest}
use Rattle.loops.specs.Effect.{store}
use Rattle.loop_runs.proofs.steps.store.Given as goal

abbrev pub invariant-loop-target : goal.invariant-loop-target
invariant-loop-target l = store l.targets l.values l.initial.state
    ≡ store (iter_rest (zip_first l.target-iterator)) (iter_rest (zip_second l.target-iterator))
    l.state
