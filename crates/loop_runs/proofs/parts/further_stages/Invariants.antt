use Rattle.std.proofs.Common.{◌≡◌, ◌++◌, All, length}
use Rattle.loop_model.specs.View.{program_of}
use Rattle.loop_runs.specs.Parts.{AreFurther, CanFollow, stages_in, stages_read}
use Rattle.loop_runs.proofs.parts.further_stages.Given as goal

abbrev pub invariant-loop-alloc : goal.invariant-loop-alloc
invariant-loop-alloc l = record {
  alike : AreFurther l.first l.stages.items;
  same : stages_in l.stages.items ++ stages_read l.parts.items ≡ stages_read l.fn.parts.items;
  each : All (CanFollow (program_of l.first)) l.parts.items;
}

abbrev pub decreases-loop-alloc : goal.decreases-loop-alloc
decreases-loop-alloc l = length l.parts.items
