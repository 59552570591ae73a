use Rattle.std.proofs.Common.{◌∙◌, sym}
use Rattle.std.proofs.lemmas.Slice.Zip.{Zip-more, either_empty_from_Zip}
use Rattle.loops.specs.Effect.{store}
use Rattle.loop_runs.proofs.steps.store.Goals as goal
use Rattle.loop_runs.proofs.Iterations.{store_end}

pub loop-target-preserved : goal.loop-target-preserved
unfolding store
loop-target-preserved c =
    let m = Zip-more c.loop-target.target-iterator c.next.new.self c.next.result (
      c.in-Some.target,
      c.in-Some.value,
    ) c.in-Some.is c.next.ensures.steps in
    rw (m.0, m.1) at c.loop-target.invariant

pub returns : goal.returns
returns c =
    let e = either_empty_from_Zip c.loop-target.target-iterator c.next.new.self c.next.result
    c.in-None.is c.next.ensures.steps in
    sym (c.loop-target.invariant ∙ store_end _ _ _ e)
