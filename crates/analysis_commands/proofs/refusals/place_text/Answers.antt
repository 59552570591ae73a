use Rattle.std.proofs.Common.{string_bytes, append_assoc}
use Rattle.analysis_commands.proofs.Pushing.{retold}
use Rattle.analysis_commands.proofs.refusals.place_text.Goals as goal

pub returns-in-Closed : goal.returns-in-Closed
returns-in-Closed c = retold string_bytes c.format.result _ _ c.format.ensures.ok
    (rw c.in-Closed.is (simp append_assoc))

pub returns-in-Orbit : goal.returns-in-Orbit
returns-in-Orbit c = retold string_bytes c.format-in-Orbit.result _ _ c.format-in-Orbit.ensures.ok
    (rw c.in-Orbit.is (simp append_assoc))

pub returns-in-Meet : goal.returns-in-Meet
returns-in-Meet c = retold string_bytes c.format-in-Meet.result _ _ c.format-in-Meet.ensures.ok
    (rw c.in-Meet.is (simp append_assoc))

pub returns-in-Iteration : goal.returns-in-Iteration
returns-in-Iteration c = retold string_bytes c.format-in-Iteration.result _ _
    c.format-in-Iteration.ensures.ok
    (rw c.in-Iteration.is (simp append_assoc))

pub returns-in-IterationMeet : goal.returns-in-IterationMeet
returns-in-IterationMeet c =
    retold string_bytes c.format-in-IterationMeet.result _ _ c.format-in-IterationMeet.ensures.ok
    (rw c.in-IterationMeet.is (simp append_assoc))

pub returns-in-Extend : goal.returns-in-Extend
returns-in-Extend c =
    retold string_bytes c.format-in-Extend.result _ _ c.format-in-Extend.ensures.ok
    (rw c.in-Extend.is (simp append_assoc))
