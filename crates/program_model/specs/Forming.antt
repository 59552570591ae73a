-- What forming a graph does, in order, statement by statement, for each open path.
--   most_split, most_open, most_transitions      open paths before an `if` and behind one; transitions
--   marks_of b                                   the points of a block, in order;  marks_in s: of a statement
--   points_of b, exits_of i b os, edges_of i b os   of a block, as of its code: its points; and the open paths behind it, and the paths that end in it, where os come to it and its first point has the number i
--   exits_in i s os, edges_in i s os              the same of a statement
--   entering g o, leaving g o                    the open path o, where the comparisons of g are true, and where its one is false;  entering_events, leaving_events: what is done there, for each
--   closings at t os                             the open paths os become transitions, where t are there
--   statement_events n i t s os, block_events n i t b os     where the open paths os come to a statement, or a block, whose first point has the number i, and t transitions are there
--   program_events p                             all of it
use Rattle.std.specs.Prelude.{ℕ, suc, ◌+◌, List, [], ◌∷◌, ◌++◌, map, length, Some, None}
use Rattle.std.specs.List.{flat_map}
use Rattle.flows.specs.Chart as chart
use Rattle.flows.specs.Chart.{Open, Edge, exits, edges}
use Rattle.flows.specs.Code.{done, points}
use Rattle.program_model.specs.Program.{Comparison, Guard, Mark, Statement, step, assert, branch, loop, Block, empty, behind, Program}
use Rattle.program_model.specs.Code.{code_of, code_before}
use Rattle.program_model.specs.Events.{Event, counts}
use Rattle.program_model.specs.PathEvents.{E, step_events, goal_events, true_steps, false_steps, true_events, false_events}

abbrev pub most_split : ℕ
most_split = 32

abbrev pub most_open : ℕ
most_open = 64

abbrev pub most_transitions : ℕ
most_transitions = 256

abbrev pub head_mark : ℕ → Mark E
head_mark at = record { at = at; asserted = None }

abbrev pub assert_mark : ℕ → Comparison E → Mark E
assert_mark at k = record { at = at; asserted = Some k }

unfoldable mutual
  pub marks_in : Statement E → List (Mark E)
  marks_in (step c) = []
  marks_in (assert at k) = assert_mark at k ∷ []
  marks_in (branch at g a b) = marks_of a ++ marks_of b
  marks_in (loop at g a) = head_mark at ∷ marks_of a

  pub marks_of : Block E → List (Mark E)
  marks_of empty = []
  marks_of (behind b s) = marks_of b ++ marks_in s

abbrev pub points_of : Block E → ℕ
points_of b = points (code_of b)

abbrev pub exits_of : ℕ → Block E → List (Open E) → List (Open E)
exits_of i b os = exits i (code_of b) os

abbrev pub edges_of : ℕ → Block E → List (Open E) → List (Edge E)
edges_of i b os = edges i (code_of b) os

abbrev pub exits_in : ℕ → Statement E → List (Open E) → List (Open E)
exits_in i s os = exits i (code_before s done) os

abbrev pub edges_in : ℕ → Statement E → List (Open E) → List (Edge E)
edges_in i s os = edges i (code_before s done) os

abbrev pub entering : Guard E → Open E → Open E
entering g o = record { from = o.from; steps = o.steps ++ true_steps g.says }

abbrev pub leaving : Guard E → Open E → Open E
leaving g o = record { from = o.from; steps = o.steps ++ false_steps g.alone g.says }

unfoldable pub closings : ℕ → ℕ → List (Open E) → List Event
closings at t [] = []
closings at t (o ∷ os) = counts at (suc t) most_transitions ∷ closings at (suc t) os

module _ (n : ℕ) where
  abbrev pub entering_events : Guard E → List (Open E) → List Event
  entering_events g os = flat_map (λ (o : Open E). true_events n o.steps g.says) os

  abbrev pub leaving_events : Guard E → List (Open E) → List Event
  leaving_events g os = flat_map (λ (o : Open E). false_events n o.steps g.alone g.says) os

  unfoldable mutual
    pub statement_events : ℕ → ℕ → Statement E → List (Open E) → List Event
    statement_events i t (step c) os = flat_map (λ (o : Open E). step_events n o.steps c) os
    statement_events i t (assert at k) os = goal_events n k ++ closings at t os
    statement_events i t (branch at g a b) os =
        let ins = map (entering g) os in
        let outs = map (leaving g) os in
        let j = i + points_of a in
        let u = t + length (edges_of i a ins) in
        counts at (length os) most_split
        ∷ entering_events g os ++ block_events i t a ins
        ++ leaving_events g os ++ block_events j u b outs
        ++ counts at (length (exits_of i a ins ++ exits_of j b outs)) most_open ∷ []
    statement_events i t (loop at g a) os =
        let here = chart.at i in
        let ins = map (entering g) here in
        let u = t + length os in
        closings at t os ++ entering_events g here ++ block_events (suc i) u a ins
        ++ closings at (u + length (edges_of (suc i) a ins)) (exits_of (suc i) a ins)
        ++ leaving_events g here

    pub block_events : ℕ → ℕ → Block E → List (Open E) → List Event
    block_events i t empty os = []
    block_events i t (behind b s) os =
        block_events i t b os
        ++ statement_events (i + points_of b) (t + length (edges_of i b os)) s (exits_of i b os)

abbrev pub program_events : Program E → List Event
program_events p =
    let n = length p.names in
    let b = p.statements in
    block_events n 1 0 b (chart.at 0)
    ++ closings p.end (length (edges_of 1 b (chart.at 0))) (exits_of 1 b (chart.at 0))
