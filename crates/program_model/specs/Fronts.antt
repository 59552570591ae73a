-- How far forming has come.
--   IsEdge n e t, AreEdges n es ts     the transition t is the path e between nodes, with its polynomials; and of each
--   IsFront n ps es os f               of n variables, at f are the points ps, the transitions es, and the open paths os
use Rattle.std.specs.Prelude.{ℕ, ◌+◌, ◌≤◌, List}
use Rattle.std.specs.List.{All, AllZip}
use Rattle.flows.specs.Chart.{Open, Edge}
use Rattle.flows.specs.Paths as paths
use Rattle.flows.specs.Same.{IsSameTransition}
use Rattle.poly.specs.Standing.{IsInVariables}
use Rattle.program_model.specs.Program.{Mark}
use Rattle.program_model.specs.PathEvents.{E, most_unknowns}
use Rattle.program_model.specs.Points.{ArePoints}
use Rattle.program_model.specs.GraphView.{transition_of}
use Rattle.program_model.specs.UnderWay.{AreOpen}
use Rattle.program_model.specs.declared.graph.Transition.{Transition}
use Rattle.program_model.specs.declared.front.Front.{Front}

pub record IsEdge (n : ℕ) (e : Edge E) (t : Transition) : Type 0 where
  pub same : IsSameTransition (transition_of t) (paths.transition n e.from e.to e.steps)
  pub few : t.unknowns ≤ most_unknowns
  pub zeros : All (IsInVariables (t.unknowns + n)) t.zeros.items
  pub images : All (IsInVariables (t.unknowns + n)) t.images.items

abbrev pub AreEdges : ℕ → List (Edge E) → List Transition → Type 0
AreEdges n es ts = AllZip (IsEdge n) es ts

pub record IsFront (n : ℕ) (ps : List (Mark E)) (es : List (Edge E)) (os : List (Open E))
    (f : Front)
    : Type 0 where
  pub points : ArePoints n ps f.points.items
  pub edges : AreEdges n es f.transitions.items
  pub paths : AreOpen n os f.paths.items
