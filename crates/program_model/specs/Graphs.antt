-- Graphs of the code.
--   IsTransitionIn n k t     joins nodes below k, and has polynomials over its unknowns and n variables, an image for each of these
--   IsGraphOf g              there is a variable, and all transitions of g are such
use Rattle.std.specs.Prelude.{◌≡◌, ℕ, ◌+◌, ◌<◌, ◌≤◌, length, All}
use Rattle.monos.specs.Variables.{most_variables}
use Rattle.poly.specs.Standing.{IsInVariables}
use Rattle.program_model.specs.PathEvents.{most_unknowns}
use Rattle.program_model.specs.declared.graph.Transition.{Transition}
use Rattle.program_model.specs.declared.graph.Graph.{Graph}

pub record IsTransitionIn (n k : ℕ) (t : Transition) : Type 0 where
  pub from_node : t.from < k
  pub to_node : t.to < k
  pub few_unknowns : t.unknowns ≤ most_unknowns
  pub few : t.unknowns + n ≤ most_variables
  pub zeros : All (IsInVariables (t.unknowns + n)) t.zeros.items
  pub images : All (IsInVariables (t.unknowns + n)) t.images.items
  pub count : length t.images.items ≡ n

pub record IsGraphOf (g : Graph) : Type 0 where
  pub some : 0 < g.variables
  pub start : 0 < g.nodes
  pub transitions : All (IsTransitionIn g.variables g.nodes) g.transitions.items
