-- What graphs of the code are seen as.
--   transition_of t, graph_of g
use Rattle.std.specs.Prelude.{map}
use Rattle.flows.specs.Graph as flows
use Rattle.poly.specs.Seen.{terms_each}
use Rattle.program_model.specs.declared.graph.Transition.{Transition}
use Rattle.program_model.specs.declared.graph.Graph.{Graph}

abbrev pub transition_of : Transition → flows.Transition
transition_of t = record {
  from = t.from;
  to = t.to;
  unknowns = t.unknowns;
  zeros = terms_each t.zeros.items;
  images = terms_each t.images.items;
}

abbrev pub graph_of : Graph → flows.Graph
graph_of g = record {
  variables = g.variables;
  nodes = g.nodes;
  transitions = map transition_of g.transitions.items;
}
