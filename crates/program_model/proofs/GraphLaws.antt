-- The graph of a program is one of the code's.
--   graph_stands
use Rattle.std.proofs.Common.{◌<◌, ◌≤◌, ℕ, suc, List, [], ◌∷◌, map, length, arith, sym, subst, subst₂, ◌∙◌, All}
use Rattle.std.proofs.lemmas.List.{length-map}
use Rattle.std.proofs.lemmas.List.Elements.{All-nil, All-cons}
use Rattle.algebra.specs.Each.{Each}
use Rattle.algebra.specs.Fraction.{ℚ}
use Rattle.polynomials.proofs.Same.{AllSame-length}
use Rattle.flows.specs.Chart as chart
use Rattle.flows.specs.Chart.{Edge, all_edges}
use Rattle.flows.specs.Code.{points}
use Rattle.flows.specs.Graph.{IsTransition}
use Rattle.flows.specs.Paths.{transition}
use Rattle.flows.specs.Same.{IsSameGraph}
use Rattle.flows.proofs.Programs.{graph_is}
use Rattle.poly.specs.Seen.{terms_in}
use Rattle.program_model.specs.Program.{Program}
use Rattle.program_model.specs.Limits.{most_names}
use Rattle.program_model.specs.Code.{code_of}
use Rattle.program_model.specs.PathEvents.{E}
use Rattle.program_model.specs.GraphView.{graph_of}
use Rattle.program_model.specs.Graphs.{IsTransitionIn, IsGraphOf}
use Rattle.program_model.specs.Fronts.{AreEdges}
use Rattle.program_model.specs.declared.graph.Transition.{Transition}
use Rattle.program_model.specs.declared.graph.Graph.{Graph}

module _ (n k : ℕ) (few : n ≤ most_names) where
  transitions_stand : (es : List (Edge E)) (ts : List Transition)
      → Each (IsTransition n k) (map (λ (e : Edge E). transition n e.from e.to e.steps) es)
      → AreEdges n es ts → All (IsTransitionIn n k) ts
  unfolding Each
  transitions_stand [] [] a h = All-nil (IsTransitionIn n k)
  transitions_stand [] (t ∷ ts) a h = absurd h
  transitions_stand (e ∷ es) [] a h = absurd h
  transitions_stand (e ∷ es) (t ∷ ts) a h =
      let is = h.0 in
      let u = is.few in
      All-cons (IsTransitionIn n k) t ts (record {
        from_node = subst (λ i. i < k) (sym is.same.from) a.0.from_node;
        to_node = subst (λ i. i < k) (sym is.same.to) a.0.to_node;
        few_unknowns = u;
        few = omega (arith, u, few);
        zeros = is.zeros;
        images = is.images;
        count = sym (length-map t.images.items terms_in)
            ∙ AllSame-length ℚ _ _ is.same.images ∙ a.0.count;
      }) (transitions_stand es ts a.1 h.1)

pub graph_stands : (p : Program E) (g : Graph) → 0 < length p.names → length p.names ≤ most_names
    → IsSameGraph (graph_of g) (chart.graph (length p.names) (code_of p.statements))
    → AreEdges (length p.names) (all_edges (code_of p.statements)) g.transitions.items
    → IsGraphOf g
graph_stands p g some few s h =
    let n = length p.names in
    let c = code_of p.statements in
    let e = s.nodes in
    record {
      some = subst (λ n. 0 < n) (sym s.variables) some;
      start = omega (arith, e);
      transitions = subst₂ (λ n k. All (IsTransitionIn n k) g.transitions.items)
          (sym s.variables) (sym s.nodes)
          (transitions_stand n (suc (suc (points c))) few (all_edges c) g.transitions.items
          (graph_is n c) h);
    }
