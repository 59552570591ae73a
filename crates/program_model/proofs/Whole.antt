-- Forming of a whole program.
--   stops_inside, stops_end, all_free     what is done, in its two parts
--   first_front                           where it begins;  error_stops: the error that is handed on
--   end_is, edges_are                     the node of the end, and the transitions
--   same_graph                            so it is the graph of the program
use Rattle.std.proofs.Common.{◌≡◌, ℕ, suc, ◌+◌, List, [], ◌∷◌, ◌++◌, map, length, arith, sym, ap₂, subst, subst₂, Result, Ok, Err}
use Rattle.std.specs.Prelude.{IfErr}
use Rattle.std.specs.Result.{IsErrAnd}
use Rattle.flows.specs.Chart as chart
use Rattle.flows.specs.Chart.{Edge, closed, all_edges}
use Rattle.loop_model.specs.declared.map_error.MapError.{MapError}
use Rattle.program_model.specs.Program.{Program, Block}
use Rattle.program_model.specs.Code.{code_of}
use Rattle.program_model.specs.Events.{AreFree, Stops}
use Rattle.program_model.specs.PathEvents.{E}
use Rattle.program_model.specs.Forming.{marks_of, points_of, exits_of, edges_of, closings, block_events, program_events}
use Rattle.program_model.specs.Points.{ArePoints}
use Rattle.program_model.specs.UnderWay.{IsReady, IsUnderWay, AreOpen}
use Rattle.program_model.specs.Fronts.{AreEdges, IsFront}
use Rattle.program_model.specs.declared.front.Front.{Front}
use Rattle.program_model.specs.declared.path.Path.{Path}
use Rattle.program_model.specs.declared.graph.Point.{Point}
use Rattle.program_model.specs.declared.graph.Transition.{Transition}
use Rattle.program_model.specs.declared.graph.Graph.{Graph}
use Rattle.program_model.specs.GraphView.{transition_of, graph_of}
use Rattle.flows.specs.Paths.{transition}
use Rattle.flows.specs.Same.{AreSameTransitions, IsSameGraph}
use Rattle.program_model.proofs.Composed.{length-marks_of}
use Rattle.program_model.proofs.EventLaws.{free_append, stops_front, stops_behind}
use Rattle.program_model.proofs.Moving.{O}
use Rattle.program_model.proofs.Pointed.{points_length}

-- v is the number of variables, and b its statements
module _ (p : Program E) (v : ℕ) (b : Block E) (same : v ≡ length p.names)
    (is : b ≡ p.statements) where
  abbrev out : List O
  out = exits_of 1 b (chart.at 0)

  abbrev es : List (Edge E)
  es = edges_of 1 b (chart.at 0)

  events : block_events v 1 0 b (chart.at 0) ++ closings p.end (length es) out ≡ program_events p
  events = ap₂ (λ n b. block_events n 1 0 b (chart.at 0)
      ++ closings p.end (length (edges_of 1 b (chart.at 0))) (exits_of 1 b (chart.at 0))) same is

  pub stops_inside : (x : MapError) → Stops (block_events v 1 0 b (chart.at 0)) x
      → Stops (program_events p) x
  stops_inside x h = subst (λ es. Stops es x) events
      (stops_front (block_events v 1 0 b (chart.at 0)) (closings p.end (length es) out) x h)

  module _ (f : AreFree (block_events v 1 0 b (chart.at 0))) where
    pub stops_end : (x : MapError) → Stops (closings p.end (length es) out) x
        → Stops (program_events p) x
    stops_end x h = subst (λ es. Stops es x) events
        (stops_behind (block_events v 1 0 b (chart.at 0)) (closings p.end (length es) out) x f h)

    pub all_free : AreFree (closings p.end (length es) out) → AreFree (program_events p)
    all_free g = subst AreFree events (free_append (block_events v 1 0 b (chart.at 0))
        (closings p.end (length es) out) f g)

  pub end_is : (qs : List Point) (k : ℕ) → ArePoints v (marks_of b) qs → k ≡ length qs
      → k + 1 ≡ suc (points_of b)
  end_is qs k q e =
      let a = points_length v (marks_of b) qs q in
      let l = length-marks_of b in
      omega (arith, a, l, e)

  pub edges_are : (k : ℕ) (ts : List Transition) → k ≡ suc (points_of b)
      → AreEdges v (es ++ map (closed k) out) ts
      → AreEdges (length p.names) (all_edges (code_of p.statements)) ts
  edges_are k ts e h =
      subst₂ (λ n b. AreEdges n (all_edges (code_of b)) ts) same is
      (subst (λ j. AreEdges v (es ++ map (closed j) out) ts) e h)

pub first_front : (v : ℕ) (f : Front) (p : Path) → f.points.items ≡ []
    → f.transitions.items ≡ [] → f.paths.items ≡ p ∷ [] → IsReady v p → IsUnderWay v 0 [] [] p
    → IsFront v [] [] (chart.at 0) f
first_front v f p a b c r w = record {
  points = subst (ArePoints v []) (sym a) tt;
  edges = subst (AreEdges v []) (sym b) tt;
  paths = subst (AreOpen v (chart.at 0)) (sym c) (record { ready = r; way = w }, tt);
}

-- the error that `?` hands on
pub error_stops : {X : Type 0} (p : Program E) (x : MapError) (r : Result X MapError)
    → IsErrAnd r (λ y. y ≡ x) → Stops (program_events p) x → IfErr r (Stops (program_events p))
error_stops p x (Ok t) e h = tt
error_stops p x (Err y) e h = subst (Stops (program_events p)) (sym e) h

-- ---- the same graph
same_transitions : (n : ℕ) (es : List (Edge E)) (ts : List Transition) → AreEdges n es ts
    → AreSameTransitions (map transition_of ts)
    (map (λ (e : Edge E). transition n e.from e.to e.steps) es)
unfolding AreSameTransitions
same_transitions n [] [] h = tt
same_transitions n [] (t ∷ ts) h = absurd h
same_transitions n (e ∷ es) [] h = absurd h
same_transitions n (e ∷ es) (t ∷ ts) h = (h.0.same, same_transitions n es ts h.1)

pub same_graph : (p : Program E) (g : Graph) → g.variables ≡ length p.names
    → g.nodes ≡ suc (suc (points_of p.statements))
    → AreEdges (length p.names) (all_edges (code_of p.statements)) g.transitions.items
    → IsSameGraph (graph_of g) (chart.graph (length p.names) (code_of p.statements))
same_graph p g v k h = record {
  variables = v;
  nodes = k;
  transitions = same_transitions (length p.names) (all_edges (code_of p.statements))
      g.transitions.items h;
}
