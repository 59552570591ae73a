use Rattle.std.proofs.Common.{◌<◌, ◌≤◌, ◌+◌, [], length, arith, sym, ap, subst, subst₂, ◌∙◌}
use Rattle.flows.specs.Chart as chart
use Rattle.program_model.specs.Limits.{most_names}
use Rattle.program_model.specs.WellFormed.{IsBlock}
use Rattle.program_model.specs.StatementView.{block_of}
use Rattle.program_model.specs.ProgramView.{program_of}
use Rattle.program_model.specs.Points.{ArePoints}
use Rattle.program_model.specs.Events.{AreFree, Stops}
use Rattle.program_model.specs.Forming.{marks_of, points_of, exits_of, edges_of, closings}
use Rattle.program_model.proofs.Kept.{kept_block}
use Rattle.program_model.proofs.GraphLaws.{graph_stands}
use Rattle.program_model.proofs.Whole.{stops_inside, stops_end, all_free, end_is, edges_are, first_front, error_stops, same_graph}
use Rattle.program_model.proofs.program.Program.graph.Goals as goal

pub behind_block-requires-clause-block : goal.behind_block-requires-clause-block
behind_block-requires-clause-block c =
    subst₂ IsBlock (sym (c.len-variables.ensures.len ∙ ap length c.names.ensures.names))
    (sym c.statements.ensures) (kept_block c.args.self.now)

pub returns-in_err-front-clause-stops : goal.returns-in_err-front-clause-stops
returns-in_err-front-clause-stops c =
    let p = program_of c.args.self.now in
    let v = c.len-variables.result in
    let b = block_of c.statements.result.now.items in
    let same = c.len-variables.ensures.len ∙ ap length c.names.ensures.names in
    let f = first_front v (record {
      points = c.new.result;
      paths = c.in_ok-vec.field-0;
      transitions = c.new-2.result;
    }) c.in_ok-start.start c.new.ensures.items c.new-2.ensures.items
    c.in_ok-vec.ensures.items c.in_ok-start.ensures.ready c.in_ok-start.ensures.way in
    let x = c.in_err-front.field-0.0 in
    error_stops p x _ c.from_residual-in_err-front.ensures.1
    (stops_inside p v b same c.statements.ensures x
    (c.in_err-front.ensures.makes [] [] (chart.at 0) f))

pub returns-in_err-transitions-clause-stops : goal.returns-in_err-transitions-clause-stops
returns-in_err-transitions-clause-stops c =
    let p = program_of c.args.self.now in
    let v = c.len-variables.result in
    let b = block_of c.statements.result.now.items in
    let same = c.len-variables.ensures.len ∙ ap length c.names.ensures.names in
    let f = first_front v (record {
      points = c.new.result;
      paths = c.in_ok-vec.field-0;
      transitions = c.new-2.result;
    }) c.in_ok-start.start c.new.ensures.items c.new-2.ensures.items
    c.in_ok-vec.ensures.items c.in_ok-start.ensures.ready c.in_ok-start.ensures.way in
    let g = c.in_ok-front.ensures.makes [] [] (chart.at 0) f in
    let x = c.in_err-transitions.field-0.0 in
    error_stops p x _ c.from_residual-in_err-transitions.ensures.1
    (stops_end p v b same c.statements.ensures g.1 x
    (subst (λ a. Stops (closings a (length (edges_of 1 b (chart.at 0)))
    (exits_of 1 b (chart.at 0))) x) c.end.ensures
    (c.in_err-transitions.ensures v _ _ g.0.edges g.0.paths)))

pub returns-clause-points : goal.returns-clause-points
returns-clause-points c =
    let p = program_of c.args.self.now in
    let v = c.len-variables.result in
    let b = block_of c.statements.result.now.items in
    let same = c.len-variables.ensures.len ∙ ap length c.names.ensures.names in
    let f = first_front v (record {
      points = c.new.result;
      paths = c.in_ok-vec.field-0;
      transitions = c.new-2.result;
    }) c.in_ok-start.start c.new.ensures.items c.new-2.ensures.items
    c.in_ok-vec.ensures.items c.in_ok-start.ensures.ready c.in_ok-start.ensures.way in
    let g = c.in_ok-front.ensures.makes [] [] (chart.at 0) f in
    subst₂ (λ k b. ArePoints k (marks_of b) c.in_ok-front.front.points.items) same
    c.statements.ensures g.0.points

pub returns-clause-same : goal.returns-clause-same
returns-clause-same c =
    let p = program_of c.args.self.now in
    let v = c.len-variables.result in
    let b = block_of c.statements.result.now.items in
    let same = c.len-variables.ensures.len ∙ ap length c.names.ensures.names in
    let f = first_front v (record {
      points = c.new.result;
      paths = c.in_ok-vec.field-0;
      transitions = c.new-2.result;
    }) c.in_ok-start.start c.new.ensures.items c.new-2.ensures.items
    c.in_ok-vec.ensures.items c.in_ok-start.ensures.ready c.in_ok-start.ensures.way in
    let g = c.in_ok-front.ensures.makes [] [] (chart.at 0) f in
    let l = c.len-end.ensures in
    let m = c.in_ok-front.front.points.ok.0 in
    let e = end_is p v b same c.statements.ensures c.in_ok-front.front.points.items
    c.len-end.result g.0.points (omega (arith, l, m)) in
    let s = ap points_of c.statements.ensures in
    same_graph p (record {
      variables = v;
      points = c.in_ok-front.front.points;
      nodes = c.len-end.result + 1 + 1;
      transitions = c.in_ok-transitions.transitions;
    }) same (omega (arith, e, s))
    (edges_are p v b same c.statements.ensures (c.len-end.result + 1)
    c.in_ok-transitions.transitions.items e
    (c.in_ok-transitions.ensures v _ _ g.0.edges g.0.paths).0)

pub returns-clause-edges : goal.returns-clause-edges
returns-clause-edges c =
    let p = program_of c.args.self.now in
    let v = c.len-variables.result in
    let b = block_of c.statements.result.now.items in
    let same = c.len-variables.ensures.len ∙ ap length c.names.ensures.names in
    let f = first_front v (record {
      points = c.new.result;
      paths = c.in_ok-vec.field-0;
      transitions = c.new-2.result;
    }) c.in_ok-start.start c.new.ensures.items c.new-2.ensures.items
    c.in_ok-vec.ensures.items c.in_ok-start.ensures.ready c.in_ok-start.ensures.way in
    let g = c.in_ok-front.ensures.makes [] [] (chart.at 0) f in
    let l = c.len-end.ensures in
    let m = c.in_ok-front.front.points.ok.0 in
    edges_are p v b same c.statements.ensures (c.len-end.result + 1)
    c.in_ok-transitions.transitions.items
    (end_is p v b same c.statements.ensures c.in_ok-front.front.points.items c.len-end.result
    g.0.points (omega (arith, l, m)))
    (c.in_ok-transitions.ensures v _ _ g.0.edges g.0.paths).0

pub returns-clause-free : goal.returns-clause-free
returns-clause-free c =
    let p = program_of c.args.self.now in
    let v = c.len-variables.result in
    let b = block_of c.statements.result.now.items in
    let same = c.len-variables.ensures.len ∙ ap length c.names.ensures.names in
    let f = first_front v (record {
      points = c.new.result;
      paths = c.in_ok-vec.field-0;
      transitions = c.new-2.result;
    }) c.in_ok-start.start c.new.ensures.items c.new-2.ensures.items
    c.in_ok-vec.ensures.items c.in_ok-start.ensures.ready c.in_ok-start.ensures.way in
    let g = c.in_ok-front.ensures.makes [] [] (chart.at 0) f in
    all_free p v b same c.statements.ensures g.1
    (subst (λ a. AreFree (closings a (length (edges_of 1 b (chart.at 0)))
    (exits_of 1 b (chart.at 0)))) c.end.ensures
    (c.in_ok-transitions.ensures v _ _ g.0.edges g.0.paths).1)

pub returns-clause-graph : goal.returns-clause-graph
returns-clause-graph c =
    let e = c.names.ensures.names in
    graph_stands (program_of c.args.self.now) _
    (subst (λ xs. 0 < length xs) e c.names.ensures.some)
    (subst (λ xs. length xs ≤ most_names) e c.names.ensures.few)
    (returns-clause-same c) (returns-clause-edges c)
