use Rattle.std.proofs.Common.{◌+◌, ◌<◌, length, ap, ap₂, sym, ◌∙◌, arith, subst}
use Rattle.std.proofs.lemmas.List.{length-append}
use Rattle.std.proofs.lemmas.Result.{IfOk-weaker}
use Rattle.serde_json.specs.View.{view}
use Rattle.cert_form.specs.Faults.{ReadsLike}
use Rattle.cert_form.specs.Path.{path_bytes}
use Rattle.program_model.specs.Names.{unknown_names}
use Rattle.program_model.specs.Graphs.{IsTransitionIn}
use Rattle.program_checker.specs.ReadAs.{AreSameRows}
use Rattle.program_checker.proofs.StepShapes.{step_fits, step_reads}
use Rattle.program_checker.proofs.UnknownNames.{unknowns_count}
use Rattle.program_checker.proofs.steps.StepReader.read_step.Goals as goal
use Rattle.program_checker.proofs.steps.StepReader.read_step.Goals.{After-index-transition}

module _ (c : After-index-transition) where
  stands : IsTransitionIn c.args.self.now.graph.now.variables c.args.self.now.graph.now.nodes
      c.index-transition.result.now
  stands = subst (IsTransitionIn c.args.self.now.graph.now.variables
      c.args.self.now.graph.now.nodes)
      (sym c.index-transition.ensures) (c.args.self.now.graphs.transitions c.args.number
      c.index-transition.result.now c.requires.number)

  from_in : c.index-transition.result.now.from < length c.args.self.now.lists.now.items
  from_in = let inside = stands.from_node in
      omega (arith, inside, c.args.self.now.nodes, c.args.self.now.lists.now.ok.0)

  to_in : c.index-transition.result.now.to < length c.args.self.now.lists.now.items
  to_in = let inside = stands.to_node in
      omega (arith, inside, c.args.self.now.nodes, c.args.self.now.lists.now.ok.0)

pub returns-clause-fits : goal.returns-clause-fits
returns-clause-fits c =
    let at = (goal.at.returns-clause-fits c).After-index-transition in
    let t = c.index-transition.result.now in
    IfOk-weaker c.read_step.result _ _ (λ rows are. step_fits c.args.self.now.graph.now
    c.args.self.now.lists.now c.args.number c.requires.number t c.index-transition.ensures
    c.index.result.now c.index-2.result.now c.index.ensures (from_in at) c.index-2.ensures
    (to_in at)
    _ _ _ (ap length c.in_ok-names.ensures
    ∙ length-append (unknown_names t.unknowns) c.args.self.now.names.now
    ∙ ap₂ ◌+◌ (unknowns_count t.unknowns) c.args.self.now.named)
    (ap₂ ◌+◌ c.len.ensures c.len-2.ensures) c.len-3.ensures rows are) c.read_step.ensures.rows

pub returns-clause-reads : goal.returns-clause-reads
returns-clause-reads c =
    let at = (goal.at.returns-clause-reads c).After-index-transition in
    let t = c.index-transition.result.now in
    subst (λ r. ReadsLike AreSameRows r c.read_step.result)
    (sym (step_reads c.args.self.now.graph.now c.args.self.now.lists.now c.args.number
    c.requires.number t c.index-transition.ensures c.index.result.now c.index-2.result.now
    c.index.ensures (from_in at) c.index-2.ensures (to_in at) c.args.self.now.names.now
    c.in_ok-names.names _ _ (path_bytes c.args.path.now) (view c.args.value.now)
    c.in_ok-names.ensures (ap₂ ◌+◌ c.len.ensures c.len-2.ensures) c.len-3.ensures))
    c.read_step.ensures.reads
