use Rattle.std.proofs.Common.{◌≡◌, ℕ, ◌<◌, length, get_or, map, Vec, Global}
use Rattle.std.specs.Prelude.{vec_len, codes}
use Rattle.flows.specs.Certificate.{transition_at}
use Rattle.program_model.specs.GraphView.{graph_of}
use Rattle.program_checker.specs.Fits.{IsStepFor}
use Rattle.program_checker.specs.Form.{step_at}
use Rattle.program_checker.specs.declared.cert.Row.{Row}
use Rattle.program_checker.proofs.StepReads.{StepsSoFar}
use Rattle.program_checker.proofs.steps.StepReader.read_each.Given as goal

abbrev pub invariant-loop-i : goal.invariant-loop-i
invariant-loop-i l = record {
  reads : StepsSoFar (λ j. step_at l.self.names.now (map vec_len l.self.lists.now.items)
      (transition_at (graph_of l.self.graph.now) j)) (codes "/steps") l.list l.i l.found;
  fits : (j : ℕ) (rows : Vec Row Global) → j < length l.found.items
      → rows ≡ get_or l.found.items j rows
      → IsStepFor l.self.graph.now l.self.lists.now j rows;
}
