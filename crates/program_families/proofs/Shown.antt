-- What a task shows, where it has ended.
--   shown_kept       with all rests 0
--   generators_are   the generators are polynomials in order
--   graph_in, is_graph     a graph that has the transition alone
use Rattle.std.proofs.Common.{◌≡◌, ℕ, suc, ◌+◌, List, [], ◌∷◌, ◌∙◌, All, length, arith}
use Rattle.std.proofs.lemmas.List.{length-map}
use Rattle.std.proofs.lemmas.List.Elements.{All-head, All-tail}
use Rattle.algebra.specs.Each.{Each}
use Rattle.algebra.specs.Fraction.{ℚ}
use Rattle.polynomials.specs.Order.{grevlex}
use Rattle.polynomials.specs.Polynomial.{AllArity, IsPolynomial}
use Rattle.machines.specs.Journal as journal
use Rattle.closures.specs.Monomials.{monomials_up_to}
use Rattle.poly.specs.Seen.{terms_in, terms_each}
use Rattle.poly.specs.Standing.{IsInVariables}
use Rattle.poly.proofs.Standing.{polynomial_over, arities_over}
use Rattle.loop_model.specs.FracPoly.{FracPoly}
use Rattle.flows.specs.Graph.{Graph, IsGraph}
use Rattle.flows.specs.Tasks.{kept}
use Rattle.flows.proofs.InFront.{generators_polynomials}
use Rattle.flows.proofs.TaskEnds.{task_kept}
use Rattle.program_families.specs.Views.{job_of, transition_in, arity_in, generators_in, IsJob}
use Rattle.program_families.specs.Following.{ComesNext}
use Rattle.program_families.specs.Shown.{IsKeeping}
use Rattle.program_families.specs.declared.job.Job.{Job}

polynomials_over : (m : ℕ) (ps : List FracPoly) → All (IsInVariables m) ps
    → Each (IsPolynomial ℚ grevlex m) (terms_each ps)
unfolding Each
polynomials_over m [] a = tt
polynomials_over m (p ∷ ps) a = (
  polynomial_over m p (All-head (IsInVariables m) p ps a),
  polynomials_over m ps (All-tail (IsInVariables m) p ps a),
)

module _ (j : Job) (is : IsJob j) where
  pub generators_are : Each (IsPolynomial ℚ grevlex (arity_in j)) (generators_in j)
  generators_are =
      generators_polynomials j.variables (transition_in j) (terms_each j.source.now.items)
      (polynomials_over j.variables j.source.now.items is.source)
      (polynomials_over (arity_in j) j.transition.now.zeros.items is.zeros)

  images_over : AllArity (arity_in j) (terms_each j.transition.now.images.items)
  images_over = arities_over (arity_in j) j.transition.now.images.items is.images

  count : length (terms_each j.transition.now.images.items) ≡ j.variables
  count = length-map j.transition.now.images.items terms_in ∙ is.count

  abbrev pub graph_in : Graph
  graph_in = record {
    variables = j.variables;
    nodes = suc (j.transition.now.from + j.transition.now.to);
    transitions = transition_in j ∷ [];
  }

  pub is_graph : IsGraph graph_in
  unfolding Each
  is_graph = (
    record {
      from_node = omega arith;
      to_node = omega arith;
      zeros = arities_over (arity_in j) j.transition.now.zeros.items is.zeros;
      images = images_over;
      count = count;
    },
    tt,
  )

  pub shown_kept : (d : ℕ) → j.monomials.now.items ≡ monomials_up_to j.variables d
      → (start es : List journal.Entry) → ComesNext j.variables (job_of j) start es kept
      → IsKeeping j
  shown_kept d are start es c =
      task_kept graph_in (job_of j) generators_are images_over count d are c.follows.entries
      c.state c.follows.run c.is
