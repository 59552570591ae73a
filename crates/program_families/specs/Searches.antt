-- Tasks in a search.
--   IsNextIn G d q parts j     the parts are those of a search in the graph G, whose zeros are polynomials in order, and j is the task that comes next
use Rattle.std.specs.Prelude.{ℕ, ◌+◌, ◌≤◌, List}
use Rattle.algebra.specs.Each.{Each}
use Rattle.algebra.specs.In.{In}
use Rattle.algebra.specs.Fraction.{ℚ}
use Rattle.polynomials.specs.Order.{grevlex}
use Rattle.polynomials.specs.Polynomial.{IsPolynomial}
use Rattle.flows.specs.Graph.{Transition, Graph, IsGraph}
use Rattle.flows.specs.NextTask.{HasJob}
use Rattle.flows.specs.Searching.{Part, state_of, IsSearch}
use Rattle.flows.specs.Tasks.{Job}

pub record IsNextIn (G : Graph) (d q : ℕ) (parts : List Part) (j : Job) : Type 0 where
  pub graph : IsGraph G
  pub zeros : (t : Transition) → In t G.transitions
      → Each (IsPolynomial ℚ grevlex (t.unknowns + G.variables)) t.zeros
  pub modulus : 2 ≤ q
  pub search : IsSearch G d q parts
  pub next : HasJob G d q (state_of G parts) j
