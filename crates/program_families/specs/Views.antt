-- What the code's tasks are seen as.
--   job_of j            the task of a transition
--   target_in j         the list where the transition leads to, if there is one
--   transition_in j     the transition;  arity_in j: how many unknowns and variables there are
--   generators_in j     the source's list, with the unknowns in front, and the zeros
--   pair_of r, rests_of rs     the rests of monomials, the latest first
--   HaveArity m rs      the rests are over m variables
--   IsJob j             its transition's polynomials are over the unknowns and the variables, with an image for each variable, and the lists and the monomials are over the variables; there are few polynomials
use Rattle.std.specs.Prelude.{◌≡◌, ℕ, ◌+◌, ◌≤◌, List, [], ◌∷◌, length, Option, option_map, All, IfSome}
use Rattle.algebra.specs.Fraction.{Fraction}
use Rattle.polynomials.specs.Terms.{Terms}
use Rattle.flows.specs.Graph as graph
use Rattle.flows.specs.Family.{generators}
use Rattle.flows.specs.Tasks as task
use Rattle.monos.specs.Variables.{most_variables}
use Rattle.poly.specs.Seen.{terms_in, terms_each}
use Rattle.poly.specs.Standing.{IsInVariables}
use Rattle.complete.specs.Limits.{generators_limit}
use Rattle.program_model.specs.GraphView.{transition_of}
use Rattle.program_families.specs.declared.job.Job.{Job}
use Rattle.program_families.specs.declared.job.Rest.{Rest}

abbrev pub transition_in : Job → graph.Transition
transition_in j = transition_of j.transition.now

abbrev pub target_in : Job → Option (List (Terms Fraction))
target_in j = option_map (λ gs. terms_each gs.now.items) j.target

abbrev pub job_of : Job → task.Job
job_of j = record {
  place = j.place;
  transition = transition_of j.transition.now;
  source = terms_each j.source.now.items;
  target = target_in j;
  monomials = j.monomials.now.items;
}

abbrev pub arity_in : Job → ℕ
arity_in j = j.transition.now.unknowns + j.variables

abbrev pub generators_in : Job → List (Terms Fraction)
generators_in j = generators (transition_in j) (λ v. terms_each j.source.now.items)

abbrev pub pair_of : Rest → List ℕ × Terms Fraction
pair_of r = (r.monomial, terms_in r.polynomial)

unfoldable pub rests_onto : task.Rests → List Rest → task.Rests
rests_onto rs [] = rs
rests_onto rs (r ∷ more) = rests_onto (pair_of r ∷ rs) more

abbrev pub rests_of : List Rest → task.Rests
rests_of rs = rests_onto [] rs

abbrev pub HaveArity : ℕ → List Rest → Type 0
HaveArity m rs = All (λ r. r.polynomial.arity ≡ m) rs

pub record IsJob (j : Job) : Type 0 where
  pub few_variables : arity_in j ≤ most_variables
  pub zeros : All (IsInVariables (arity_in j)) j.transition.now.zeros.items
  pub images : All (IsInVariables (arity_in j)) j.transition.now.images.items
  pub count : length j.transition.now.images.items ≡ j.variables
  pub source : All (IsInVariables j.variables) j.source.now.items
  pub few : length j.source.now.items + length j.transition.now.zeros.items ≤ generators_limit
  pub target : IfSome j.target (λ gs. All (IsInVariables j.variables) gs.now.items)
  pub monomials : All (λ m. length m ≡ j.variables) j.monomials.now.items
