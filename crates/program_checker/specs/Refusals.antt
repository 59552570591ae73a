-- The causes of the checker's refusals.
--   AreGenerators g c j gens     gens are what the polynomials behind the transition j have to be combinations of, with their terms in descending order
--   WideHere g c j i         before element i the identities of the transition j hold, and the weight of an operation of the identity of element i is past
--   LongHere g c j i         element i is the first up to which the identities of the transition j multiply out to more than most_terms terms
--   ShortStep g c j          they multiply out to at most most_terms terms
--   IfHere g c j e           the cause of the refusal e at the transition j
--   Behind g c j             there is a transition j, and all identities of those before it hold and aren't too long
--   IfUnjudged g c e          the cause of the refusal e; want of memory is free
use Rattle.std.specs.Prelude.{◌≡◌, ℕ, ◌+◌, ◌<◌, ◌≤◌, List, [], get_or, length}
use Rattle.algebra.specs.Fraction.{Fraction}
use Rattle.polynomials.specs.Terms.{Terms}
use Rattle.expansion.specs.Counts.{most_terms}
use Rattle.cert_checker.specs.Long.{total, IsFirstLong}
use Rattle.cert_checker.specs.Wide.{IsMapOf}
use Rattle.flows.specs.Family.{generators}
use Rattle.flows.specs.Graph as flows
use Rattle.flows.specs.Certificate.{transition_at, family, PassesStep}
use Rattle.program_checker.specs.Rows.{PairRow}
use Rattle.program_model.specs.GraphView.{graph_of}
use Rattle.program_checker.specs.View.{certificate_of, pair_steps}
use Rattle.program_checker.specs.Identities.{StepIsPast, step_terms}
use Rattle.program_model.specs.declared.graph.Graph.{Graph}
use Rattle.program_checker.specs.declared.cert.ProgramCert.{ProgramCert}
use Rattle.program_checker.specs.declared.error.CheckError.{CheckError}
use Rattle.program_checker.specs.declared.error.CheckError.TheVariants.{Limit, Wide, Memory}

module _ (g : Graph) (c : ProgramCert) where
  abbrev pub at : ℕ → flows.Transition
  at j = transition_at (graph_of g) j

  abbrev pub elements_at : ℕ → List (Terms Fraction)
  elements_at j = family (certificate_of c) (at j).to

  abbrev pub rows_at : ℕ → List PairRow
  rows_at j = get_or (pair_steps c) j []

  abbrev pub AreGenerators : ℕ → List (Terms Fraction) → Type 0
  AreGenerators j gens = IsMapOf ((at j).unknowns + g.variables) gens
      (generators (at j) (family (certificate_of c)))

  abbrev pub Passes : ℕ → ℕ → Type 0
  Passes j i = PassesStep (graph_of g) (certificate_of c) j i

  pub record WideHere (j i : ℕ) : Type 0 where
    pub within : i < length (elements_at j)
    pub before : (k : ℕ) → k < i → Passes j k
    pub gens : List (Terms Fraction)
    pub is : AreGenerators j gens
    pub past : StepIsPast (elements_at j) (at j).images gens (rows_at j) i

  pub record LongHere (j i : ℕ) : Type 0 where
    pub gens : List (Terms Fraction)
    pub is : AreGenerators j gens
    pub long : IsFirstLong (step_terms (elements_at j) (at j).images gens (rows_at j))
        (length (elements_at j)) i

  pub record ShortStep (j : ℕ) : Type 0 where
    pub gens : List (Terms Fraction)
    pub is : AreGenerators j gens
    pub few : total (step_terms (elements_at j) (at j).images gens (rows_at j))
        (length (elements_at j)) ≤ most_terms

  abbrev pub IfHere : ℕ → CheckError → Type 0
  IfHere j (Limit k i) = (k ≡ j) × LongHere j i
  IfHere j (Wide k i) = (k ≡ j) × ShortStep j × WideHere j i
  IfHere j Memory = Unit {0}

  pub record Behind (j : ℕ) : Type 0 where
    pub within : j < length g.transitions.items
    pub before : (a k : ℕ) → a < j → k < length (elements_at a) → Passes a k
    pub short : (a : ℕ) → a < j → ShortStep a

  abbrev pub IfUnjudged : CheckError → Type 0
  IfUnjudged (Limit j i) = Behind j × LongHere j i
  IfUnjudged (Wide j i) = Behind j × ShortStep j × WideHere j i
  IfUnjudged Memory = Unit {0}
