-- The task that comes next in a search.
--   target_of l       the list of a node, if it has one
--   HasJob s j        j is the task that comes next where the state is s
use Rattle.std.specs.Prelude.{◌≡◌, ◌≢◌, ℕ, List, Option, Some, None}
use Rattle.algebra.specs.Fraction.{Fraction}
use Rattle.polynomials.specs.Terms.{Terms}
use Rattle.flows.specs.Graph.{Graph}
use Rattle.flows.specs.Kept.{Listing, unlisted, listed, untold}
use Rattle.flows.specs.Searching.{State, monomials, list_at, IsNextTransition}
use Rattle.flows.specs.Tasks.{Job}

abbrev pub target_of : Listing → Option (List (Terms Fraction))
target_of unlisted = None
target_of (listed gs) = Some gs
target_of (untold e) = None

module _ (G : Graph) (d q : ℕ) where
  pub record HasJob (s : State) (j : Job) : Type 0 where
    pub next : IsNextTransition G s j.place j.transition
    pub source : j.source ≡ list_at s (let t = j.transition in t.from)
    pub made : (let t = j.transition in let x = s.nodes t.to in x.listing) ≢ unlisted
    pub target : j.target ≡ target_of (let t = j.transition in let x = s.nodes t.to in x.listing)
    pub monomials : j.monomials ≡ monomials G d q
