-- Compositions as sums of multiples of the images of monomials.
--   IsPowerProduct m images e q      q is 1 times the images, each as often as e says, within the limits
--   AreMonomialImages m images ts    so it is of each of ts, its monomial and its image
--   IsComposed m images p c          c is p composed with the images, within the limits, and what it costs
--   IsComposition m images p r       r is such a composition, or stops at an operation of it
--   AddsMultiple c q s r             r is s and c times q, within the limits
--   Adds m images t s r              r is s and the term t composed with the images, within the limits
use Rattle.std.specs.Prelude.{◌≡◌, ℕ, List, [], min, Result, Ok, Err}
use Rattle.std.specs.List.{All}
use Rattle.algebra.specs.Fraction.{Fraction, ℚ}
use Rattle.polynomials.specs.Terms.{Terms, constant, times}
use Rattle.poly.specs.Seen.{terms_in}
use Rattle.poly.specs.Standing.{StandsFor}
use Rattle.loop_model.specs.FracPoly.{FracPoly}
use Rattle.loop_model.specs.Stops.{Forms, Stops}
use Rattle.loop_model.specs.declared.map_error.MapError.{MapError}
use Rattle.counter_run.specs.Composition.{factors, product_of, product_operations, term_product, composition_onto, composition_operations}
use Rattle.counter_run.specs.Costs.{composition_cost, most_count}
use Rattle.counter_run.specs.OpenSums.{IsSumWith}
use Rattle.counter_run.specs.declared.composition.Composition.{Composition}
use Rattle.counter_run.specs.declared.combination.MonomialImage.{MonomialImage}
use Rattle.counter_run.specs.declared.open_sum.OpenSum.{OpenSum}

pub record AddsMultiple (c : Fraction) (q : FracPoly) (s r : OpenSum) : Type 0 where
  pub multiple : FracPoly
  pub is : StandsFor q.arity multiple (times ℚ (constant q.arity c) (terms_in q))
  pub sum : IsSumWith multiple s r

module _ (m : ℕ) (images : List (Terms Fraction)) where
  abbrev pub IsPowerProduct : List ℕ → FracPoly → Type 0
  IsPowerProduct e q =
      Forms m (product_operations (constant m ℚ.one) (factors images e))
      (product_of (constant m ℚ.one) (factors images e)) (Ok q)

  abbrev pub AreMonomialImages : List MonomialImage → Type 0
  AreMonomialImages ts = All (λ t. IsPowerProduct t.monomial t.image) ts

  abbrev pub IsComposed : Terms Fraction → Composition → Type 0
  IsComposed p c =
      Forms m (composition_operations m images [] p) (composition_onto m images [] p)
      (Ok c.polynomial)
      × (c.cost ≡ min (composition_cost m images p) most_count)

  abbrev pub IsComposition : Terms Fraction → Result Composition MapError → Type 0
  IsComposition p (Ok c) = IsComposed p c
  IsComposition p (Err e) = Stops m (composition_operations m images [] p) e

  pub record Adds (t : List ℕ × Fraction) (s r : OpenSum) : Type 0 where
    pub term : FracPoly
    pub formed : Forms m (product_operations (constant m t.1) (factors images t.0))
        (term_product m images t) (Ok term)
    pub sum : IsSumWith term s r
