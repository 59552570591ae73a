-- The operations by which the polynomials that a task divides are formed.
--   image_operations n t p     those of p with the images of t for its variables, as compositions are formed
--   times_operations t rs o    that of the rest of the lesser monomial times an image; none for the monomial 1
--   AreImagesBehind t gs       the gs are as many polynomials as t has unknowns, and behind them its images
--   plain_product n t rs o     what is divided for a monomial, before like terms are collected
use Rattle.std.specs.Prelude.{◌≡◌, ℕ, ◌+◌, List, [], ◌∷◌, ◌++◌, length, get_or, Option, Some, None}
use Rattle.algebra.specs.Fraction.{Fraction, ℚ}
use Rattle.polynomials.specs.Terms.{Terms, constant, times}
use Rattle.loop_model.specs.Operations.{Operation, product_at}
use Rattle.counter_run.specs.Composition.{composition_operations}
use Rattle.flows.specs.Graph.{Transition}
use Rattle.flows.specs.Tasks.{Rests, rest_in}

abbrev pub image_operations : ℕ → Transition → Terms Fraction → List Operation
image_operations n t p = composition_operations (t.unknowns + n) t.images [] p

abbrev pub times_operations : Transition → Rests → Option (List ℕ × ℕ) → List Operation
times_operations t rs None = []
times_operations t rs (Some (e, k)) = product_at 0 (rest_in rs e) (get_or t.images k []) ∷ []

abbrev pub plain_product : ℕ → Transition → Rests → Option (List ℕ × ℕ) → Terms Fraction
plain_product n t rs None = constant (t.unknowns + n) ℚ.one
plain_product n t rs (Some (e, k)) = times ℚ (rest_in rs e) (get_or t.images k [])

pub record AreImagesBehind (t : Transition) (gs : List (Terms Fraction)) : Type 0 where
  pub first : List (Terms Fraction)
  pub count : length first ≡ t.unknowns
  pub order : gs ≡ first ++ t.images
