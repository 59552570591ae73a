-- Where the identities of a certificate multiply out to too many terms.
--   start_terms basis images i      how many terms the composition of element i multiplies out to
--   step_terms basis images rows i      so with the combination of its cofactors
--   total f n                       the sum of f over the numbers below n
--   IsFirstLong f n i               i, below n, is the first number up to which this sum is above most_terms
--   IfLong e place C                e names the place and an element of which C holds
use Rattle.std.specs.Prelude.{◌≡◌, ℕ, zero, suc, ◌+◌, ◌<◌, ◌≤◌, List, [], get_or}
use Rattle.algebra.specs.Fraction.{Fraction}
use Rattle.polynomials.specs.Terms.{Terms}
use Rattle.expansion.specs.Counts.{most_terms, composition_terms, combination_terms}
use Rattle.cert_checker.specs.Places.{Place}
use Rattle.cert_checker.specs.Views.{place_view}
use Rattle.cert_checker.specs.declared.error.CheckError.{CheckError}
use Rattle.cert_checker.specs.declared.error.CheckError.TheVariants.{Map, Limit, Wide, Memory}

module _ (basis images : List (Terms Fraction)) where
  abbrev pub start_terms : ℕ → ℕ
  start_terms i = composition_terms (get_or basis i []) images

  abbrev pub step_terms : List (List (Terms Fraction)) → ℕ → ℕ
  step_terms rows i = start_terms i + combination_terms (get_or rows i []) basis

unfoldable pub total : (ℕ → ℕ) → ℕ → ℕ
total f zero = 0
total f (suc n) = total f n + f n

pub record IsFirstLong (f : ℕ → ℕ) (n i : ℕ) : Type 0 where
  pub within : i < n
  pub few : total f i ≤ most_terms
  pub long : most_terms < total f (suc i)

abbrev pub IfLong : CheckError → Place → (ℕ → Type 0) → Type 0
IfLong (Map e) place C = ⊥
IfLong (Limit at i) place C = (place_view at ≡ place) × C i
IfLong (Wide at i) place C = ⊥
IfLong Memory place C = ⊥
