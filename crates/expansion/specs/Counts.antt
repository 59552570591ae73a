-- How many terms compositions and combinations multiply out to, before like ones are collected.
--   most_terms                 none may multiply out to more
--   factor_terms p             the number of terms of p as a factor: 0 counts as one term
--   product_terms qs e         that of the product of the qs, each as often as e says
--   composition_terms p qs     the sum of these over the terms of p
--   combination_terms qs gs    the sum of the products of the numbers of terms, place by place
--   IsCount n o                o is n where this is at most most_terms, and else nothing
use Rattle.std.specs.Prelude.{◌≡◌, ℕ, ◌+◌, ◌*◌, ◌^◌, ◌<◌, ◌≤◌, List, [], ◌∷◌, length, Option, Some, None}
use Rattle.polynomials.specs.Terms.{Terms}

unfoldable pub most_terms : ℕ
most_terms = 1048576

module _ {A : Type 0} where
  unfoldable pub factor_terms : Terms A → ℕ
  factor_terms [] = 1
  factor_terms (t ∷ p) = length (t ∷ p)

  unfoldable pub product_terms : List (Terms A) → List ℕ → ℕ
  product_terms [] e = 1
  product_terms (q ∷ qs) [] = 1
  product_terms (q ∷ qs) (n ∷ e) = factor_terms q ^ n * product_terms qs e

  unfoldable pub composition_terms : Terms A → List (Terms A) → ℕ
  composition_terms [] qs = 0
  composition_terms (t ∷ p) qs = product_terms qs t.0 + composition_terms p qs

  unfoldable pub combination_terms : List (Terms A) → List (Terms A) → ℕ
  combination_terms [] gs = 0
  combination_terms (q ∷ qs) [] = 0
  combination_terms (q ∷ qs) (g ∷ gs) = length q * length g + combination_terms qs gs

abbrev pub IsCount : ℕ → Option ℕ → Type 0
IsCount n (Some k) = (k ≡ n) × (n ≤ most_terms)
IsCount n None = most_terms < n
