-- How many terms compositions multiply out to, where products that are equal but for their order count once.
--   power_length n e               how many products of e of n terms there are, whatever their order: n (n + 1) .. (n + e - 1) / e!
--   product_length ns e            how many terms the product of sums of so many terms, each as often as e says, multiplies out to
--   term_length qs t               how many terms the term t multiplies out to with the qs for its variables
--   composition_length p qs, list_length ps qs     so the terms of p, together, and so the ps
--   term_next t                    how many with n + 1 for the first variable n, and one term for each other
--   next_length p, next_lengths ps     so the terms of p, together, and so the ps
use Rattle.std.specs.Prelude.{ℕ, zero, suc, ◌+◌, ◌*◌, ◌/◌, List, [], ◌∷◌, get_or, map}
use Rattle.std.specs.List.{sum_by}
use Rattle.polynomials.specs.Terms.{Terms}
use Rattle.expansion.specs.Counts.{factor_terms}

unfoldable pub power_length : ℕ → ℕ → ℕ
power_length n zero = 1
power_length n (suc e) = power_length n e * (n + e) / (e + 1)

unfoldable pub product_length : List ℕ → List ℕ → ℕ
product_length [] e = 1
product_length (n ∷ ns) [] = 1
product_length (n ∷ ns) (k ∷ e) = power_length n k * product_length ns e

module _ {A : Type 0} where
  abbrev pub term_length : List (Terms A) → List ℕ × A → ℕ
  term_length qs t = product_length (map factor_terms qs) t.0

  abbrev pub composition_length : Terms A → List (Terms A) → ℕ
  composition_length p qs = sum_by (term_length qs) p

  abbrev pub list_length : (ps qs : List (Terms A)) → ℕ
  list_length ps qs = sum_by (λ p. composition_length p qs) ps

  abbrev pub term_next : List ℕ × A → ℕ
  term_next t = suc (get_or t.0 0 0)

  abbrev pub next_length : Terms A → ℕ
  next_length p = sum_by term_next p

  abbrev pub next_lengths : List (Terms A) → ℕ
  next_lengths ps = sum_by next_length ps
