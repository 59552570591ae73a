-- The monomials up to a degree, in ascending order.
--   join_below f n            the lists f 0, f 1, .. before f n, behind one another
--   of_degree t es            each of the monomials es times the power of one variable more that gives it the degree t
--   monomials_up_to m d       the monomials in m variables of degree at most d: by their degrees, and those of one degree by what they are without the last variable
--   AreAscending es           each of the monomials es is below all later ones
--   AreMonomialsUpTo m d es   they are the monomials in m variables of degree at most d, in ascending order
use Rattle.std.specs.Prelude.{◌≡◌, ℕ, zero, suc, ◌-◌, ◌≤◌, List, [], ◌∷◌, ◌++◌, map, length, sum}
use Rattle.std.specs.declared.cmp.Ordering.TheVariants.{Less}
use Rattle.algebra.specs.Each.{Each}
use Rattle.algebra.specs.In.{In}
use Rattle.polynomials.specs.Order.{compare, grevlex}

unfoldable pub join_below : {X : Type 0} → (ℕ → List X) → ℕ → List X
join_below f zero = []
join_below f (suc n) = join_below f n ++ f n

abbrev pub of_degree : ℕ → List (List ℕ) → List (List ℕ)
of_degree t es = map (λ e. e ++ (t - sum e) ∷ []) es

unfoldable pub monomials_up_to : ℕ → ℕ → List (List ℕ)
monomials_up_to zero d = [] ∷ []
monomials_up_to (suc m) d = join_below (λ t. of_degree t (monomials_up_to m t)) (suc d)

unfoldable pub AreAscending : List (List ℕ) → Type 0
AreAscending [] = Unit {0}
AreAscending (e ∷ es) = Each (λ d. compare grevlex e d ≡ Less) es × AreAscending es

pub record AreMonomialsUpTo (m d : ℕ) (es : List (List ℕ)) : Type 0 where
  pub arities : Each (λ e. length e ≡ m) es
  pub degrees : Each (λ e. sum e ≤ d) es
  pub ascend : AreAscending es
  pub covers : (e : List ℕ) → length e ≡ m → sum e ≤ d → In e es
