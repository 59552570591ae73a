-- The rows of rests.
--   monomials_in p            the monomials of p, in their order;  all_monomials rs: those of all rests
--   IsSetOf ms es             the es are those that stand among the ms, each once, in ascending order
--   numbers_in rs m           the coefficients of m in the rests, in their order
--   IsRowIn rs r              the row has these of its monomial
--   AreRowsOf rs rows         a row for each monomial of the rests, in ascending order
use Rattle.std.specs.Prelude.{◌≡◌, ℕ, List, [], ◌∷◌, ◌++◌, map, All}
use Rattle.algebra.specs.In.{In}
use Rattle.algebra.specs.Fraction.{Fraction, ℚ}
use Rattle.polynomials.specs.Terms.{Terms, coefficient}
use Rattle.closures.specs.Monomials.{AreAscending}
use Rattle.frac128.specs.FracMeaning.{fraction_of}
use Rattle.poly.specs.Seen.{terms_in}
use Rattle.program_families.specs.declared.job.Rest.{Rest}
use Rattle.program_families.specs.declared.rows.Row.{Row}

abbrev pub monomials_in : Terms Fraction → List (List ℕ)
monomials_in p = map (λ t. t.0) p

abbrev pub all_monomials : List Rest → List (List ℕ)
all_monomials [] = []
all_monomials (r ∷ rs) = monomials_in (terms_in r.polynomial) ++ all_monomials rs

pub record IsSetOf (ms es : List (List ℕ)) : Type 0 where
  pub ascend : AreAscending es
  pub only : (e : List ℕ) → In e es → In e ms
  pub all : (e : List ℕ) → In e ms → In e es

abbrev pub numbers_in : List Rest → List ℕ → List Fraction
numbers_in rs m = map (λ r. coefficient ℚ (terms_in r.polynomial) m) rs

abbrev pub IsRowIn : List Rest → Row → Type 0
IsRowIn rs r = map fraction_of r.numbers.items ≡ numbers_in rs r.monomial

pub record AreRowsOf (rs : List Rest) (rows : List Row) : Type 0 where
  pub monomials : IsSetOf (all_monomials rs) (map (λ r. r.monomial) rows)
  pub numbers : All (IsRowIn rs) rows
