-- How a polynomial is polynomial_text.
--   fraction_text n d          n, or n/d
--   power_text x n             x, or x^n
--   powers names e             the powers of the names with the exponents e, but those with the exponent 0
--   is_bare t                  whether the coefficient of the term t is left out: it is 1 or -1, and a variable follows
--   factors names t            the coefficient of t without its sign, and the powers
--   product_text fs                  with * between each two
--   term_text names t          the term without its sign
--   later_text names p         each term behind its sign, with blanks around the sign
--   polynomial_text names p            the terms in their order, and 0 where there are none
use Rattle.std.specs.Prelude.{ℕ, zero, suc, Bool, ◌&&◌, not, ◌==◌, if◌then◌else◌, List, [], ◌∷◌, ◌++◌, sum, unsigned_abs, codes, decimal}
use Rattle.std.specs.List.{join_by}
use Rattle.std.specs.Int.{is_negative}
use Rattle.algebra.specs.Fraction.{Fraction}
use Rattle.polynomials.specs.Terms.{Terms}

unfoldable pub fraction_text : ℕ → ℕ → List ℕ
fraction_text n d = if d == 1 then decimal n else decimal n ++ codes "/" ++ decimal d

unfoldable pub power_text : List ℕ → ℕ → List ℕ
power_text x n = if n == 1 then x else x ++ codes "^" ++ decimal n

unfoldable pub powers : List (List ℕ) → List ℕ → List (List ℕ)
powers [] e = []
powers (x ∷ names) [] = []
powers (x ∷ names) (zero ∷ e) = powers names e
powers (x ∷ names) (suc n ∷ e) = power_text x (suc n) ∷ powers names e

abbrev pub is_bare : List ℕ × Fraction → Bool
is_bare t = unsigned_abs t.1.num == 1 && (t.1.den == 1 && not (sum t.0 == 0))

abbrev pub factors : List (List ℕ) → List ℕ × Fraction → List (List ℕ)
factors names t =
    if is_bare t then powers names t.0
    else fraction_text (unsigned_abs t.1.num) t.1.den ∷ powers names t.0

abbrev pub product_text : List (List ℕ) → List ℕ
product_text fs = join_by (λ f. f) (codes "*") fs

abbrev pub term_text : List (List ℕ) → List ℕ × Fraction → List ℕ
term_text names t = product_text (factors names t)

unfoldable pub later_text : List (List ℕ) → Terms Fraction → List ℕ
later_text names [] = []
later_text names (t ∷ p) =
    (if is_negative t.1.num then codes " - " else codes " + ") ++ term_text names t
    ++ later_text names p

unfoldable pub polynomial_text : List (List ℕ) → Terms Fraction → List ℕ
polynomial_text names [] = codes "0"
polynomial_text names (t ∷ p) =
    (if is_negative t.1.num then codes "-" else []) ++ term_text names t ++ later_text names p
