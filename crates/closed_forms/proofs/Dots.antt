-- Sums of products of a row with a column, number by number.
use Rattle.std.proofs.Common.{◌≡◌, ◌⊎◌, inl, inr, ℕ, ◌<◌, List, [], ◌∷◌, get_or, length, Vec, Global, sym, ap, ap₂, subst, ◌∙◌, arith}
use Rattle.algebra.specs.Fraction.{Fraction, ℚ, fraction_size}
use Rattle.algebra.specs.Size.{IsPast}
use Rattle.algebra.proofs.Fractions.{ℚ_field}
use Rattle.polynomials.specs.Terms.{sum_of_products}
use Rattle.frac128.specs.FracMeaning.{fraction_of}
use Rattle.frac128.specs.Sums.{SumIsPast}
use Rattle.frac128.specs.declared.fraction.Frac.{Frac}
use Rattle.linear.specs.Rows.{fractions_of, rows_of}
use Rattle.vectors.specs.Lists.{entries}
use Rattle.solvable_maps.specs.Inverse.{numbers_at}
use Rattle.closed_forms.specs.Products.{IsPastDot}
use Rattle.closed_forms.proofs.Rows.{entry_at}

pub dot_none : (row : List Frac) (matrix : List (Vec Frac Global)) (column : ℕ) (z : Frac)
    → fraction_of z ≡ ℚ.zero → (length row ≡ 0) ⊎ (length matrix ≡ 0)
    → fraction_of z ≡ sum_of_products ℚ (fractions_of row) (numbers_at column (rows_of matrix))
unfolding sum_of_products
dot_none [] matrix column z h e = h
dot_none (x ∷ row) [] column z h e = h
dot_none (x ∷ row) (r ∷ matrix) column z h (inl e) = absurd (omega (arith, e))
dot_none (x ∷ row) (r ∷ matrix) column z h (inr e) = absurd (omega (arith, e))

module _ {row xs : List Frac} {matrix rs : List (Vec Frac Global)} {x : Frac} {r : Vec Frac Global}
    (column : ℕ) {y : Frac} (e : row ≡ x ∷ xs) (f : matrix ≡ r ∷ rs) (low : column < length r.items)
    (is : y ≡ get_or r.items column y) where
  pub dot_next : (p d s : Frac) → fraction_of p ≡ ℚ.mul (fraction_of x) (fraction_of y)
      → fraction_of d ≡ sum_of_products ℚ (fractions_of xs) (numbers_at column (rows_of rs))
      → fraction_of s ≡ ℚ.add (fraction_of p) (fraction_of d)
      → fraction_of s ≡ sum_of_products ℚ (fractions_of row) (numbers_at column (rows_of matrix))
  unfolding sum_of_products
  dot_next p d s h k l =
      l ∙ ap₂ ℚ.add (h ∙ ap (ℚ.mul (fraction_of x)) (sym (entry_at r.items column y low is))) k
      ∙ sym (ap₂ (λ a b. sum_of_products ℚ (fractions_of a) (numbers_at column (rows_of b))) e f)

  at_numbers : (P : List Fraction → List Fraction → Type 0)
      → P (fraction_of x ∷ fractions_of xs) (entries ℚ_field (fractions_of r.items) column
      ∷ numbers_at column (rows_of rs))
      → P (fractions_of row) (numbers_at column (rows_of matrix))
  at_numbers P h = subst (λ m. P (fractions_of row) (numbers_at column (rows_of m))) (sym f)
      (subst (λ l. P (fractions_of l) (numbers_at column (rows_of (r ∷ rs)))) (sym e) h)

  pub past_product : IsPast (fraction_size (ℚ.mul (fraction_of x) (fraction_of y)))
      → IsPastDot (fractions_of row) (numbers_at column (rows_of matrix))
  past_product h =
      at_numbers IsPastDot (inl (subst (λ z. IsPast (fraction_size (ℚ.mul (fraction_of x) z)))
      (sym (entry_at r.items column y low is)) h))

  pub past_sum : (p d : Frac) → fraction_of p ≡ ℚ.mul (fraction_of x) (fraction_of y)
      → fraction_of d ≡ sum_of_products ℚ (fractions_of xs) (numbers_at column (rows_of rs))
      → SumIsPast (fraction_of p) (fraction_of d)
      → IsPastDot (fractions_of row) (numbers_at column (rows_of matrix))
  past_sum p d h k past =
      at_numbers IsPastDot
      (inr (inl
      (subst (λ b.
      SumIsPast (ℚ.mul (fraction_of x) (entries ℚ_field (fractions_of r.items) column)) b) k
      (subst (λ a. SumIsPast a (fraction_of d)) (h
      ∙ ap (ℚ.mul (fraction_of x)) (sym (entry_at r.items column y low is))) past))))
