-- The fractions, as a type: each is one pair in lowest terms.
--   Fraction           a pair (num, den) in lowest terms
--   fraction p         the pair p, where it is in lowest terms, and zero elsewhere
--   over n d           n over d in lowest terms, and zero where d is zero
--   whole z            z over one
--   sum, product, opposite, inverse, quotient     on fractions
--   fraction_order     their order, by cross products
--   is_zero            whether the numerator is zero
--   fraction_size      numerator without sign, and denominator
--   fraction_arithmetic, ℚ     how to compute with them; rationals: in their field; fractions: the scalars
use Rattle.std.specs.Prelude.{ℕ, ℤ, pos, ◌*ℤ◌, Bool, true, false, T, eqb, unsigned_abs}
use Rattle.std.specs.declared.cmp.Ordering.{Ordering}
use Rattle.std.specs.Ordering.{int_cmp}
use Rattle.algebra.specs.Arithmetic.{Arithmetic}
use Rattle.algebra.specs.FieldArithmetic.{FieldArithmetic}
use Rattle.algebra.specs.Gcd.{gcd}
use Rattle.algebra.specs.Ratio.{Ratio, ratio, is_lowest, reduce, sum_of, product_of, opposite_of, inverse_of, ratio_size}
use Rattle.algebra.specs.Size.{Size}
use Rattle.algebra.specs.Scalars.{Scalars, field}

pub record Fraction : Type 0 where
  pub ratio : Ratio
  pub open ratio use *
  pub lowest : T (is_lowest ratio)

abbrev pub zero_fraction : Fraction
unfolding is_lowest gcd
zero_fraction = record { ratio = ratio (pos 0) 1; lowest = tt }

abbrev pub fraction_where : (p : Ratio) (b : Bool) → (T b → T (is_lowest p)) → Fraction
fraction_where p true lowest = record { ratio = p; lowest = lowest tt }
fraction_where p false lowest = zero_fraction

unfoldable pub fraction : Ratio → Fraction
fraction p = fraction_where p (is_lowest p) (λ lowest. lowest)

abbrev pub over : ℤ → ℕ → Fraction
over n d = fraction (reduce (ratio n d))

abbrev pub whole : ℤ → Fraction
whole z = fraction (ratio z 1)

unfoldable pub sum : Fraction → Fraction → Fraction
sum p q = fraction (reduce (sum_of p.ratio q.ratio))

unfoldable pub product : Fraction → Fraction → Fraction
product p q = fraction (reduce (product_of p.ratio q.ratio))

unfoldable pub opposite : Fraction → Fraction
opposite p = fraction (opposite_of p.ratio)

unfoldable pub inverse : Fraction → Fraction
inverse p = fraction (inverse_of p.ratio)

abbrev pub quotient : Fraction → Fraction → Fraction
quotient p q = product p (inverse q)

abbrev pub fraction_order : Fraction → Fraction → Ordering
fraction_order p q = int_cmp (p.num *ℤ pos q.den) (q.num *ℤ pos p.den)

abbrev pub is_zero : Fraction → Bool
is_zero p = eqb (unsigned_abs p.num) 0

abbrev pub fraction_size : Fraction → Size
fraction_size p = ratio_size p.ratio

abbrev pub fraction_arithmetic : Arithmetic Fraction
fraction_arithmetic = record {
  zero = whole (pos 0);
  one = whole (pos 1);
  add = sum;
  mul = product;
  neg = opposite;
}

abbrev pub ℚ : Arithmetic Fraction
ℚ = fraction_arithmetic

abbrev pub fractions : Scalars
fractions = record {
  Elem = Fraction;
  arithmetic = fraction_arithmetic;
  inverse = inverse;
  is_zero = is_zero;
  order = fraction_order;
  size = fraction_size;
}

abbrev pub rationals : FieldArithmetic Fraction
rationals = field fractions
