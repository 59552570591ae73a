-- Values with fractions of 128 bits: those of the definition, as long as each operation on the way fits.
--   fits n               n is at most 2^127 - 1
--   number_fits p        both numbers of p fit
--   sum_fits p q         both parts of p + q over the least common denominator, their sum, and the denominator of p + q fit
--   powers_fit p n       each power of p up to p^n fits, where each is a product with the one before
--   power_of p n         the power of the definition
--   all_fit e s          each operation of the expression e at the state s fits
--   number_if b p        the number p where b is true, and none otherwise
--   checked_value e s    the value of e at s, if all operations fit
--   checked_sum p q, checked_difference p q, checked_product p q, checked_power p n      the operations on numbers, none where the result doesn't fit
--   unary_value o p, binary_value o p q      the operator o of numbers, in the same way
use Rattle.std.specs.Prelude.{ℕ, zero, suc, ◌+ℤ◌, unsigned_abs, Bool, true, ◌&&◌, nat_lt, if◌then◌else◌, List, Option, Some, None}
use Rattle.algebra.specs.Arithmetic as numeral
use Rattle.algebra.specs.Fraction.{Fraction, ℚ, whole, inverse}
use Rattle.algebra.specs.Limits.{number_limit}
use Rattle.loops.specs.Program.{Expr, number, variable, neg, add, sub, mul, divide, power}
use Rattle.loops.specs.Run.{value}
use Rattle.frac128.specs.Sums.{part}
use Rattle.loop_model.specs.declared.expr.UnaryOperator.{UnaryOperator}
use Rattle.loop_model.specs.declared.expr.UnaryOperator.TheVariants.{Neg, Div, Power}
use Rattle.loop_model.specs.declared.expr.BinaryOperator.{BinaryOperator}
use Rattle.loop_model.specs.declared.expr.BinaryOperator.TheVariants.{Add, Sub, Mul}

abbrev pub fits : ℕ → Bool
fits n = nat_lt n number_limit

abbrev pub number_fits : Fraction → Bool
number_fits p = fits (unsigned_abs p.num) && fits p.den

abbrev pub sum_fits : Fraction → Fraction → Bool
sum_fits p q =
    (fits (unsigned_abs (part p q)) && fits (unsigned_abs (part q p)))
    && (fits (unsigned_abs (part p q +ℤ part q p)) && fits (ℚ.add p q).den)

abbrev pub power_of : Fraction → ℕ → Fraction
power_of p n = numeral.power ℚ p n

unfoldable pub powers_fit : Fraction → ℕ → Bool
powers_fit p zero = true
powers_fit p (suc n) = powers_fit p n && number_fits (power_of p (suc n))

unfoldable pub all_fit : {At : Type 0} → Expr At → List Fraction → Bool
all_fit (number n) s = true
all_fit (variable i) s = true
all_fit (neg at e) s = all_fit e s
all_fit (add at e f) s = (all_fit e s && all_fit f s) && sum_fits (value e s) (value f s)
all_fit (sub at e f) s = (all_fit e s && all_fit f s) && sum_fits (value e s) (ℚ.neg (value f s))
all_fit (mul at e f) s = (all_fit e s && all_fit f s) && number_fits (ℚ.mul (value e s) (value f s))
all_fit (divide at e n) s = all_fit e s && number_fits (ℚ.mul (value e s) (inverse (whole n)))
all_fit (power at e n) s = all_fit e s && powers_fit (value e s) n

abbrev pub number_if : Bool → Fraction → Option Fraction
number_if b p = if b then Some p else None

unfoldable pub checked_value : {At : Type 0} → Expr At → List Fraction → Option Fraction
checked_value e s = number_if (all_fit e s) (value e s)

abbrev pub checked_sum : Fraction → Fraction → Option Fraction
checked_sum p q = number_if (sum_fits p q) (ℚ.add p q)

abbrev pub checked_difference : Fraction → Fraction → Option Fraction
checked_difference p q = checked_sum p (ℚ.neg q)

abbrev pub checked_product : Fraction → Fraction → Option Fraction
checked_product p q = number_if (number_fits (ℚ.mul p q)) (ℚ.mul p q)

abbrev pub checked_power : Fraction → ℕ → Option Fraction
checked_power p n = number_if (powers_fit p n) (power_of p n)

abbrev pub unary_value : UnaryOperator → Fraction → Option Fraction
unary_value Neg p = Some (ℚ.neg p)
unary_value (Div by) p = checked_product p (inverse (whole by.value))
unary_value (Power exponent) p = checked_power p exponent

abbrev pub binary_value : BinaryOperator → Fraction → Fraction → Option Fraction
binary_value Add p q = checked_sum p q
binary_value Sub p q = checked_difference p q
binary_value Mul p q = checked_product p q
