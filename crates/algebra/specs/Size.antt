-- Weights: a size over a denominator, both unbounded, that bound the numbers of a computation.
--   Size, size n d        a weight
--   sum_size, product_size, quotient_size     the weights of a sum or difference, a product, a quotient
--   times_size                the product of both numbers, where a factor of no size counts as it is
--   sizes                 how to compute with weights
--   IsPast s              one of its numbers is above 2^127 - 1
--   SomeIf r f s          r is None exactly where s is past, and else has the weight s
--   IsUnder a b           a over its denominator is at most b, whose denominator is a multiple
use Rattle.std.specs.Prelude.{◌≡◌, ℕ, zero, suc, ◌+◌, ◌*◌, ◌/◌, ◌<◌, ◌≤◌, ◌⊎◌, Option, MatchOption}
use Rattle.std.specs.Int.{◌∣◌}
use Rattle.algebra.specs.Arithmetic.{Arithmetic}
use Rattle.algebra.specs.Gcd.{lcm}
use Rattle.algebra.specs.Limits.{number_limit}

pub record Size : Type 0 where
  pub size : ℕ
  pub den : ℕ

abbrev pub size : ℕ → ℕ → Size
size n d = record { size = n; den = d }

abbrev pub sum_size : Size → Size → Size
sum_size a b = let d = lcm a.den b.den in record {
  size = a.size * (d / a.den) + b.size
      * (d / b.den);
  den = d;
}

abbrev pub factor_of : ℕ → ℕ → Size
factor_of zero d = size 1 1
factor_of (suc n) d = size (suc n) d

-- the weight of a factor, where 0 counts as 1
abbrev pub factor_size : Size → Size
factor_size a = factor_of a.size a.den

abbrev pub product_size : Size → Size → Size
product_size a b =
    let x = factor_size a in
    let y = factor_size b in
    record { size = x.size * y.size; den = x.den * y.den }

abbrev pub times_size : Size → Size → Size
times_size a b = size (a.size * b.size) (a.den * b.den)

abbrev pub sizes : Arithmetic Size
sizes = record { zero = size 0 1; one = size 1 1; add = sum_size; mul = product_size; neg = λ a. a }

abbrev pub quotient_size : Size → Size → Size
quotient_size a b = product_size a (size b.den b.size)

abbrev pub IsPast : Size → Type 0
IsPast a = (number_limit < a.size + 1) ⊎ (number_limit < a.den + 1)

abbrev pub SomeIf : {W : Type 0} → Option W → (W → Size) → Size → Type 0
SomeIf result size_of s = MatchOption result (IsPast s) (λ w. (size_of w ≡ s) × ¬ (IsPast s))

pub record IsUnder (a b : Size) : Type 0 where
  pub divides : a.den ∣ b.den
  pub at_most : a.size * (b.den / a.den) ≤ b.size
