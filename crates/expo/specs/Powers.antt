-- Signed products of powers of a base.
--   number_of base p        the number of p over the base
--   key_of_power p          the exponents of s, u and v in its n-th power
--   IsPastNumber base p     that number does not fit in 128 bits
--   side_of below z         the exponent z above the line, or below it
--   side_product base below e    the product of the powers on that side
--   key_in k                exponents of s, u and v;  arity_with k m: how many exponents stand in a monomial with them and m variables
use Rattle.std.specs.Prelude.{ℕ, ◌+◌, ℤ, Bool, List, cond, map, length}
use Rattle.algebra.specs.Fraction.{Fraction, fraction_size}
use Rattle.algebra.specs.Size.{IsPast}
use Rattle.exponentials.specs.Base.{product}
use Rattle.exponentials.specs.Keys as keys
use Rattle.exponentials.specs.Powers.{number, negate_if}
use Rattle.solvable_maps.specs.Expo.{power_key, up_part, down_part}
use Rattle.expo.specs.declared.powers.Key.{Key}
use Rattle.expo.specs.declared.powers.Power.{Power}

abbrev pub number_of : List ℕ → Power → Fraction
number_of base p = negate_if p.negative (number base p.exponents.items)

abbrev pub key_of_power : Power → keys.Key
key_of_power p = power_key p.negative p.exponents.items

abbrev pub IsPastNumber : List ℕ → Power → Type 0
IsPastNumber base p = IsPast (fraction_size (number_of base p))

abbrev pub side_of : Bool → ℤ → ℕ
side_of below z = cond below (down_part z) (up_part z)

abbrev pub side_product : List ℕ → Bool → List ℤ → ℕ
side_product base below e = product base (map (side_of below) e)

abbrev pub key_in : Key → keys.Key
key_in k = (k.sign, k.up.items, k.down.items)

abbrev pub arity_with : Key → ℕ → ℕ
arity_with k m = 2 + length k.up.items + length k.down.items + m
