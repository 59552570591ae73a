-- A recurrence y(n+1) = l y(n) + q(n), as the code has it.
--   base_by r, value_by r, inhomogeneity_in r     the base of its polynomials, l, as a product of powers of the base, and q
--   number_by r     l itself
use Rattle.std.specs.Prelude.{ℕ, List}
use Rattle.algebra.specs.Fraction.{Fraction}
use Rattle.polynomials.specs.Terms.{Terms}
use Rattle.frac128.specs.FracMeaning.{fraction_of}
use Rattle.poly.specs.View.{terms_of}
use Rattle.coprime_base.specs.Sizes.{sizes}
use Rattle.expo.specs.Powers.{number_of}
use Rattle.closed_forms.specs.declared.recurrence.Recurrence.{Recurrence}

abbrev pub base_by : Recurrence → List ℕ
base_by r = sizes r.base.now.items

abbrev pub value_by : Recurrence → Fraction
value_by r = number_of (sizes r.base.now.items) r.own

abbrev pub number_by : Recurrence → Fraction
number_by r = fraction_of r.value.now

abbrev pub inhomogeneity_in : Recurrence → Terms Fraction
inhomogeneity_in r = terms_of fraction_of r.inhomogeneity.now
