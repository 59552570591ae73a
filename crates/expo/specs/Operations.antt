-- Operations on exponential polynomials, as the definitions make them on terms.
--   normal_of base p                what is made of the terms p: s s and u v are 1;  vars_of base w: how many of w variables stand behind n, s, the u and the v
--   product_of e f, sum_of e f, at_next e, inverse_form_of e     the terms of the product, of the sum, at n + 1, at -n
--   at_zero e                       those at n = 0, over the variables alone
--   before_of e                     those at n - 1: backward, one more, and backward again
--   back_of e                       those at -n, collected
--   IsOverBaseOf e ts f                   f is the polynomial ts over the base and the variables of e
--   IsPastProductOf e f, IsPastSumOf e f, IsPastNext e, IsPastZero e     what is past in making them
--   IsPastBefore e, IsPastIteration e n  the same at n - 1, and at n iterations
use Rattle.std.specs.Prelude.{◌⊎◌, ℕ, ◌-◌, List, ◌++◌, length}
use Rattle.algebra.specs.Fraction.{Fraction, ℚ, fractions, rationals}
use Rattle.polynomials.specs.Order.{grevlex}
use Rattle.polynomials.specs.Terms.{Terms, times, compose}
use Rattle.polynomials.specs.Weight.{IsPastSum, IsPastProduct, IsPastComposition}
use Rattle.machines.specs.Collect.{collect}
use Rattle.solvable_maps.specs.Expo.{with_normal_keys, inverse_form_terms, next_images, zero_images, one_before}
use Rattle.solvable_maps.specs.Iterations.{width}
use Rattle.poly.specs.Seen.{terms_in}
use Rattle.expo.specs.declared.exponential.Expo.{Expo}
use Rattle.expo.specs.Points.{iteration_images, IsPastPoint}
use Rattle.expo.specs.View.{base_of, IsExpo}

abbrev pub normal_of : List ℕ → Terms Fraction → Terms Fraction
normal_of base p = with_normal_keys (length base) p

abbrev pub vars_of : List ℕ → ℕ → ℕ
vars_of base w = w - width (length base) 0

abbrev pub product_of : Expo → Expo → Terms Fraction
product_of e f = normal_of (base_of e) (times ℚ (terms_in e.body) (terms_in f.body))

abbrev pub sum_of : Expo → Expo → Terms Fraction
sum_of e f = terms_in e.body ++ terms_in f.body

abbrev pub at_next : Expo → Terms Fraction
at_next e = compose ℚ (width (length (base_of e)) e.vars) (terms_in e.body)
    (next_images (base_of e) e.vars)

abbrev pub inverse_form_of : Expo → Terms Fraction
inverse_form_of e = inverse_form_terms (length (base_of e)) (terms_in e.body)

abbrev pub at_zero : Expo → Terms Fraction
at_zero e = compose ℚ e.vars (terms_in e.body) (zero_images (length (base_of e)) e.vars)

abbrev pub before_of : Expo → Terms Fraction
before_of e = one_before (base_of e) e.vars (terms_in e.body)

abbrev pub back_of : Expo → Terms Fraction
back_of e = collect rationals grevlex (inverse_form_of e)

abbrev pub IsOverBaseOf : Expo → Terms Fraction → Expo → Type 0
IsOverBaseOf e ts f = IsExpo (base_of e) e.vars ts f

abbrev pub IsPastProductOf : Expo → Expo → Type 0
IsPastProductOf e f = IsPastProduct fractions (terms_in e.body) (terms_in f.body)

abbrev pub IsPastSumOf : Expo → Expo → Type 0
IsPastSumOf e f = IsPastSum fractions (terms_in e.body) (terms_in f.body)

abbrev pub IsPastNext : Expo → Type 0
IsPastNext e = IsPastComposition fractions (terms_in e.body) (next_images (base_of e) e.vars)

abbrev pub IsPastZero : Expo → Type 0
IsPastZero e = IsPastComposition fractions (terms_in e.body) (zero_images (length (base_of e))
    e.vars)

abbrev pub IsPastBefore : Expo → Type 0
IsPastBefore e = IsPastComposition fractions (back_of e) (next_images (base_of e) e.vars)

abbrev pub IsPastIteration : Expo → ℕ → Type 0
IsPastIteration e n =
    IsPastPoint (base_of e) n
    ⊎ IsPastComposition fractions (terms_in e.body) (iteration_images (base_of e) e.vars n)
