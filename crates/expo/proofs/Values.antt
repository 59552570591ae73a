-- The values of results, from their terms.
--   value_is             those of a polynomial over a base are those of its terms
--   normal_values, product_values, shifted_values, turned_values, sum_values     of the operations
--   solution_is          a solution's terms, collected
use Rattle.std.proofs.Common.{◌≡◌, ℕ, suc, pos, List, ◌++◌, length, sym, ap, ap₂, subst, ◌∙◌}
use Rattle.algebra.specs.Arithmetic.{power}
use Rattle.algebra.specs.Fraction.{Fraction, ℚ, rationals, whole}
use Rattle.algebra.proofs.Fractions.{ℚ_ring, ℚ_field}
use Rattle.polynomials.specs.Order.{grevlex}
use Rattle.polynomials.specs.Polynomial.{Arity}
use Rattle.polynomials.specs.Terms.{Terms, times, compose, value_at}
use Rattle.polynomials.proofs.Arity.{arity-times}
use Rattle.polynomials.proofs.Orders.{grevlex_order}
use Rattle.polynomials.proofs.ValueAt.{value_at_same, value_at-append, value_at-times}
use Rattle.machines.specs.Collect.{collect}
use Rattle.machines.proofs.Collecting.{collect-same}
use Rattle.exponentials.specs.Base.{Coprime}
use Rattle.solvable_maps.specs.Expo.{with_normal_keys, inverse_form_terms, next_images, IsSolution}
use Rattle.solvable_maps.specs.Iterations.{point, back_point, width}
use Rattle.solvable_maps.proofs.Operations.{normal-value, next-value, back-value}
use Rattle.expo.specs.declared.exponential.Expo.{Expo}
use Rattle.expo.specs.View.{value_of, HasValues, IsExpo}

pub collected : (ts : Terms Fraction) (z : List Fraction)
    → value_at ℚ (collect rationals grevlex ts) z ≡ value_at ℚ ts z
collected ts z = value_at_same ℚ_ring _ _ z (collect-same ℚ_field grevlex grevlex_order ts)

module _ (base : List ℕ) (m : ℕ) (ts : Terms Fraction) (e : Expo) (is : IsExpo base m ts e) where
  value_is : (n : ℕ) (s : List Fraction) → value_of e n s ≡ value_at ℚ ts (point base n s)
  value_is n s = ap₂ (λ (p : Terms Fraction) b. value_at ℚ p (point b n s)) is.terms is.over_base
      ∙ collected ts (point base n s)

module _ (base : List ℕ) (c : Coprime base) (m : ℕ) (e : Expo) where
  abbrev w : ℕ
  w = width (length base) m

  pub normal_values : (p : Terms Fraction) → Arity w p
      → IsExpo base m (with_normal_keys (length base) p)
      e → HasValues (λ n s. value_at ℚ p (point base n s)) e
  normal_values p a is = λ n s l. value_is base m _ e is n s ∙ normal-value base c m p a n s

  pub product_values : (p q : Terms Fraction) → Arity w p → Arity w q
      → IsExpo base m (with_normal_keys (length base) (times ℚ p q)) e
      → HasValues (λ n s. ℚ.mul (value_at ℚ p (point base n s)) (value_at ℚ q (point base n s))) e
  product_values p q a b is = λ n s l. value_is base m _ e is n s
      ∙ normal-value base c m (times ℚ p q) (arity-times w ℚ p q a b) n s
      ∙ value_at-times ℚ_ring p q (point base n s)

  pub shifted_values : (p : Terms Fraction) → IsExpo base m (compose ℚ w p (next_images base m)) e
      → HasValues (λ n s. value_at ℚ p (point base (suc n) s)) e
  shifted_values p is = λ n s l. value_is base m _ e is n s ∙ next-value base c m p n s (l
      ∙ is.over_vars)

  pub turned_values : (p : Terms Fraction) → Arity w p
      → IsExpo base m (inverse_form_terms (length base) p)
      e → HasValues (λ n s. value_at ℚ p (back_point base n s)) e
  turned_values p a is = λ n s l. value_is base m _ e is n s ∙ back-value base c m p a n s

  pub sum_values : (p q : Terms Fraction) → IsExpo base m (p ++ q) e
      → HasValues (λ n s. ℚ.add (value_at ℚ p (point base n s)) (value_at ℚ q (point base n s))) e
  sum_values p q is = λ n s l. value_is base m _ e is n s
      ∙ value_at-append ℚ_ring p q (point base n s)

-- ---- solutions
pub solution_is : (base : List ℕ) (m a : ℕ) (inhomogeneity own : Fraction) (p ts : Terms Fraction)
    → p ≡ collect rationals grevlex ts → IsSolution base m a inhomogeneity own ts
    → IsSolution base m a inhomogeneity own p
solution_is base m a inhomogeneity own p ts e h = subst (IsSolution base m a inhomogeneity own)
    (sym e) (record {
      start = λ s l. collected ts (point base 0 s) ∙ h.start s l;
      next = λ n s l. collected ts (point base (suc n) s) ∙ h.next n s l
          ∙ ap (λ x.
          ℚ.add (ℚ.mul own x) (ℚ.mul (power ℚ (whole (pos n)) a) (power ℚ inhomogeneity n)))
          (sym (collected ts (point base n s)));
    })
