-- What the laws of a field give.
--   field_no_zero_divisors    a field has no zero divisors
use Rattle.std.proofs.Common.{sym, ap, ◌∙◌}
use Rattle.algebra.specs.Arithmetic.{Arithmetic}
use Rattle.algebra.specs.Ring.{IsRing, IsFieldOf, HasNoZeroDivisors, ring}
use Rattle.algebra.proofs.RingLaws.{zero-mul}

module _ {A : Type 0} (N : Arithmetic A) (r : IsRing N) where
  pub field_no_zero_divisors : (inverse : A → A) → IsFieldOf N inverse → HasNoZeroDivisors N
  field_no_zero_divisors inverse f = record {
    product-ne-zero = λ a b n k z.
        n (sym (r.mul-one a) ∙ ap (N.mul a) (sym (f.mul-inverse b k))
        ∙ sym (r.mul_assoc a b (inverse b)) ∙ ap (λ x. N.mul x (inverse b)) z
        ∙ zero-mul (ring N r) (inverse b));
  }
