-- How to compute in a field.
--   FieldArithmetic A     sums, products, opposites, inverses in A, and a test for zero; with no law
--   IsField F             A is a field by them
--   field_of F f          the field; calculus K: how to compute in the field K
use Rattle.std.specs.Prelude.{◌≡◌, Bool, true}
use Rattle.algebra.specs.Arithmetic.{Arithmetic}
use Rattle.algebra.specs.Ring.{Field, IsRing, IsFieldOf, ring, operations}

pub record FieldArithmetic (A : Type 0) : Type 0 where
  pub arithmetic : Arithmetic A
  pub open arithmetic use *
  pub inverse : A → A
  pub is_zero : A → Bool

pub record IsField {A : Type 0} (F : FieldArithmetic A) : Type 0 where
  pub laws : IsRing F.arithmetic
  pub inverses : IsFieldOf F.arithmetic F.inverse
  pub is_zero_true : (a : A) → F.is_zero a ≡ true → a ≡ F.zero
  pub is_zero-zero : F.is_zero F.zero ≡ true

abbrev pub field_of : {A : Type 0} (F : FieldArithmetic A) → IsField F → Field A
field_of F f = record {
  ring = ring F.arithmetic f.laws;
  zero_test = record {
    is_zero = F.is_zero;
    is_zero_true = f.is_zero_true;
    is_zero-zero = f.is_zero-zero;
  };
  inverses = record { inverse = F.inverse; mul-inverse = f.inverses.mul-inverse };
  one-ne-zero = f.inverses.one-ne-zero;
}

abbrev pub calculus : {A : Type 0} → Field A → FieldArithmetic A
calculus K = record { arithmetic = operations K.ring; inverse = K.inverse; is_zero = K.is_zero }
