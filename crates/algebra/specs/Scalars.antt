-- The numbers that a computation is over.
--   Scalars        a type of numbers (Elem), how to compute with them, inverses, a test for zero and an order, and their sizes; with no law.
--                  Numbers without a width have the size 0 over 1, each of them
--   field S        how to compute in the field of the scalars
--   IsPastAdd S a b, IsPastMul S a b, IsPastDiv S a b     the weight of the sum, the product, the quotient of a and b is past
--   AreInverses S a b     a times b is one
--   IsBounded N s  the weights of operations bound their results; denominators are above zero, and one where there is no size
--   BoundsQuotients N s i   the weights of quotients bound their results, where i gives the inverses
use Rattle.std.specs.Prelude.{◌≡◌, ◌≢◌, ◌<◌, Bool}
use Rattle.std.specs.declared.cmp.Ordering.{Ordering}
use Rattle.algebra.specs.Arithmetic.{Arithmetic}
use Rattle.algebra.specs.FieldArithmetic.{FieldArithmetic}
use Rattle.algebra.specs.Size.{Size, size, sum_size, times_size, product_size, quotient_size, IsUnder, IsPast}

pub record Scalars : Type 1 where
  pub Elem : Type 0
  pub arithmetic : Arithmetic Elem
  pub open arithmetic use *
  pub inverse : Elem → Elem
  pub is_zero : Elem → Bool
  pub order : Elem → Elem → Ordering
  pub size : Elem → Size

abbrev pub field : (S : Scalars) → FieldArithmetic S.Elem
field S = record { arithmetic = S.arithmetic; inverse = S.inverse; is_zero = S.is_zero }

module _ (S : Scalars) where
  abbrev pub IsPastAdd : (a b : S.Elem) → Type 0
  IsPastAdd a b = IsPast (sum_size (S.size a) (S.size b))

  abbrev pub IsPastMul : (a b : S.Elem) → Type 0
  IsPastMul a b = IsPast (product_size (S.size a) (S.size b))

  abbrev pub IsPastDiv : (a b : S.Elem) → Type 0
  IsPastDiv a b = IsPast (quotient_size (S.size a) (S.size b))

  abbrev pub AreInverses : (a b : S.Elem) → Type 0
  AreInverses a b = S.mul a b ≡ S.one

module _ {A : Type 0} (N : Arithmetic A) (size_of : A → Size) where
  pub record IsBounded : Type 0 where
    pub den_pos : (a : A) → 0 < (size_of a).den
    pub zero_size : size_of N.zero ≡ size 0 1
    pub one_size : IsUnder (size_of N.one) (size 1 1)
    pub no_size : (a : A) → (size_of a).size ≡ 0 → (size_of a).den ≡ 1
    pub neg_size : (a : A) → size_of (N.neg a) ≡ size_of a
    pub add_size : (a b : A) → IsUnder (size_of (N.add a b)) (sum_size (size_of a) (size_of b))
    pub mul_size : (a b : A) → IsUnder (size_of (N.mul a b)) (times_size (size_of a) (size_of b))

  abbrev pub BoundsQuotients : (A → A) → Type 0
  BoundsQuotients inverse = (a b : A) → b ≢ N.zero → IsUnder (size_of (N.mul a (inverse b)))
      (quotient_size (size_of a) (size_of b))
