-- Rings, as records of operations with their laws.
--   IsRing N        the arithmetic N is a commutative ring
--   IsFieldOf N i   each element but zero has the inverse i, and one is not zero
--   HasNoZeroDivisors N   a product of elements that aren't zero isn't zero
--   IsOrderOf N order     order is a total order that sums and products keep
--   CommRing A      a commutative ring on A: zero, one, add, mul, neg, with their laws
--   ring N r        the ring whose arithmetic is N; operations R: the arithmetic of R
--   ZeroTest R      a test for R's zero: is_zero
--   Inverses R      an inverse of each element of R but zero: inverse
--   Field A         a commutative ring with both, where one is not zero
--   OrderedRing A   a total order kept by sums and by products with what is above zero: less
--   Hom R S         a function from R to S that keeps sums, products and one: to
--   of_nat R n      n times one
use Rattle.std.specs.Prelude.{◌≡◌, ◌≢◌, ◌⊎◌, Bool, true, T, ℕ}
use Rattle.std.specs.declared.cmp.Ordering.{Ordering}
use Rattle.std.specs.declared.cmp.Ordering.TheVariants.{Less, Equal, Greater}
use Rattle.algebra.specs.Arithmetic.{Arithmetic}
use Rattle.algebra.specs.Integers.{natural_in}

module _ {A : Type 0} (N : Arithmetic A) where
  pub record IsRing : Type 0 where
    pub add_assoc : (a b c : A) → N.add (N.add a b) c ≡ N.add a (N.add b c)
    pub add_comm : (a b : A) → N.add a b ≡ N.add b a
    pub add-zero : (a : A) → N.add a N.zero ≡ a
    pub add-neg : (a : A) → N.add a (N.neg a) ≡ N.zero
    pub mul_assoc : (a b c : A) → N.mul (N.mul a b) c ≡ N.mul a (N.mul b c)
    pub mul_comm : (a b : A) → N.mul a b ≡ N.mul b a
    pub mul-one : (a : A) → N.mul a N.one ≡ a
    pub mul-add : (a b c : A) → N.mul a (N.add b c) ≡ N.add (N.mul a b) (N.mul a c)
    pub is_set : IsSet A

  pub record IsFieldOf (inverse : A → A) : Type 0 where
    pub one-ne-zero : N.one ≢ N.zero
    pub mul-inverse : (a : A) → a ≢ N.zero → N.mul a (inverse a) ≡ N.one

  pub record HasNoZeroDivisors : Type 0 where
    pub product-ne-zero : (a b : A) → a ≢ N.zero → b ≢ N.zero → N.mul a b ≢ N.zero

  pub record IsOrderOf (order : A → A → Ordering) : Type 0 where
    pub equal_is : (a b : A) → order a b ≡ Equal → a ≡ b
    pub same_is : (a : A) → order a a ≡ Equal
    pub flips : (a b : A) → order a b ≡ Less → order b a ≡ Greater
    pub flips_back : (a b : A) → order a b ≡ Greater → order b a ≡ Less
    pub less_trans : (a b c : A) → order a b ≡ Less → order b c ≡ Less → order a c ≡ Less
    pub add_keeps : (a b c : A) → order a b ≡ Less → order (N.add a c) (N.add b c) ≡ Less
    pub mul_keeps : (a b c : A) → order N.zero c ≡ Less → order a b ≡ Less
        → order (N.mul a c) (N.mul b c) ≡ Less

pub record CommRing (A : Type 0) : Type 0 where
  pub zero : A
  pub one : A
  pub add : A → A → A
  pub mul : A → A → A
  pub neg : A → A
  pub add_assoc : (a b c : A) → add (add a b) c ≡ add a (add b c)
  pub add_comm : (a b : A) → add a b ≡ add b a
  pub add-zero : (a : A) → add a zero ≡ a
  pub add-neg : (a : A) → add a (neg a) ≡ zero
  pub mul_assoc : (a b c : A) → mul (mul a b) c ≡ mul a (mul b c)
  pub mul_comm : (a b : A) → mul a b ≡ mul b a
  pub mul-one : (a : A) → mul a one ≡ a
  pub mul-add : (a b c : A) → mul a (add b c) ≡ add (mul a b) (mul a c)
  pub is_set : IsSet A

abbrev pub operations : {A : Type 0} → CommRing A → Arithmetic A
operations R = record { zero = R.zero; one = R.one; add = R.add; mul = R.mul; neg = R.neg }

abbrev pub ring : {A : Type 0} (N : Arithmetic A) → IsRing N → CommRing A
ring N r = record {
  zero = N.zero;
  one = N.one;
  add = N.add;
  mul = N.mul;
  neg = N.neg;
  add_assoc = r.add_assoc;
  add_comm = r.add_comm;
  add-zero = r.add-zero;
  add-neg = r.add-neg;
  mul_assoc = r.mul_assoc;
  mul_comm = r.mul_comm;
  mul-one = r.mul-one;
  mul-add = r.mul-add;
  is_set = r.is_set;
}

pub record ZeroTest {A : Type 0} (R : CommRing A) : Type 0 where
  pub is_zero : A → Bool
  pub is_zero_true : (a : A) → is_zero a ≡ true → a ≡ R.zero
  pub is_zero-zero : is_zero R.zero ≡ true

pub record Inverses {A : Type 0} (R : CommRing A) : Type 0 where
  pub inverse : A → A
  pub mul-inverse : (a : A) → a ≢ R.zero → R.mul a (inverse a) ≡ R.one

pub record Field (A : Type 0) : Type 0 where
  pub ring : CommRing A
  pub open ring use *
  pub zero_test : ZeroTest ring
  pub open zero_test use *
  pub inverses : Inverses ring
  pub open inverses use *
  pub one-ne-zero : one ≢ zero

pub record OrderedRing (A : Type 0) : Type 0 where
  pub ring : CommRing A
  pub open ring use *
  pub less : A → A → Bool
  pub irreflexive : (a : A) → T (less a a) → ⊥
  pub transitive : (a b c : A) → T (less a b) → T (less b c) → T (less a c)
  pub total : (a b : A) → T (less a b) ⊎ (a ≡ b) ⊎ T (less b a)
  pub less-add : (a b c : A) → T (less a b) → T (less (add a c) (add b c))
  pub less-mul : (a b c : A) → T (less zero c) → T (less a b) → T (less (mul a c) (mul b c))

pub record Hom {A B : Type 0} (R : CommRing A) (S : CommRing B) : Type 0 where
  pub to : A → B
  pub to-add : (a b : A) → to (R.add a b) ≡ S.add (to a) (to b)
  pub to-mul : (a b : A) → to (R.mul a b) ≡ S.mul (to a) (to b)
  pub to-one : to R.one ≡ S.one

abbrev pub of_nat : {A : Type 0} → CommRing A → ℕ → A
of_nat R n = natural_in (operations R) n
