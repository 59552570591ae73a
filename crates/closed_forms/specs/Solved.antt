-- What solves the recurrence of a form, exactly as lists of terms, and what is past in making it.
--   still r e, steady r t     what does not change with n: of exponents their variables, of a term its number times these
--   IsSolvedTerm base m l t p     p solves the recurrence of l with the inhomogeneity t: the normal solution for the term's powers, times what does not change
--   AreSolved base m l q ys   ys are what solves that of each term of q, one after another
--   AreSolvedBehind base m l q old new     they are what new has behind old
--   homogeneous_part m x w g           the form w of the variables g, times the n-th power with the exponents x of s, u and v
--   IsMade base x             numerator and denominator of x are products of powers of the base
--   IsWithin base x           unless x is zero, it isn't so that x isn't made of the base;  AreWithin base xs: of each;  within_prop, are_within_prop: these are propositions
--   IsPower base negative e l     l is the power of the base with these sign and exponents;  power_prop: that is a proposition
--   IsSolvedForm base m w g l q y     y has the growing form and what solves the terms of q, made normal
--   IsPastTerm, IsPastSolved  a number or a weight on the way is past
use Rattle.std.specs.Prelude.{◌≡◌, ◌≢◌, ◌<◌, ℕ, ℤ, Bool, List, [], ◌∷◌, ◌++◌, length, drop, replicate, unsigned_abs}
use native.Mathlib.Nat.{ℕ_set}
use Rattle.algebra.specs.Each.{Each}
use Rattle.algebra.proofs.Each.{each_prop}
use Rattle.algebra.specs.In.{In}
use Rattle.algebra.specs.Fraction.{Fraction, ℚ, fractions, fraction_size}
use Rattle.algebra.proofs.Fractions.{ℚ_ring}
use Rattle.algebra.specs.Size.{IsPast}
use Rattle.expo.specs.Solutions.{most_degree}
use Rattle.polynomials.specs.Order.{grevlex}
use Rattle.polynomials.specs.Terms.{Terms, times}
use Rattle.polynomials.specs.Weight.{weight, IsPastProduct}
use Rattle.solvable_maps.specs.Uses.{unit}
use Rattle.exponentials.specs.Base.{IsProductOf}
use Rattle.exponentials.specs.Keys.{Key, key_of, top}
use Rattle.exponentials.specs.Powers.{number, negate_if}
use Rattle.solvable_maps.specs.Expo.{with_normal_keys, power_key, with_key, IsSolution}
use Rattle.solvable_maps.specs.Iterations.{width, IsNormalForm}
use Rattle.expo.specs.Rows.{IsPastOther, IsPastEqual}
use Rattle.closed_forms.specs.Inhomogeneities.{collect_terms}

abbrev pub still : ℕ → List ℕ → List ℕ
still r e = replicate (width r 0) 0 ++ drop (width r 0) e

abbrev pub steady : ℕ → List ℕ × Fraction → Terms Fraction
steady r t = collect_terms ((still r t.0, t.1) ∷ [])

pub record IsMade (base : List ℕ) (x : Fraction) : Type 0 where
  pub numerator : IsProductOf base (unsigned_abs x.num)
  pub denominator : IsProductOf base x.den

abbrev pub IsWithin : List ℕ → Fraction → Type 0
IsWithin base x = x ≢ ℚ.zero → (IsMade base x → ⊥) → ⊥

pub within_prop : (base : List ℕ) (x : Fraction) → IsProp (IsWithin base x)
within_prop base x = hlevel

abbrev pub AreWithin : List ℕ → List Fraction → Type 0
AreWithin base xs = Each (IsWithin base) xs

pub are_within_prop : (base : List ℕ) (xs : List Fraction) → IsProp (AreWithin base xs)
are_within_prop base xs = each_prop (IsWithin base) (within_prop base) xs

pub record IsPower (base : List ℕ) (negative : Bool) (e : List ℤ) (l : Fraction) : Type 0 where
  pub count : length e ≡ length base
  pub is : negate_if negative (number base e) ≡ l

pub power_prop : (base : List ℕ) (negative : Bool) (e : List ℤ) (l : Fraction)
    → IsProp (IsPower base negative e l)
power_prop base negative e l = hlevel (ℕ_set, ℚ_ring.is_set)

-- y is the solution for the powers of n and of a number in the term t
pub record IsKeySolution (base : List ℕ) (m : ℕ) (l : Fraction) (t : List ℕ × Fraction)
    (y : Terms Fraction) : Type 0 where
  pub negative : Bool
  pub exponents : List ℤ
  pub key : key_of (length base) t.0 ≡ power_key negative exponents
  pub normal : IsNormalForm base grevlex m y
  pub solution : IsSolution base m (top t.0) (negate_if negative (number base exponents)) l y

pub record IsSolvedTerm (base : List ℕ) (m : ℕ) (l : Fraction) (t : List ℕ × Fraction)
    (p : Terms Fraction) : Type 0 where
  pub y : Terms Fraction
  pub is : IsKeySolution base m l t y
  pub terms : p ≡ collect_terms (times ℚ y (steady (length base) t))

abbrev pub AreSolved : List ℕ → ℕ → Fraction → Terms Fraction → Terms Fraction → Type 0
AreSolved base m l [] ys = ys ≡ []
AreSolved base m l (t ∷ q) ys =
    (p : Terms Fraction) × (zs : Terms Fraction) × IsSolvedTerm base m l t p
    × AreSolved base m l q zs × (ys ≡ p ++ zs)

-- what solves q has gone behind the others
pub record AreSolvedBehind (base : List ℕ) (m : ℕ) (l : Fraction)
    (q old new : Terms Fraction) : Type 0 where
  pub solved : Terms Fraction
  pub are : AreSolved base m l q solved
  pub terms : new ≡ old ++ solved

abbrev pub homogeneous_part : ℕ → Key → List Fraction → List ℕ → Terms Fraction
homogeneous_part m x [] g = []
homogeneous_part m x (c ∷ w) [] = []
homogeneous_part m x (c ∷ w) (j ∷ g) = (with_key 0 x (unit m j), c) ∷ homogeneous_part m x w g

-- the growing form, and what solves the terms of q
pub record IsWhole (base : List ℕ) (m : ℕ) (w : List Fraction) (g : List ℕ) (l : Fraction)
    (q p : Terms Fraction) : Type 0 where
  pub negative : Bool
  pub exponents : List ℤ
  pub power : IsPower base negative exponents l
  pub solved : Terms Fraction
  pub are : AreSolved base m l q solved
  pub terms : p ≡ homogeneous_part m (power_key negative exponents) w g ++ solved

pub record IsSolvedForm (base : List ℕ) (m : ℕ) (w : List Fraction) (g : List ℕ) (l : Fraction)
    (q y : Terms Fraction) : Type 0 where
  pub whole : Terms Fraction
  pub is : IsWhole base m w g l q whole
  pub terms : y ≡ collect_terms (with_normal_keys (length base) (collect_terms whole))

-- ---- what is past
pub data IsPastSolving (σ l : Fraction) (a : ℕ) : Type 0 where
  inhomogeneity_past : IsPast (fraction_size σ) → IsPastSolving σ l a
  own_past : IsPast (fraction_size l) → IsPastSolving σ l a
  other : σ ≢ l → IsPastOther σ l a → IsPastSolving σ l a
  equal : σ ≡ l → IsPastEqual l a → IsPastSolving σ l a

pub data IsPastTerm (base : List ℕ) (m : ℕ) (l : Fraction) (t : List ℕ × Fraction) : Type 0 where
  degree : most_degree < top t.0 → IsPastTerm base m l t
  solving : (negative : Bool) (e : List ℤ) → key_of (length base) t.0 ≡ power_key negative e
      → IsPastSolving (negate_if negative (number base e)) l (top t.0) → IsPastTerm base m l t
  product : (y : Terms Fraction) → IsKeySolution base m l t y
      → IsPastProduct fractions y (steady (length base) t) → IsPastTerm base m l t

pub record IsPastAmong (base : List ℕ) (m : ℕ) (l : Fraction) (q : Terms Fraction) : Type 0 where
  pub term : List ℕ × Fraction
  pub within : In term q
  pub past : IsPastTerm base m l term

pub data IsPastSolved (base : List ℕ) (m : ℕ) (w : List Fraction) (g : List ℕ) (l : Fraction)
    (q : Terms Fraction) : Type 0 where
  term : IsPastAmong base m l q → IsPastSolved base m w g l q
  sum : (p : Terms Fraction) → IsWhole base m w g l q p → IsPast (weight fraction_size p)
      → IsPastSolved base m w g l q
  normal : (p : Terms Fraction) → IsWhole base m w g l q p
      → IsPast (weight fraction_size (collect_terms p)) → IsPastSolved base m w g l q
