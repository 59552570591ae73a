-- Forms by their values after some iterations, and those with the value 0, and what is past in making them.
--   with_powers x p                 p, in the variables, times the n-th power with the exponents x of s, u and v
--   IsSumOf base m l q y      y is normal, zero at 0, and solves the recurrence of l with the inhomogeneity q
--   IsStart base m l z there sum c     c is l to the power -z times the difference of `there` and the sum at z iterations
--   IsJoined base m l c sum y     at n, y is the n-th power of l times c, and the sum
--   IsLaterForm base m l z there q y     y is the form with that recurrence that is `there` at z iterations
--   IsOneLater base m q y     y at n + 1 is q at n
--   Ahead                     a number of iterations, and what the variables of a class are after them;  ahead_of images g z: those of the class g
--   IsFormFrom base m w g l a q y     y is made from the inhomogeneity q for the form w with the value l: from its start, where no value of the branch is zero;
--                             by its value after as many iterations as there are zeros; one iteration later, where its own is
--   IsPastX                   a number or a weight on the way is past
use Rattle.std.specs.Prelude.{◌≡◌, ◌≢◌, ◌⊎◌, ℕ, suc, ℤ, Bool, List, [], ◌∷◌, ◌++◌, map, length}
use Rattle.algebra.specs.Arithmetic.{power}
use Rattle.algebra.specs.Fraction.{Fraction, ℚ, fractions, fraction_size, inverse}
use Rattle.algebra.specs.Size.{IsPast}
use Rattle.polynomials.specs.Order.{grevlex}
use Rattle.polynomials.specs.Polynomial.{IsPolynomial}
use Rattle.polynomials.specs.Terms.{Terms, value_at}
use Rattle.polynomials.specs.Weight.{weight, IsPastComposition}
use Rattle.solvable_maps.specs.Uses.{poly_at}
use Rattle.exponentials.specs.Keys.{Key}
use Rattle.solvable_maps.specs.Expo.{at_iteration, next_images, power_key, inverse_form_terms, with_key}
use Rattle.solvable_maps.specs.AfterIterations.{HasRecurrence}
use Rattle.solvable_maps.specs.Iterations.{point, IsNormalForm}
use Rattle.expo.specs.Points.{iteration_images, IsPastPower, IsPastPoint}
use Rattle.closed_forms.specs.Solved.{AreSolved, IsPower, IsPastAmong, IsSolvedForm, IsPastSolved}
use Rattle.closed_forms.specs.Inhomogeneities.{collect_terms, part}
use Rattle.closed_forms.specs.States.{after}
use Rattle.closed_forms.specs.Sums.{IsPastMix}

abbrev pub with_powers : Key → Terms Fraction → Terms Fraction
with_powers x [] = []
with_powers x (t ∷ p) = (with_key 0 x t.0, t.1) ∷ with_powers x p

pub record IsSumOf (base : List ℕ) (m : ℕ) (l : Fraction) (q y : Terms Fraction) : Type 0 where
  pub normal : IsNormalForm base grevlex m y
  pub recurs : HasRecurrence base m l q (λ s. ℚ.zero) y

pub record IsStart (base : List ℕ) (m : ℕ) (l : Fraction) (z : ℕ) (there sum c : Terms Fraction)
    : Type 0 where
  pub polynomial : IsPolynomial ℚ grevlex m c
  pub values : (s : List Fraction) → length s ≡ m → value_at ℚ c s
      ≡ ℚ.mul (power ℚ (inverse l) z)
      (ℚ.add (value_at ℚ there s) (ℚ.neg (value_at ℚ sum (point base z s))))

pub record IsJoined (base : List ℕ) (m : ℕ) (l : Fraction) (c sum y : Terms Fraction)
    : Type 0 where
  pub values : (n : ℕ) (s : List Fraction) → length s ≡ m → value_at ℚ y (point base n s)
      ≡ ℚ.add (ℚ.mul (power ℚ l n) (value_at ℚ c s)) (value_at ℚ sum (point base n s))

pub record IsLaterForm (base : List ℕ) (m : ℕ) (l : Fraction) (z : ℕ) (there q y : Terms Fraction)
    : Type 0 where
  pub sum : Terms Fraction
  pub is_sum : IsSumOf base m l q sum
  pub start : Terms Fraction
  pub is_start : IsStart base m l z there sum start
  pub joined : IsJoined base m l start sum y

pub record IsOneLater (base : List ℕ) (m : ℕ) (q y : Terms Fraction) : Type 0 where
  pub values : (n : ℕ) (s : List Fraction) → length s ≡ m
      → value_at ℚ y (point base (suc n) s) ≡ value_at ℚ q (point base n s)

pub record Ahead : Type 0 where
  pub iterations : ℕ
  pub state : List (Terms Fraction)

abbrev pub ahead_of : List (Terms Fraction) → List ℕ → ℕ → Ahead
ahead_of images g z = record { iterations = z; state = map (poly_at (after images z)) g }

pub data IsFormFrom (base : List ℕ) (m : ℕ) (w : List Fraction) (g : List ℕ) (l : Fraction)
    (a : Ahead) (q y : Terms Fraction) : Type 0 where
  at_once : l ≢ ℚ.zero → a.iterations ≡ 0 → IsSolvedForm base m w g l q y
      → IsFormFrom base m w g l a q y
  later : l ≢ ℚ.zero → IsLaterForm base m l a.iterations (part w a.state) q y
      → IsFormFrom base m w g l a q y
  one_later : l ≡ ℚ.zero → IsOneLater base m q y → IsFormFrom base m w g l a q y

-- ---- what is past
pub data IsPastSum (base : List ℕ) (m : ℕ) (l : Fraction) (q : Terms Fraction) : Type 0 where
  term_past : IsPastAmong base m l q → IsPastSum base m l q
  terms_past : (p : Terms Fraction) → AreSolved base m l q p → IsPast (weight fraction_size p)
      → IsPastSum base m l q
  normal_past : (p : Terms Fraction) → AreSolved base m l q p
      → IsPast (weight fraction_size (collect_terms p)) → IsPastSum base m l q

abbrev pub IsPastAt : List ℕ → ℕ → ℕ → Terms Fraction → Type 0
IsPastAt base m n p = IsPastPoint base n ⊎ IsPastComposition fractions p (iteration_images base m n)

pub data IsPastStart (base : List ℕ) (m : ℕ) (l : Fraction) (z : ℕ) (there sum : Terms Fraction)
    : Type 0 where
  power_past : IsPastPower (inverse l) z → IsPastStart base m l z there sum
  iteration_past : IsPastAt base m z sum → IsPastStart base m l z there sum
  difference_past : (let k = power ℚ (inverse l) z in let at =
      collect_terms (at_iteration base m z sum) in
      IsPastMix (k ∷ ℚ.neg k ∷ []) (there ∷ at ∷ [])) → IsPastStart base m l z there sum

abbrev pub IsPastJoined : Key → Terms Fraction → Terms Fraction → Type 0
IsPastJoined x c sum =
    IsPast (weight fraction_size (with_powers x c ++ sum))
    ⊎ IsPast (weight fraction_size (collect_terms (with_powers x c ++ sum)))

pub data IsPastLater (base : List ℕ) (m : ℕ) (l : Fraction) (z : ℕ) (there q : Terms Fraction)
    : Type 0 where
  sum_past : IsPastSum base m l q → IsPastLater base m l z there q
  start_past : (sum : Terms Fraction) → IsSumOf base m l q sum
      → IsPastStart base m l z there sum → IsPastLater base m l z there q
  joined_past : (negative : Bool) (e : List ℤ) → IsPower base negative e l
      → (sum : Terms Fraction) → IsSumOf base m l q sum
      → (c : Terms Fraction) → IsStart base m l z there sum c
      → IsPastJoined (power_key negative e) c sum → IsPastLater base m l z there q

abbrev pub IsPastOneLater : List ℕ → ℕ → Terms Fraction → Type 0
IsPastOneLater base m q =
    IsPastComposition fractions (collect_terms (inverse_form_terms (length base) q))
    (next_images base m)

pub data IsPastFrom (base : List ℕ) (m : ℕ) (w : List Fraction) (g : List ℕ) (l : Fraction)
    (a : Ahead) (q : Terms Fraction) : Type 0 where
  at_once_past : l ≢ ℚ.zero → a.iterations ≡ 0 → IsPastSolved base m w g l q
      → IsPastFrom base m w g l a q
  there_past : l ≢ ℚ.zero → a.iterations ≢ 0 → IsPastMix w a.state → IsPastFrom base m w g l a q
  later_past : l ≢ ℚ.zero → a.iterations ≢ 0 → IsPastLater base m l a.iterations (part w a.state) q
      → IsPastFrom base m w g l a q
  one_later_past : l ≡ ℚ.zero → IsPastOneLater base m q → IsPastFrom base m w g l a q
