-- Operations on polynomials in n, s, u, v and m variables, on their terms.
--   with_normal_keys r p         s s and u v are replaced by 1
--   next_images base m     n + 1, -s, b u, v / b, and the variables
--   zero_images r m        0 for n, 1 for s and each u and v, and the variables
--   inverse_form_terms r p        -n for n, with u and v exchanged
--   one_before base m p    n - 1 for n, -s, u / b, b v: backward, one more, and backward again
--   front r e, tail r e    the exponents of n, s, u and v, and those of the variables
--   part r e p             the coefficient of p at n, s, u and v with the exponents e: a polynomial in the variables
--   at_iteration base m n p     p at n iterations: a polynomial in the variables
--   power_key negative e   the exponents of s, u and v of n times the number with this sign and these exponents
--   other_terms m x y a q, equal_terms m y a q     the solution's terms, from the numbers q of the table, where inhomogeneity and own (x and y) are different, and where they are the same
--   IsSolution base m an inhomogeneity own p     p is zero at 0, and at n + 1 it is own times p at n, and n^an inhomogeneity^n
--   differences u v        the exponents of u less those of v
use Rattle.std.specs.Prelude.{◌≡◌, ℕ, zero, suc, ℤ, pos, negsuc, Bool, cond, List, [], ◌∷◌, ◌++◌, map, length, drop, replicate, ◌-ℤ◌}
use Rattle.algebra.specs.Arithmetic.{power}
use Rattle.algebra.specs.Fraction.{Fraction, ℚ, whole, opposite, inverse}
use Rattle.polynomials.specs.Exponent.{same}
use Rattle.polynomials.specs.Terms.{Terms, constant, variables, value_at, lists, compose}
use Rattle.exponentials.specs.Keys.{Key, key_of, normal_key, rest, top}
use Rattle.solvable_maps.specs.Shifts.{later}
use Rattle.solvable_maps.specs.Iterations.{point, width}

abbrev pub tail : ℕ → List ℕ → List ℕ
tail r e = drop r (drop r (rest (rest e)))

abbrev pub with_key : ℕ → Key → List ℕ → List ℕ
with_key n x e = n ∷ x.0 ∷ (x.1 ++ (x.2 ++ e))

abbrev pub with_normal_keys : {A : Type 0} → ℕ → Terms A → Terms A
with_normal_keys r [] = []
with_normal_keys r (t ∷ p) = (with_key (top t.0) (normal_key r t.0) (tail r t.0), t.1)
    ∷ with_normal_keys r p

abbrev pub next_images : List ℕ → ℕ → List (Terms Fraction)
next_images base m =
    let w = width (length base) m in
    later (lists ℚ w) base (λ b. constant w (whole (pos b)))
    (λ b. constant w (inverse (whole (pos b)))) (variables ℚ w)

abbrev pub zero_images : ℕ → ℕ → List (Terms Fraction)
zero_images r m =
    [] ∷ constant m (whole (pos 1)) ∷ (replicate r (constant m (whole (pos 1)))
    ++ (replicate r (constant m (whole (pos 1))) ++ variables ℚ m))

abbrev pub inverse_form_sign : ℕ → Fraction → Fraction
inverse_form_sign zero c = c
inverse_form_sign (suc n) c = opposite (inverse_form_sign n c)

abbrev pub inverse_form_terms : ℕ → Terms Fraction → Terms Fraction
inverse_form_terms r [] = []
inverse_form_terms r (t ∷ p) =
    let x = key_of r t.0 in
    (with_key (top t.0) (x.0, x.2, x.1) (tail r t.0), inverse_form_sign (top t.0) t.1)
    ∷ inverse_form_terms
    r p

abbrev pub one_before : List ℕ → ℕ → Terms Fraction → Terms Fraction
one_before base m p =
    let r = length base in
    inverse_form_terms r (compose ℚ (width r m) (inverse_form_terms r p) (next_images base m))

abbrev pub front : ℕ → List ℕ → List ℕ
front r e = let x = key_of r e in with_key (top e) x []

unfoldable pub part : {A : Type 0} → ℕ → List ℕ → Terms A → Terms A
part r e [] = []
part r e (t ∷ p) =
    cond (same (front r e) (front r t.0)) ((tail r t.0, t.1) ∷ part r e p) (part r e p)

abbrev pub at_iteration : List ℕ → ℕ → ℕ → Terms Fraction → Terms Fraction
at_iteration base m n p = compose ℚ m p (map (constant m) (point base n []) ++ variables ℚ m)

-- ---- what solves the recurrence of one term
abbrev pub up_part : ℤ → ℕ
up_part (pos n) = n
up_part (negsuc n) = 0

abbrev pub down_part : ℤ → ℕ
down_part (pos n) = 0
down_part (negsuc n) = suc n

abbrev pub power_key : Bool → List ℤ → Key
power_key negative e = (cond negative 1 0, map up_part e, map down_part e)

abbrev pub power_terms : {A : Type 0} → ℕ → Key → (ℕ → A) → ℕ → ℕ → Terms A
power_terms m x q lo zero = []
power_terms m x q lo (suc k) = (with_key lo x (replicate m 0), q lo) ∷ power_terms m x q (suc lo) k

abbrev pub other_terms : ℕ → Key → Key → ℕ → (ℕ → Fraction) → Terms Fraction
other_terms m x y a q =
    power_terms m x q 0 (suc a) ++ (with_key 0 y (replicate m 0), opposite (q 0)) ∷ []

abbrev pub equal_terms : ℕ → Key → ℕ → (ℕ → Fraction) → Terms Fraction
equal_terms m y a q = power_terms m y q 0 (suc (suc a))

pub record IsSolution (base : List ℕ) (m a : ℕ) (inhomogeneity own : Fraction)
    (p : Terms Fraction) : Type
    0 where
  pub start : (s : List Fraction) → length s ≡ m → value_at ℚ p (point base 0 s) ≡ ℚ.zero
  pub next : (n : ℕ) (s : List Fraction) → length s ≡ m
      → value_at ℚ p (point base (suc n) s) ≡ ℚ.add (ℚ.mul own (value_at ℚ p (point base n s)))
      (ℚ.mul (power ℚ (whole (pos n)) a) (power ℚ inhomogeneity n))

abbrev pub differences : List ℕ → List ℕ → List ℤ
differences [] v = []
differences (m ∷ u) [] = []
differences (m ∷ u) (n ∷ v) = (pos m -ℤ pos n) ∷ differences u v
