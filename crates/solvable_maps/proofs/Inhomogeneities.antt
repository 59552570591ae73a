-- The parts of a class's polynomials in the variables of earlier classes, composed with their closed forms.
--   value_used          a value needs the entries alone of the variables that are used
--   class_rows          the matrix of a class, by lists and by rows
use Rattle.std.proofs.Common.{◌≡◌, ℕ, zero, suc, ◌<◌, List, [], ◌∷◌, map, length, T, refl, ap, ap₂, arith, lt→ltb}
use mathlib.Core.Path.{fun_ext}
use Rattle.algebra.specs.Arithmetic.{power}
use Rattle.algebra.specs.Ring.{CommRing, Field, operations}
use Rattle.algebra.specs.Sum.{sum_over}
use Rattle.algebra.specs.Fraction.{Fraction, ℚ}
use Rattle.algebra.proofs.Fractions.{ℚ_field}
use Rattle.polynomials.specs.Terms.{Terms, coefficient, monomial_at, evaluate, value_at}
use Rattle.solvable_maps.specs.Uses.{has, any, poly_at, unit}
use Rattle.solvable_maps.proofs.Reach.{or_left, or_right}
use Rattle.vectors.specs.Rows.{same_row}
use Rattle.vectors.specs.Lists.{entries, below}
use Rattle.vectors.specs.Matrices.{rows_in}
use Rattle.solvable_maps.specs.Classes.{class_matrix}
use Rattle.solvable_maps.proofs.ClassIterations as CT
use Rattle.solvable_maps.proofs.Eigenvalues.{place_entries}

module _ {A : Type 0} (F : Field A) where
  abbrev R : CommRing A
  R = F.ring

  monomial_used : (xs ys : List A) (e : List ℕ) → length xs ≡ length ys
      → ((j : ℕ) → T (has j e) → entries F xs j ≡ entries F ys j) → monomial_at (operations R) xs e
      ≡ monomial_at (operations R) ys e
  unfolding monomial_at power
  monomial_used [] [] e l h = refl
  monomial_used [] (y ∷ ys) e l h = absurd (omega arith)
  monomial_used (x ∷ xs) [] e l h = absurd (omega arith)
  monomial_used (x ∷ xs) (y ∷ ys) [] l h = refl
  monomial_used (x ∷ xs) (y ∷ ys) (zero ∷ e) l h =
      ap (R.mul R.one) (monomial_used xs ys e (omega arith) (λ j t. h (suc j) t))
  monomial_used (x ∷ xs) (y ∷ ys) (suc n ∷ e) l h =
      ap₂ (λ z m. R.mul (power (operations R) z (suc n)) m) (h 0 (lt→ltb 0 (suc n) (omega arith)))
      (monomial_used xs ys e (omega arith) (λ j t. h (suc j) t))

  pub value_used : (p : Terms A) (xs ys : List A) → length xs ≡ length ys
      → ((j : ℕ) → T (any (has j) p) → entries F xs j ≡ entries F ys j)
      → value_at (operations R) p xs ≡ value_at (operations R) p ys
  unfolding evaluate sum_over
  value_used [] xs ys l h = refl
  value_used (t ∷ p) xs ys l h =
      ap₂ (λ a b. R.add (R.mul t.1 a) b) (monomial_used xs ys t.0 l (λ j k.
      h j (or_left (has j t.0) (any (has j) p) k)))
      (value_used p xs ys l (λ j k. h j (or_right (has j t.0) (any (has j) p) k)))

-- ---- the matrix of a class
below-same : (n : ℕ) (v u : ℕ → Fraction) → ((i : ℕ) → i < n → v i ≡ u i) → (i : ℕ)
    → below ℚ_field n v i ≡ below ℚ_field n u i
below-same zero v u h i = refl
below-same (suc n) v u h zero = h 0 (omega arith)
below-same (suc n) v u h (suc i) = below-same n (λ i. v (suc i)) (λ i. u (suc i)) (λ i l.
    h (suc i) (omega arith)) i

pub class_rows : (images : List (Terms Fraction)) (cs : List ℕ)
    → rows_in (length cs) (class_matrix images cs) ≡ CT.matrix_of ℚ_field (length images) cs images
    cs
class_rows images cs = each cs
  where
    each : (is : List ℕ)
        → rows_in (length cs)
        (map (λ i. map (λ j. coefficient ℚ (poly_at images i) (unit (length images) j)) cs) is)
        ≡ CT.matrix_of ℚ_field (length images) cs images is
    each [] = refl
    each (i ∷ is) = ap₂ ◌∷◌
        (same_row ℚ_field (length cs) _ _
        (fun_ext (below-same (length cs) _ _ (λ b l.
        place_entries (λ j. coefficient ℚ (poly_at images i) (unit (length images) j))
        cs b l))))
        (each is)
