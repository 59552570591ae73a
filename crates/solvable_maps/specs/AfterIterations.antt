-- What polynomials in n, s, u, v and the variables say of the iterations of a map from some number of iterations on, variable by variable and class by class.
--   mine g e                     some variable of g is in the monomial e
--   rest_of g p                  the terms of p that have none
--   place g a                    the a-th variable of g
--   at_class g state             the numbers of the variables of g at a state
--   form_at w g state            the form w of them: each times its number of w
--   rests_at images g state      the values, at a state, of what the polynomials of g have without variables of g
--   IsAfterIterations base images since i p     from `since` on, p at n is the variable i after n iterations
--   AreAfterIterations base images since vs ps  for each variable of vs that one of ps is
--   IsFormAfterIterations base images since g w y     from `since` on, y at n is the form w of the variables of g after n iterations
--   HasRecurrence base m l q start y   y at 0 is the start, and at n + 1 it is l times y at n, and q at n
--   HasValueAfter base images g w d y  y at d is the form w of the variables of g after d iterations
--   Done                         forms with their polynomials; rows_done c ts, values_done ts z: their rows, and their polynomials' values
--   with_polynomials ws ys       the forms ws with the polynomials ys
--   IsSplit images g before w l by     w times the matrix of the class g is l times w, and the forms before it each times its number of `by`
use Rattle.std.specs.Prelude.{◌≡◌, ◌≤◌, ℕ, zero, suc, List, [], ◌∷◌, map, length, Bool, false, cond, ◌||◌}
use Rattle.algebra.specs.In.{In}
use Rattle.algebra.specs.Fraction.{Fraction, ℚ}
use Rattle.algebra.proofs.Fractions.{ℚ_field}
use Rattle.polynomials.specs.Terms.{Terms, sum_of_products, value_at}
use Rattle.solvable_maps.specs.Uses.{has, poly_at}
use Rattle.vectors.specs.Lists.{entries, row_of}
use Rattle.vectors.specs.Matrices.{times_matrix}
use Rattle.vectors.specs.Rows.{Row, rows_of}
use Rattle.vectors.specs.Space.{combine}
use Rattle.solvable_maps.specs.Classes.{class_matrix}
use Rattle.solvable_maps.specs.Iterations.{point, iterations}

abbrev pub mine : List ℕ → List ℕ → Bool
mine [] e = false
mine (j ∷ cs) e = has j e || mine cs e

abbrev pub rest_of : {A : Type 0} → List ℕ → Terms A → Terms A
rest_of cs [] = []
rest_of cs (t ∷ p) = cond (mine cs t.0) (rest_of cs p) (t ∷ rest_of cs p)

abbrev pub place : List ℕ → ℕ → ℕ
place [] a = 0
place (j ∷ cs) zero = j
place (j ∷ cs) (suc a) = place cs a

abbrev pub at_class : List ℕ → List Fraction → List Fraction
at_class g state = map (entries ℚ_field state) g

abbrev pub form_at : List Fraction → List ℕ → List Fraction → Fraction
form_at w g state = sum_of_products ℚ w (at_class g state)

abbrev pub rests_at : List (Terms Fraction) → List ℕ → List Fraction → List Fraction
rests_at images g state = map (λ i. value_at ℚ (rest_of g (poly_at images i)) state) g

module _ (base : List ℕ) (images : List (Terms Fraction)) where
  pub record IsAfterIterations (since i : ℕ) (p : Terms Fraction) : Type 0 where
    pub values : (n : ℕ) (s : List Fraction) → length s ≡ length images → since ≤ n
        → value_at ℚ p (point base n s) ≡ entries ℚ_field (iterations images n s) i

  pub record AreAfterIterations (since : ℕ) (vs : List ℕ) (ps : List (Terms Fraction)) : Type
      0 where
    pub size : length ps ≡ length images
    pub each : (i : ℕ) → In i vs → IsAfterIterations since i (poly_at ps i)

  pub record IsFormAfterIterations (since : ℕ) (g : List ℕ) (w : List Fraction)
      (y : Terms Fraction) : Type
      0 where
    pub width : length w ≡ length g
    pub values : (n : ℕ) (s : List Fraction) → length s ≡ length images → since ≤ n
        → value_at ℚ y (point base n s) ≡ form_at w g (iterations images n s)

  pub record HasValueAfter (g : List ℕ) (w : List Fraction) (d : ℕ) (y : Terms Fraction) : Type
      0 where
    pub is : (s : List Fraction) → length s ≡ length images
        → value_at ℚ y (point base d s) ≡ form_at w g (iterations images d s)

pub record HasRecurrence (base : List ℕ) (m : ℕ) (l : Fraction) (q : Terms Fraction)
    (start : List Fraction → Fraction) (y : Terms Fraction) : Type 0 where
  pub first : (s : List Fraction) → length s ≡ m → value_at ℚ y (point base 0 s) ≡ start s
  pub next : (n : ℕ) (s : List Fraction) → length s ≡ m
      → value_at ℚ y (point base (suc n) s)
      ≡ ℚ.add (ℚ.mul l (value_at ℚ y (point base n s))) (value_at ℚ q (point base n s))

-- ---- forms of a class, and those before one
abbrev pub Done : Type 0
Done = List (List Fraction × Terms Fraction)

abbrev pub rows_done : (c : ℕ) → Done → List (Row ℚ_field c)
rows_done c [] = []
rows_done c (t ∷ ts) = row_of ℚ_field c t.0 ∷ rows_done c ts

abbrev pub values_done : Done → List Fraction → List Fraction
values_done ts z = map (λ t. value_at ℚ t.1 z) ts

abbrev pub with_polynomials : List (List Fraction) → List (Terms Fraction) → Done
with_polynomials [] ys = []
with_polynomials (w ∷ ws) [] = []
with_polynomials (w ∷ ws) (y ∷ ys) = (w, y) ∷ with_polynomials ws ys

pub record IsSplit (images : List (Terms Fraction)) (g : List ℕ) (before : Done)
    (w : List Fraction) (l : Fraction) (by : List Fraction) : Type 0 where
  pub is : times_matrix (length g) (class_matrix images g) (row_of ℚ_field (length g) w)
      ≡ (rows_of ℚ_field (length g)).add
      ((rows_of ℚ_field (length g)).scale l (row_of ℚ_field (length g) w))
      (combine (rows_of ℚ_field (length g)) (entries ℚ_field by) (rows_done (length g) before))
