-- How a closed form from some number of iterations on is made, class by class and form by form. The number of iterations is that of the forms with the value 0.
-- ps has a polynomial for each variable; those of a class are made of those of the earlier ones.
--   IsInhomogeneity since g before w by q      from `since` on, q is what the form w has of earlier variables, and of the forms before it, each times its number of `by`
--   AreMade since g z forms             forms of the class g, of which z have the value 0, where the earlier variables are known from `since` on
--   IsMadeOf since g forms a p          from `since` on, p is the sum of the forms that gives the a-th variable of g
--   Made since vs                       the variables vs are made, with `since` forms that have the value 0
use Rattle.std.specs.Prelude.{◌≡◌, ◌≢◌, ℕ, suc, ◌+◌, ◌<◌, ◌≤◌, List, [], ◌∷◌, ◌++◌, length}
use Rattle.algebra.specs.Fraction.{Fraction, ℚ}
use Rattle.algebra.proofs.Fractions.{ℚ_field}
use Rattle.polynomials.specs.Terms.{Terms, value_at, compose, sum_of_products}
use Rattle.solvable_maps.specs.Class.{IsNext, IsClassOf}
use Rattle.solvable_maps.specs.Uses.{uses, poly_at}
use Rattle.vectors.specs.Lists.{entries}
use Rattle.vectors.specs.Rows.{rows_of}
use Rattle.vectors.specs.Space.{combine}
use Rattle.solvable_maps.specs.Inverse.{unit_list}
use Rattle.solvable_maps.specs.AfterIterations.{place, rests_at, HasRecurrence, HasValueAfter, Done, rows_done, values_done, IsSplit}
use Rattle.solvable_maps.specs.Iterations.{point}

module _ (base : List ℕ) (images ps : List (Terms Fraction)) where
  pub record IsInhomogeneity (since : ℕ) (g : List ℕ) (before : Done) (w by : List Fraction)
      (q : Terms Fraction) : Type 0 where
    pub rest : Terms Fraction
    pub width : ℕ
    pub rest_is : (x : List Fraction) → value_at ℚ rest x ≡ sum_of_products ℚ w
        (rests_at images g x)
    pub is : (n : ℕ) (s : List Fraction) → length s ≡ length images → since ≤ n
        → value_at ℚ q (point base n s)
        ≡ ℚ.add (value_at ℚ (compose ℚ width rest ps) (point base n s))
        (sum_of_products ℚ by (values_done before (point base n s)))

  pub data AreMade (since : ℕ) (g : List ℕ) : ℕ → Done → Type 0 where
    none : AreMade since g 0 []
    stays : (z d : ℕ) (before : Done) (w by : List Fraction) (l : Fraction) (q y : Terms Fraction)
        (start : List Fraction → Fraction)
        → AreMade since g z before → length w ≡ length g → IsSplit images g before w l by
        → l ≢ ℚ.zero → IsInhomogeneity (since + z) g before w by q
        → HasRecurrence base (length images) l q start y
        → HasValueAfter base images g w (since + z + d) y → AreMade since g z ((w, y) ∷ before)
    passes : (z : ℕ) (before : Done) (w by : List Fraction) (l : Fraction) (q y : Terms Fraction)
        (start : List Fraction → Fraction)
        → AreMade since g z before → length w ≡ length g → IsSplit images g before w l by
        → l ≡ ℚ.zero → IsInhomogeneity (since + z) g before w by q
        → HasRecurrence base (length images) l q start y
        → AreMade since g (suc z) ((w, y) ∷ before)

  pub record IsMadeOf (since : ℕ) (g : List ℕ) (forms : Done) (a : ℕ) (p : Terms Fraction) : Type
      0 where
    pub by : List Fraction
    pub makes : (i : ℕ) → i < length g
        → (combine (rows_of ℚ_field (length g)) (entries ℚ_field by)
        (rows_done (length g) forms)).0
        i ≡ entries ℚ_field (unit_list (length g) a) i
    pub values : (n : ℕ) (s : List Fraction) → length s ≡ length images → since ≤ n
        → value_at ℚ p (point base n s) ≡ sum_of_products ℚ by (values_done forms (point base n s))

  pub data Made : ℕ → List ℕ → Type 0 where
    begin : length ps ≡ length images → Made 0 []
    class : (since z k : ℕ) (earlier g : List ℕ) (forms : Done) → Made since earlier
        → IsNext (uses images) (length images) earlier k
        → IsClassOf (uses images) (length images) k g → AreMade since g z forms
        → ((a : ℕ) → a < length g → IsMadeOf (since + z) g forms a (poly_at ps (place g a)))
        → Made (since + z) (earlier ++ g)
