-- What is made class by class is known from as many iterations on as there are forms with the value 0.
--   forms_made     the forms of a class
--   all_made       the variables
--   in_place       what is in a list stands at a place of it
use Rattle.std.proofs.Common.{◌≡◌, ◌⊎◌, inl, inr, ℕ, suc, ◌+◌, ◌<◌, ◌≤◌, List, [], ◌∷◌, length, arith, sym, ap, subst, ◌∙◌}
use Rattle.algebra.specs.Each.{Each}
use Rattle.algebra.specs.In.{In}
use Rattle.algebra.proofs.In.{in_either}
use Rattle.algebra.specs.Fraction.{Fraction, ℚ}
use Rattle.polynomials.specs.Terms.{Terms, value_at, sum_of_products}
use Rattle.solvable_maps.specs.Class.{IsNext, IsClassOf}
use Rattle.solvable_maps.specs.Dependency.{IsNonlinearCycle}
use Rattle.solvable_maps.specs.Uses.{uses, strongly, poly_at, IsMap}
use Rattle.solvable_maps.specs.Classes.{IsClass}
use Rattle.solvable_maps.specs.AfterIterations.{place, rests_at, IsAfterIterations, AreAfterIterations, IsFormAfterIterations, Done, values_done}
use Rattle.solvable_maps.specs.Iterations.{point, iterations}
use Rattle.solvable_maps.specs.Made.{IsInhomogeneity, AreMade, none, stays, passes, Made, begin, class}
use Rattle.solvable_maps.proofs.ClassSteps.{rests_turned, later_form_turned, zero_form_turned, variable_turned}
use Rattle.solvable_maps.proofs.Classwise.{later_turned, later_form, next_is_class}

pub in_place : (g : List ℕ) (i : ℕ) → In i g → (a : ℕ) × (a < length g) × (place g a ≡ i)
in_place [] i h = absurd h
in_place (j ∷ g) i (inl e) = (0, omega arith, sym e)
in_place (j ∷ g) i (inr h) = let r = in_place g i h in (
  suc r.0,
  (let l : r.0 < length g = r.1 in omega (arith, l)),
  r.2,
)

module _ (base : List ℕ) (images ps : List (Terms Fraction)) (is : IsMap (length images) images)
    (no_cycle : (vs : List ℕ) → IsNonlinearCycle (uses images) (strongly images) vs → ⊥) where
  module _ (since k : ℕ) (earlier g : List ℕ) (next : IsNext (uses images) (length images) earlier
      k) (of : IsClassOf (uses images) (length images) k g) (known : AreAfterIterations base images
      since
      earlier ps) where
    the_class : IsClass images g
    the_class = next_is_class images earlier g k next of

    inhomogeneity_is : (z : ℕ) (before : Done) (w by : List Fraction) (q : Terms Fraction)
        → IsInhomogeneity base images ps (since + z) g before w by q → (n : ℕ) (s : List Fraction)
        → length s ≡ length images → since + z ≤ n
        → value_at ℚ q (point base n s) ≡ ℚ.add
        (sum_of_products ℚ w (rests_at images g (iterations images n s)))
        (sum_of_products ℚ by (values_done before (point base n s)))
    inhomogeneity_is z before w by q inhomogeneity n s size late =
        inhomogeneity.is n s size late
        ∙ ap (λ x. ℚ.add x (sum_of_products ℚ by (values_done before (point base n s))))
        (rests_turned base images (since + z) is earlier k g next of ps
        (later_turned base images since (since + z) (omega arith) earlier ps known) n s size late w
        inhomogeneity.rest inhomogeneity.width inhomogeneity.rest_is)

    all_later : (z : ℕ) (forms : Done)
        → Each (λ t. IsFormAfterIterations base images (since + z) g t.0 t.1) forms
        → Each (λ t. IsFormAfterIterations base images (since + suc z) g t.0 t.1) forms
    unfolding Each
    all_later z [] h = tt
    all_later z (t ∷ ts) h = (
      later_form base images (since + z) (since + suc z) (omega arith) g t.0 t.1 h.0,
      all_later z ts h.1,
    )

    pub forms_made : (z : ℕ) (forms : Done) → AreMade base images ps since g z forms
        → Each (λ t. IsFormAfterIterations base images (since + z) g t.0 t.1) forms
    unfolding Each
    forms_made _ _ none = tt
    forms_made _ _ (stays z d before w by l q y start made width splits some inhomogeneity rec
        value) =
        let done = forms_made z before made in (
          later_form_turned base images (since + z) is no_cycle g the_class before done w width l by
              splits q (inhomogeneity_is z before w by q inhomogeneity) some start y rec d value,
          done,
        )
    forms_made _ _ (passes z before w by l q y start made width splits nothing inhomogeneity rec) =
        let done = forms_made z before made in
        let e : suc (since + z) ≡ since + suc z = omega arith in (
          subst (λ d. IsFormAfterIterations base images d g w y) e
              (zero_form_turned base images (since + z) is no_cycle g the_class before done w width
              l by splits q (inhomogeneity_is z before w by q inhomogeneity) nothing start y rec),
          all_later z before done,
        )

  pub all_made : (since : ℕ) (vs : List ℕ) → Made base images ps since vs
      → AreAfterIterations base images since vs ps
  all_made _ _ (begin size) = record { size = size; each = λ i h. absurd h }
  all_made _ _ (class since z k earlier g forms before next of made makes) =
      let known = all_made since earlier before in
      let later = later_turned base images since (since + z) (omega arith) earlier ps known in
      let done = forms_made since k earlier g next of known z forms made in
      record { size = later.size; each = λ i h. one i later done (in_either i earlier g h) }
    where
      one : (i : ℕ) → AreAfterIterations base images (since + z) earlier ps
          → Each (λ t. IsFormAfterIterations base images (since + z) g t.0 t.1) forms → In i earlier
          ⊎ In i g
          → IsAfterIterations base images (since + z) i (poly_at ps i)
      one i later done (inl h) = later.each i h
      one i later done (inr h) =
          let r = in_place g i h in
          let m = makes r.0 r.1 in
          subst (λ j. IsAfterIterations base images (since + z) j (poly_at ps j)) r.2
          (variable_turned base images (since + z) is no_cycle g
          (next_is_class images earlier g k next of) forms done r.0 r.1 m.by m.makes
          (poly_at ps (place g r.0)) m.values)
