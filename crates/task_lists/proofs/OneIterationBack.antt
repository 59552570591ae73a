-- An exponential polynomial at n = -1, as the code makes it: backward, and after one iteration.
--   told_back          what it is
--   past_back          where it is past, the composition is: the powers are the numbers of the base
--   told_next, past_here, past_later        polynomial by polynomial
use Rattle.std.proofs.Common.{◌≡◌, ◌⊎◌, inl, inr, ℕ, zero, suc, ◌<◌, ◌≤◌, ◌^◌, pos, List, [], ◌∷◌, ◌++◌, map, length, unsigned_abs, Result, Ok, Err, All, refl, sym, ap, ap₂, subst, ◌∙◌, arith, append_assoc}
use Rattle.std.specs.List.{Any}
use Rattle.std.specs.Result.{IfOk}
use Rattle.std.proofs.lemmas.List.{map-append}
use Rattle.algebra.specs.Arithmetic.{power}
use Rattle.algebra.specs.In.{In}
use Rattle.algebra.proofs.In.{in_map}
use Rattle.algebra.proofs.RingLaws as L
use Rattle.algebra.specs.Fraction.{Fraction, ℚ, fractions, fraction_size, whole, inverse}
use Rattle.algebra.specs.Ratio.{ratio_size}
use Rattle.algebra.specs.Size.{IsPast, size}
use Rattle.algebra.proofs.Fractions.{ℚ_ring}
use Rattle.algebra.proofs.Wholes.{ratio-whole}
use Rattle.polynomials.specs.Order.{grevlex}
use Rattle.polynomials.specs.Polynomial.{Arity}
use Rattle.polynomials.specs.Terms.{Terms, constant, variables}
use Rattle.polynomials.specs.Weight.{IsPastComposition}
use Rattle.polynomials.proofs.Arity.{arity-compose, arity-constants, arity-variables}
use Rattle.polynomials.proofs.ByValues.{same_by_values}
use Rattle.polynomials.proofs.ValueAt.{value_at-compose, values_at-constants, value_at-variables}
use Rattle.algebra.proofs.Each.{each-append}
use Rattle.machines.proofs.Padding.{at}
use Rattle.exponentials.specs.Base.{Coprime}
use Rattle.frac128.specs.declared.Whole.{Whole}
use Rattle.poly.specs.Seen.{terms_in}
use Rattle.poly.specs.Standing.{StandsFor, AllStandFor}
use Rattle.poly.proofs.Standing.{arity_over}
use Rattle.coprime_base.specs.Sizes.{sizes}
use Rattle.solvable_maps.specs.Iterations.{back_point, powers, inverses, sign}
use Rattle.expo.specs.Operations.{inverse_form_of, IsOverBaseOf, IsPastIteration}
use Rattle.expo.specs.Points.{iteration_images as images_at, IsPastPower, IsPastPoint}
use Rattle.expo.specs.View.{base_of, value_of, iteration_of, HasValues}
use Rattle.ring_laws.specs.declared.ArithmeticError.{ArithmeticError}
use Rattle.expo.specs.declared.exponential.Expo.{Expo}
use Rattle.expo.proofs.Binomials.{quotient_fits}
use Rattle.loop_model.specs.FracPoly.{FracPoly}
use Rattle.rounds.specs.Form.{inverse_form, at_minus_one}
use Rattle.rounds.specs.Past.{iteration_images}
use Rattle.rounds.proofs.Later.{back-append}
use Rattle.task_lists.specs.Late.{form_over, bodies_in, IsExpoOver}
use Rattle.task_lists.proofs.Differences.{along, any_here, any_later}

-- ---- its values
module _ (bs : List ℕ) (coprime : Coprime bs) (m : ℕ) (body : Terms Fraction) where
  abbrev images : List (Terms Fraction)
  images = map (constant m) (back_point bs 1 []) ++ variables ℚ m

  minus_one_value : (s : List Fraction) → length s ≡ m
      → at (at_minus_one (form_over bs) m body) s ≡ at body (back_point bs 1 s)
  minus_one_value s l =
      value_at-compose ℚ_ring m body images s
      ∙ ap (at body) (map-append (λ q. at q s) (map (constant m) (back_point bs 1 []))
      (variables ℚ m) ∙ ap₂ ◌++◌ (values_at-constants ℚ_ring m (back_point bs 1 []) s)
      (value_at-variables ℚ_ring m s l) ∙ back-append bs coprime m 1 s)

  minus_one_arity : Arity m (at_minus_one (form_over bs) m body)
  minus_one_arity = arity-compose m ℚ body images
      (each-append (Arity m) _ (variables ℚ m)
      (arity-constants m (back_point bs 1 [])) (arity-variables m ℚ))

module _ (e : Expo) {back : Expo} (over : IsOverBaseOf e (inverse_form_of e) back)
    (values : HasValues (λ n s. at (terms_in e.body) (back_point (base_of e) n s)) back) where
  stands : (p : FracPoly) → StandsFor back.vars p (iteration_of back 1)
      → ((s : List Fraction) → length s ≡ back.vars → at (terms_in p) s ≡ value_of back 1 s)
      → StandsFor e.vars p (at_minus_one (form_over (base_of e)) e.vars (terms_in e.body))
  stands p i v =
      let size : p.arity ≡ e.vars = i.arity ∙ over.over_vars in
      record {
        order = refl;
        arity = size;
        same = same_by_values e.vars (terms_in p) _ (arity_over e.vars p size)
            (minus_one_arity (base_of e) e.coprime.0 e.vars (terms_in e.body))
            (λ s l. v s (l ∙ sym over.over_vars) ∙ values 1 s (l ∙ sym over.over_vars)
            ∙ sym (minus_one_value (base_of e) e.coprime.0 e.vars (terms_in e.body) s l));
      }

  pub told_back : (r : Result FracPoly ArithmeticError) → IfOk r (λ p. StandsFor back.vars p
      (iteration_of back 1)) → IfOk r (λ p. (s : List Fraction) → length s ≡ back.vars
      → at (terms_in p) s ≡ value_of back 1 s) → IfOk r (λ p. StandsFor e.vars p
      (at_minus_one (form_over (base_of e)) e.vars (terms_in e.body)))
  told_back (Ok p) i v = stands p i v
  told_back (Err x) i v = tt

-- ---- what is past
size_of : (m : ℕ) → fraction_size (whole (pos m)) ≡ size m 1
size_of m = ap ratio_size (ratio-whole (pos m))

one_fits : IsPast (size 1 1) → ⊥
one_fits (inl l) = absurd (omega (arith, l))
one_fits (inr l) = absurd (omega (arith, l))

at_most : (x : Fraction) → ¬ (IsPast (fraction_size x)) → (k : ℕ) → k ≤ 1
    → IsPast (fraction_size (power ℚ x k)) → ⊥
unfolding power
at_most x n zero l h = one_fits (subst IsPast (size_of 1) h)
at_most x n (suc zero) l h = n (subst (λ y. IsPast (fraction_size y)) (ℚ_ring.mul-one x) h)
at_most x n (suc (suc k)) l h = absurd (omega (arith, l))

no_power : {x : Fraction} → ¬ (IsPast (fraction_size x)) → IsPastPower x 1 → ⊥
no_power {x = x} n p = at_most x n p.exponent p.within p.past

no_point : (ws : List Whole) → Coprime (sizes ws) → IsPastPoint (sizes ws) 1 → ⊥
no_point ws c p =
    let (w, i, e) = in_map (λ (w : Whole). unsigned_abs w.value) ws p.number p.within in
    go p.number (subst (λ n. n < 2 ^ 127) (sym e) w.in_range)
    (positive (sizes ws) c p.number p.within) p.past
  where
    positive : (bs : List ℕ) → Coprime bs → (n : ℕ) → In n bs → 0 < n
    positive [] c n i = absurd i
    positive (b ∷ bs) c n (inl e) = let a = c.0 in omega (arith, a, e)
    positive (b ∷ bs) c n (inr i) = positive bs c.2 n i

    go : (n : ℕ) → n < 2 ^ 127 → 0 < n
        → IsPastPower (whole (pos n)) 1 ⊎ IsPastPower (inverse (whole (pos n))) 1 → ⊥
    go n l some (inl h) = no_power (λ q. small (subst IsPast (size_of n) q)) h
      where
        small : IsPast (size n 1) → ⊥
        small (inl k) = absurd (omega (arith, k, l))
        small (inr k) = absurd (omega (arith, k))
    go n l some (inr h) = no_power
        (λ q. quotient_fits 1 n (omega arith) some (omega arith) l
        (subst (λ y. IsPast (fraction_size y)) (sym (L.one-mul ℚ_ring (inverse (whole (pos n)))))
        q))
        h

images_are : (bs : List ℕ) (m : ℕ) → images_at bs m 1 ≡ iteration_images (form_over bs) m
images_are bs m =
    ap (λ l. constant m (whole (pos 1)) ∷ constant m (sign 1) ∷ l)
    (sym (ap (λ l. l ++ variables ℚ m) (map-append (constant m) (powers bs 1) (inverses bs 1 ++ [])
    ∙ ap (λ l. map (constant m) (powers bs 1) ++ l) (map-append (constant m) (inverses bs 1) []))
    ∙ append_assoc (map (constant m) (powers bs 1)) (map (constant m) (inverses bs 1) ++ [])
    (variables ℚ m)
    ∙ ap (λ l. map (constant m) (powers bs 1) ++ l)
    (append_assoc (map (constant m) (inverses bs 1)) [] (variables ℚ m))))

pub past_back : (e back : Expo) → IsOverBaseOf e (inverse_form_of e) back → IsPastIteration back 1
    → IsPastComposition fractions (inverse_form grevlex (length (base_of e)) (terms_in e.body))
    (iteration_images (form_over (base_of e)) e.vars)
past_back e back over (inl p) = absurd (no_point back.base.items back.coprime.0 p)
past_back e back over (inr p) =
    subst (λ b. IsPastComposition fractions b (iteration_images (form_over (base_of e)) e.vars))
    over.terms
    (subst (IsPastComposition fractions (terms_in back.body))
    (ap₂ (λ bs m. images_at bs m 1) over.over_base over.over_vars ∙ images_are (base_of e) e.vars)
    p)

-- ---- polynomial by polynomial
module _ (bs : List ℕ) (m : ℕ) {es rest : List Expo} {e : Expo} (is : es ≡ e ∷ rest) where
  pub over_here : All (IsExpoOver bs m) es → IsExpoOver bs m e
  over_here all = subst (λ l. All (IsExpoOver bs m) l) is all 0 e (omega arith)

  pub over_rest : All (IsExpoOver bs m) es → All (IsExpoOver bs m) rest
  over_rest all = λ k d l. subst (λ r. All (IsExpoOver bs m) r) is all (suc k) d (omega (arith, l))

  pub stands_here : (p : FracPoly) → IsExpoOver bs m e
      → StandsFor e.vars p (at_minus_one (form_over (base_of e)) e.vars (terms_in e.body))
      → StandsFor m p (at_minus_one (form_over bs) m (terms_in e.body))
  stands_here p o s = subst (λ k. StandsFor k p (at_minus_one (form_over bs) k (terms_in e.body)))
      o.over_vars (subst (λ b. StandsFor e.vars p (at_minus_one (form_over b) e.vars
      (terms_in e.body))) o.over_base s)

  pub told_next : (news : List FracPoly) (qs : List (Terms Fraction))
      → AllStandFor m news ((qs ++ at_minus_one (form_over bs) m (terms_in e.body) ∷ [])
      ++ map (at_minus_one (form_over bs) m) (bodies_in rest))
      → AllStandFor m news (qs ++ map (at_minus_one (form_over bs) m) (bodies_in es))
  told_next news qs a = subst (λ l. AllStandFor m news (qs
      ++ map (at_minus_one (form_over bs) m) (bodies_in l))) (sym is) (along m news qs _ _ a)

  abbrev IsPastAt : Terms Fraction → Type 0
  IsPastAt p = IsPastComposition fractions p (iteration_images (form_over bs) m)

  pub past_told : IsExpoOver bs m e → IsPastComposition fractions
      (inverse_form grevlex (length (base_of e)) (terms_in e.body))
      (iteration_images (form_over (base_of e)) e.vars)
      → Any IsPastAt (map (inverse_form grevlex (length bs)) (bodies_in es))
  past_told o p = subst (λ l. Any IsPastAt (map (inverse_form grevlex (length bs)) (bodies_in l)))
      (sym is) (any_here IsPastAt _ (map (inverse_form grevlex (length bs)) (bodies_in rest))
      (subst (λ k. IsPastComposition fractions (inverse_form grevlex (length bs) (terms_in e.body))
      (iteration_images (form_over bs) k)) o.over_vars
      (subst (λ b. IsPastComposition fractions (inverse_form grevlex (length b) (terms_in e.body))
      (iteration_images (form_over b) e.vars)) o.over_base p)))

  pub past_rest : Any IsPastAt (map (inverse_form grevlex (length bs)) (bodies_in rest))
      → Any IsPastAt (map (inverse_form grevlex (length bs)) (bodies_in es))
  past_rest p = subst (λ l. Any IsPastAt (map (inverse_form grevlex (length bs)) (bodies_in l)))
      (sym is) (any_later IsPastAt _ _ p)
