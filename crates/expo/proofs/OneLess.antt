-- A polynomial at n - 1: backward, one more for n, and backward again.
--   before_values      its values
--   before_is          it has the terms of the definition
use Rattle.std.proofs.Common.{◌≡◌, ℕ, suc, pos, ◌+◌, List, ◌∷◌, ◌++◌, length, sym, ap, ap₂, subst, ◌∙◌, arith}
use Rattle.algebra.specs.Arithmetic.{power}
use Rattle.algebra.proofs.RingLaws as L
use Rattle.algebra.specs.Fraction.{Fraction, ℚ, whole, opposite, inverse, rationals}
use Rattle.algebra.proofs.Fractions.{ℚ_ring, ℚ_field}
use Rattle.polynomials.specs.Order.{grevlex}
use Rattle.polynomials.specs.Polynomial.{Arity, IsPolynomial}
use Rattle.polynomials.specs.Terms.{Terms, value_at, compose}
use Rattle.polynomials.proofs.Arity.{arity-compose}
use Rattle.polynomials.proofs.Orders.{grevlex_order}
use Rattle.machines.specs.Collect.{collect}
use Rattle.machines.proofs.Collecting.{collect-polynomial}
use Rattle.poly.specs.Seen.{terms_in}
use Rattle.solvable_maps.specs.Expo.{next_images, inverse_form_terms, one_before}
use Rattle.solvable_maps.specs.Iterations.{powers, inverses, sign, point, back_point, width, IsNormal}
use Rattle.solvable_maps.proofs.Lengths.{arity-turned_back}
use Rattle.solvable_maps.proofs.Numbers.{one_form}
use Rattle.solvable_maps.proofs.OneForm.{next_back_value, before-value, all_values}
use Rattle.solvable_maps.proofs.Operations.{turned_value, back-value}
use Rattle.expo.specs.declared.exponential.Expo.{Expo}
use Rattle.expo.specs.Operations.{at_next, inverse_form_of, before_of, IsOverBaseOf}
use Rattle.expo.specs.View.{base_of, value_of}
use Rattle.expo.proofs.Independence.{expo_polynomial, expo_normal}
use Rattle.solvable_maps.proofs.Normal.{AllStay, collect_stay, kept_stay, stay_normal, turned_stay}
use Rattle.expo.proofs.Results.{expo_arity}
use Rattle.solvable_maps.proofs.Shifted.{arity-next, compose_stay}
use Rattle.expo.proofs.Values.{collected}

module _ (e b f g : Expo) (one : IsOverBaseOf e (inverse_form_of e) b)
    (two : IsOverBaseOf b (at_next b) f)
    (three : IsOverBaseOf f (inverse_form_of f) g) where
  abbrev bs : List ℕ
  bs = base_of e

  abbrev r : ℕ
  r = length bs

  abbrev m : ℕ
  m = e.vars

  abbrev w : ℕ
  w = width r m

  abbrev p : Terms Fraction
  p = terms_in e.body

  over_f : base_of f ≡ bs
  over_f = two.over_base ∙ one.over_base

  vars_f : f.vars ≡ m
  vars_f = two.over_vars ∙ one.over_vars

  over_g : base_of g ≡ bs
  over_g = three.over_base ∙ over_f

  vars_g : g.vars ≡ m
  vars_g = three.over_vars ∙ vars_f

  f_arity : Arity w (terms_in f.body)
  f_arity = subst (λ n. Arity n (terms_in f.body)) (ap₂ (λ l k. width (length l) k) over_f vars_f)
      (expo_arity f)

  twice : (n : ℕ) (s : List Fraction) → value_at ℚ (inverse_form_terms r p) (back_point bs n s)
      ≡ value_at ℚ p (point bs n s)
  twice n s =
      turned_value bs e.coprime.0 m s (opposite (whole (pos n))) (sign n)
      (λ b. power ℚ (inverse (whole (pos b))) n) (λ b. power ℚ (whole (pos b)) n) p (expo_arity e)
      ∙ ap (λ x. value_at ℚ p (x ∷ sign n ∷ (powers bs n ++ (inverses bs n ++ s))))
      (L.neg-neg ℚ_ring (whole (pos n)))

  back_is : (z : List Fraction) → value_at ℚ (terms_in b.body) z
      ≡ value_at ℚ (inverse_form_terms r p) z
  back_is z = ap (λ q. value_at ℚ q z) one.terms ∙ collected (inverse_form_terms r p) z

  next_is : (z : List Fraction) → value_at ℚ (terms_in f.body) z
      ≡ value_at ℚ (compose ℚ w (terms_in b.body) (next_images bs m)) z
  next_is z = ap (λ q. value_at ℚ q z) two.terms ∙ collected (at_next b) z
      ∙ ap₂ (λ l k. value_at ℚ (compose ℚ (width (length l) k) (terms_in b.body)
      (next_images l k)) z) one.over_base one.over_vars

  pub before_values : (n : ℕ) (s : List Fraction) → length s ≡ m
      → value_at ℚ (terms_in g.body) (point bs (suc n) s) ≡ value_at ℚ p (point bs n s)
  before_values n s l =
      let z = point bs (suc n) s in
      ap (λ q. value_at ℚ q z) three.terms ∙ collected (inverse_form_of f) z
      ∙ ap (λ k. value_at ℚ (inverse_form_terms (length k) (terms_in f.body)) z) over_f
      ∙ back-value bs e.coprime.0 m (terms_in f.body) f_arity (suc n) s
      ∙ next_is (back_point bs (suc n) s)
      ∙ next_back_value bs e.coprime.0 m (terms_in b.body) n s l
      ∙ back_is (back_point bs n s) ∙ twice n s

  pub before_value_of : (n : ℕ) (s : List Fraction) → length s ≡ m
      → value_of g (suc n) s ≡ value_of e n s
  before_value_of n s l = ap (λ k. value_at ℚ (terms_in g.body) (point k (suc n) s)) over_g
      ∙ before_values n s l

  -- ---- the definition's
  back_arity : Arity w (inverse_form_terms r p)
  back_arity = arity-turned_back r m p (expo_arity e)

  abbrev next : Terms Fraction
  next = compose ℚ w (inverse_form_terms r p) (next_images bs m)

  next_arity : Arity w next
  next_arity = arity-compose w ℚ (inverse_form_terms r p) (next_images bs m) (arity-next bs m)

  theirs_arity : Arity w (one_before bs m p)
  theirs_arity = arity-turned_back r m next next_arity

  theirs_stay : AllStay r (one_before bs m p)
  theirs_stay = turned_stay bs m next next_arity (compose_stay bs m r (inverse_form_terms r p)
      back_arity
      (turned_stay bs m p (expo_arity e) (kept_stay r p e.normal)))

  abbrev theirs : Terms Fraction
  theirs = collect rationals grevlex (one_before bs m p)

  theirs_polynomial : IsPolynomial ℚ grevlex w theirs
  theirs_polynomial = collect-polynomial ℚ_field grevlex grevlex_order w (one_before bs m p)
      theirs_arity

  from_one : (n : ℕ) (s : List Fraction) → length s ≡ m
      → value_at ℚ (terms_in g.body) (point bs (1 + n) s) ≡ value_at ℚ theirs (point bs (1 + n) s)
  from_one n s l =
      let h : 1 + n ≡ suc n = omega arith in
      subst (λ k. value_at ℚ (terms_in g.body) (point bs k s) ≡ value_at ℚ theirs (point bs k s))
      (sym h)
      (before_values n s l
      ∙ sym (collected (one_before bs m p) (point bs (suc n) s)
      ∙ before-value bs e.coprime.0 m p (expo_arity e) n s l))

  terms_are : terms_in g.body ≡ theirs
  terms_are =
      let at = ap₂ (λ l k. width (length l) k) over_g vars_g in
      one_form bs e.coprime.0 grevlex grevlex_order m (terms_in g.body) theirs
      (subst (λ n. IsPolynomial ℚ grevlex n (terms_in g.body)) at (expo_polynomial g))
      theirs_polynomial (subst (λ l. IsNormal l (terms_in g.body)) over_g (expo_normal g))
      (stay_normal bs m theirs theirs_polynomial.arity
      (kept_stay r theirs (collect_stay grevlex r (one_before bs m p) theirs_stay)))
      (λ n s l. all_values bs e.coprime.0 m 1 (terms_in g.body) theirs s l
      (λ k. from_one k s l) n)

  pub before_is : IsOverBaseOf e (before_of e) g
  before_is = record { over_base = over_g; over_vars = vars_g; terms = terms_are }
