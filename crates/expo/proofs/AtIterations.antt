-- What stands for n, s, u, v and the variables at a number of iterations, as the code makes it.
--   power_none, power_next, power_past      no factor, and one more
--   sign_next                   one sign more
--   constant_is, number_is, power_nonzero, sign_nonzero     constants
--   powers_next, past_later     the powers, number by number
--   images_made, images_count   all images
--   iteration_same, iteration_values      the polynomial with them for its variables
use Rattle.std.proofs.Common.{◌≡◌, ◌≢◌, inr, ℕ, zero, suc, pos, negsuc, ◌+◌, ◌<◌, Bool, true, false, List, [], ◌∷◌, ◌++◌, map, length, replicate, unsigned_abs, Result, Ok, Err, refl, sym, ap, ap₂, subst, ◌∙◌, arith, append_assoc}
use Rattle.std.proofs.lemmas.List.{length-map, length-append, map-append}
use Rattle.std.specs.Result.{OnOk}
use Rattle.algebra.specs.Arithmetic.{power}
use Rattle.algebra.specs.Ring.{CommRing}
use Rattle.algebra.proofs.FieldLaws as FL
use Rattle.algebra.proofs.RingLaws as L
use Rattle.algebra.proofs.RingSolver.{ring_rules, ring}
use Rattle.algebra.specs.Fraction.{Fraction, ℚ, fraction_size, whole}
use Rattle.algebra.specs.Size.{IsPast}
use Rattle.algebra.proofs.Fractions.{ℚ_ring, ℚ_field}
use Rattle.algebra.proofs.Wholes.{of_int-whole}
use Rattle.polynomials.specs.Exponent.{unit_exponents}
use Rattle.polynomials.specs.Order.{grevlex}
use Rattle.polynomials.specs.Polynomial.{Arity, IsPolynomial, AllArity, Falls}
use Rattle.polynomials.specs.Terms.{Terms, Same, constant, variables, compose, value_at}
use Rattle.polynomials.proofs.Arity.{arity-compose, arity-constant, arity-constants, arity-variables, length-units, length-zeros}
use Rattle.polynomials.proofs.Canonical.{polynomial_unique}
use Rattle.polynomials.proofs.ByValues.{same_by_values, zero_by_values}
use Rattle.polynomials.proofs.Same.{Same-trans}
use Rattle.polynomials.proofs.ValueAt.{value_at_same, value_at-nil, value_at-constant, value_at-compose, value_at-variables, values_at-constants}
use Rattle.algebra.proofs.Each.{each-append}
use Rattle.algebra.specs.Each.{Each}
use Rattle.polynomials.proofs.Orders.{grevlex_order}
use Rattle.exponentials.specs.Base.{Coprime}
use Rattle.frac128.specs.declared.Whole.{Whole}
use Rattle.coprime_base.specs.Sizes.{sizes}
use Rattle.solvable_maps.specs.Expo.{at_iteration}
use Rattle.solvable_maps.specs.Iterations.{point, powers, inverses, sign, width}
use Rattle.solvable_maps.proofs.Operations.{iteration-value}
use Rattle.expo.specs.Images.{factor}
use Rattle.expo.specs.Points.{number_image, powers_by, iteration_images, IsPastPower, IsPastPoint}
use Rattle.expo.proofs.Binomials.{some_natural}
use Rattle.expo.proofs.Single.{single_is}

abbrev R : CommRing Fraction
R = ℚ_ring

-- ---- powers
pub power_none : (x y : Fraction) → y ≡ ℚ.one → y ≡ power ℚ x 0
unfolding power
power_none x y e = e

pub power_next : (x y z : Fraction) (k : ℕ) → y ≡ power ℚ x k → z ≡ ℚ.mul x y
    → z ≡ power ℚ x (k + 1)
unfolding power
power_next x y z k e f = f ∙ ap (ℚ.mul x) e
    ∙ ap (power ℚ x) (let h : suc k ≡ k + 1 = omega arith in h)

pub power_past : (x y : Fraction) (k n : ℕ) → y ≡ power ℚ x k → k < n
    → IsPast (fraction_size (ℚ.mul x y)) → IsPastPower x n
unfolding power
power_past x y k n e l h = record {
  exponent = suc k;
  within = omega (arith, l);
  past = subst (λ z. IsPast (fraction_size (ℚ.mul x z))) e h;
}

minus_one : whole (negsuc 0) ≡ R.neg R.one
minus_one = sym (of_int-whole (negsuc 0)) ∙ ap R.neg (R.add-zero R.one)

opposite_of : (y : Fraction) → R.neg y ≡ R.mul (R.neg R.one) y
opposite_of y = ring R (y ∷ []) (search ring_rules depth 40) refl

pub sign_next : (y z : Fraction) (k : ℕ) → y ≡ sign k → z ≡ ℚ.neg y → z ≡ sign (k + 1)
unfolding power
sign_next y z k e f =
    let h : suc k ≡ k + 1 = omega arith in
    f ∙ opposite_of y ∙ ap₂ ℚ.mul (sym minus_one) e ∙ ap sign h

power_nonzero : (x : Fraction) (n : ℕ) → x ≢ ℚ.zero → power ℚ x n ≢ ℚ.zero
unfolding power
power_nonzero x zero h = some_natural 1 ℚ.one (omega arith) refl
power_nonzero x (suc n) h = FL.product-ne-zero ℚ_field x (power ℚ x n) h (power_nonzero x n h)

some_minus : whole (negsuc 0) ≢ ℚ.zero
some_minus e = some_natural 1 ℚ.one (omega arith) refl
    (sym (L.neg-neg R ℚ.one) ∙ ap ℚ.neg (sym minus_one ∙ e) ∙ L.neg-zero R)

pub sign_nonzero : (n : ℕ) → sign n ≢ ℚ.zero
sign_nonzero n = power_nonzero (whole (negsuc 0)) n some_minus

factor_nonzero : (inverted : Bool) (b : ℕ) → 0 < b → factor inverted b ≢ ℚ.zero
factor_nonzero true b l = FL.inverse-ne-zero ℚ_field (whole (pos b))
    (some_natural b (whole (pos b)) l refl)
factor_nonzero false b l = some_natural b (whole (pos b)) l refl

-- ---- constants
pub constant_is : (w : ℕ) (c x : Fraction) (q : Terms Fraction) → c ≢ ℚ.zero → x ≡ c
    → IsPolynomial ℚ grevlex w q → Same ℚ q (constant w x) → q ≡ constant w c
unfolding constant
constant_is w c x q n e h s = single_is w (replicate w 0) c q (constant w c) (length-zeros w) n h
    (subst (λ y. Same ℚ q (constant w y)) e s) refl

pub number_is : (w n : ℕ) (x : Fraction) (q : Terms Fraction) → x ≡ whole (pos n)
    → IsPolynomial ℚ grevlex w q → Same ℚ q (constant w x) → q ≡ number_image w n
unfolding Each Falls
number_is w zero x q e h s = polynomial_unique grevlex grevlex_order ℚ_ring w w q [] h
    (record { nonzero = tt; arity = tt; falls = tt })
    (Same-trans ℚ (subst (λ y. Same ℚ q (constant w y)) e s)
    (zero_by_values w (constant w ℚ.zero) (arity-constant w ℚ.zero)
    (λ z l. value_at-constant ℚ_ring w ℚ.zero z)))
number_is w (suc n) x q e h s = constant_is w (whole (pos (suc n))) x q
    (some_natural (suc n) (whole (pos (suc n))) (omega arith) refl) e h s

-- ---- the powers, number by number
module _ (inverted : Bool) (n m : ℕ) where
  abbrev images_by : List Whole → List (Terms Fraction)
  images_by ws = map (constant m) (powers_by inverted (sizes ws) n)

  pub powers_next : {E : Type 0} (r : Result Unit E) (ws rest : List Whole) (w : Whole)
      (old mid new : List (Terms Fraction)) (p : Terms Fraction) (x : Fraction) → ws ≡ w ∷ rest
      → x ≡ power ℚ (factor inverted (unsigned_abs w.value)) n → 0 < unsigned_abs w.value
      → IsPolynomial ℚ grevlex m p → Same ℚ p (constant m x) → mid ≡ old ++ p ∷ []
      → OnOk r (new ≡ mid ++ images_by rest) → OnOk r (new ≡ old ++ images_by ws)
  powers_next (Ok u) ws rest w old mid new p x is e l h s k f =
      let c = power ℚ (factor inverted (unsigned_abs w.value)) n in
      let own : p ≡ constant m c = constant_is m c x p
      (power_nonzero (factor inverted (unsigned_abs w.value)) n
      (factor_nonzero inverted (unsigned_abs w.value) l)) e h s in
      f ∙ ap (λ l. l ++ images_by rest) k ∙ append_assoc old (p ∷ []) (images_by rest)
      ∙ ap (λ q. old ++ q ∷ images_by rest) own ∙ ap (λ l. old ++ images_by l) (sym is)
  powers_next (Err u) ws rest w old mid new p x is e l h s k f = tt

pub past_later : (n : ℕ) (ws rest : List Whole) (w : Whole) → ws ≡ w ∷ rest
    → IsPastPoint (sizes rest) n → IsPastPoint (sizes ws) n
past_later n ws rest w is h = subst (λ l. IsPastPoint (sizes l) n) (sym is)
    (record { number = h.number; within = inr h.within; past = h.past })

-- ---- all images
pub images_made : (base : List ℕ) (m n : ℕ) (a b c d e : List (Terms Fraction))
    (p q : Terms Fraction) (x : Fraction) → p ≡ number_image m n → x ≡ sign n
    → IsPolynomial ℚ grevlex m q → Same ℚ q (constant m x) → a ≡ p ∷ [] → b ≡ a ++ q ∷ []
    → c ≡ b ++ map (constant m) (powers_by false base n)
    → d ≡ c ++ map (constant m) (powers_by true base n) → e ≡ d ++ variables ℚ m
    → e ≡ iteration_images base m n
images_made base m n a b c d e p q x is s h same f g i j k =
    let own : q ≡ constant m (sign n) = constant_is m (sign n) x q (sign_nonzero n) s h same in
    let ups = map (constant m) (powers_by false base n) in
    let downs = map (constant m) (powers_by true base n) in
    k ∙ ap (λ l. l ++ variables ℚ m) (j ∙ ap (λ l. l ++ downs) (i ∙ ap (λ l. l ++ ups) (g
    ∙ ap₂ (λ l y. l ++ y ∷ []) f own ∙ ap (λ y. y ∷ constant m (sign n) ∷ []) is)))
    ∙ append_assoc ((number_image m n ∷ constant m (sign n) ∷ []) ++ ups) downs (variables ℚ m)
    ∙ append_assoc (number_image m n ∷ constant m (sign n) ∷ []) ups (downs ++ variables ℚ m)

pub images_count : (base : List ℕ) (m n : ℕ) → length (iteration_images base m n)
    ≡ width (length base) m
unfolding variables
images_count base m n =
    ap (λ k. suc (suc k)) (length-append (map (constant m) (powers base n)) _
    ∙ ap₂ ◌+◌ (length-map (powers base n) (constant m) ∙ length-map base _)
    (length-append (map (constant m) (inverses base n)) (variables ℚ m)
    ∙ ap₂ ◌+◌ (length-map (inverses base n) (constant m) ∙ length-map base _)
    (length-map (unit_exponents m) _ ∙ length-units m)))

-- ---- the polynomial with them for its variables
number_value : (m n : ℕ) (s : List Fraction) → value_at ℚ (number_image m n) s ≡ whole (pos n)
number_value m zero s = value_at-nil R s
number_value m (suc n) s = value_at-constant R m (whole (pos (suc n))) s

images_value : (base : List ℕ) (m n : ℕ) (s : List Fraction) → length s ≡ m
    → map (λ p. value_at ℚ p s) (iteration_images base m n) ≡ point base n s
images_value base m n s l =
    let at : Terms Fraction → Fraction = λ p. value_at ℚ p s in
    ap₂ ◌∷◌ (number_value m n s) (ap₂ ◌∷◌ (value_at-constant R m (sign n) s)
    (map-append at (map (constant m) (powers base n)) _
    ∙ ap₂ ◌++◌ (values_at-constants R m (powers base n) s)
    (map-append at (map (constant m) (inverses base n)) (variables ℚ m)
    ∙ ap₂ ◌++◌ (values_at-constants R m (inverses base n) s) (value_at-variables R m s l))))

images_arity : (base : List ℕ) (m n : ℕ) → AllArity m (iteration_images base m n)
unfolding Each
images_arity base m n = (
  first n,
  (
    arity-constant m (sign n),
    each-append (Arity m) (map (constant m) (powers base n)) _
        (arity-constants m (powers base n))
        (each-append (Arity m) (map (constant m) (inverses base n)) (variables ℚ m)
        (arity-constants m (inverses base n)) (arity-variables m ℚ)),
  ),
)
  where
    first : (n : ℕ) → Arity m (number_image m n)
    first zero = tt
    first (suc n) = arity-constant m (whole (pos (suc n)))

made_value : (base : List ℕ) (m n : ℕ) (p : Terms Fraction) (s : List Fraction) → length s ≡ m
    → value_at ℚ (compose ℚ m p (iteration_images base m n)) s ≡ value_at ℚ p (point base n s)
made_value base m n p s l = value_at-compose R m p (iteration_images base m n) s
    ∙ ap (value_at ℚ p) (images_value base m n s l)

theirs_arity : (base : List ℕ) (m n : ℕ) (p : Terms Fraction) → Arity m (at_iteration base m n p)
theirs_arity base m n p = arity-compose m ℚ p _ (each-append (Arity m)
    (map (constant m) (point base n [])) (variables ℚ m) (arity-constants m (point base n []))
    (arity-variables m ℚ))

pub iteration_same : (base : List ℕ) → Coprime base → (m n : ℕ) (p q : Terms Fraction)
    → Same ℚ q (compose ℚ m p (iteration_images base m n)) → Same ℚ q (at_iteration base m n p)
iteration_same base c m n p q h = Same-trans ℚ h (same_by_values m
    (compose ℚ m p (iteration_images base m n)) (at_iteration base m n p)
    (arity-compose m ℚ p (iteration_images base m n) (images_arity base m n))
    (theirs_arity base m n p)
    (λ s l. made_value base m n p s l ∙ sym (iteration-value base c m p n s l)))

pub iteration_values : (base : List ℕ) → Coprime base → (m n : ℕ) (p q : Terms Fraction)
    → Same ℚ q (at_iteration base m n p) → (s : List Fraction) → length s ≡ m
    → value_at ℚ q s ≡ value_at ℚ p (point base n s)
iteration_values base c m n p q h s l = value_at_same R q (at_iteration base m n p) s h
    ∙ iteration-value base c m p n s l
