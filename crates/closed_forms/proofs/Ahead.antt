-- The branch after a number of iterations, by its values, and the forms that are made from their values there.
--   after_values, after_count     the variables' polynomials after n iterations
--   ahead_value         the form of what is ahead is the form of the variables after so many iterations
--   later_recurs, later_there     a form by its value after some iterations: it has the recurrence, and that value
--   one_later_recurs    one that is its inhomogeneity one iteration later, where its value is zero
--   zeros_none, zeros_one, zeros_next, zeros_part, zeros-append     how many values are zero, one after another, and in two lists
--   zeros_counted       with those that aren't zero they are all
use Rattle.std.proofs.Common.{◌≡◌, ◌≢◌, ℕ, zero, suc, ◌+◌, ◌<◌, ◌≤◌, Bool, true, false, cond, List, [], ◌∷◌, ◌++◌, map, length, take, refl, sym, ap, ap₂, ◌∙◌, arith}
use Rattle.std.proofs.lemmas.Bool.{false_from_ne_true}
use Rattle.std.proofs.lemmas.List.{length-map}
use Rattle.algebra.specs.Arithmetic.{power}
use Rattle.algebra.specs.Each.{Each}
use Rattle.algebra.specs.Ring.{CommRing}
use Rattle.algebra.proofs.RingLaws.{mul_swap}
use Rattle.algebra.proofs.RingSolver.{ring_rules, ring}
use Rattle.algebra.specs.Fraction.{Fraction, ℚ, inverse, is_zero}
use Rattle.algebra.proofs.Fractions.{ℚ_ring, ℚ_field, zero_is}
use Rattle.polynomials.specs.Exponent.{unit_exponents}
use Rattle.polynomials.specs.Terms.{Terms, variables, compose, value_at, sum_of_products}
use Rattle.polynomials.proofs.Arity.{length-units}
use Rattle.polynomials.proofs.ValueAt.{value_at-compose, value_at-variables}
use Rattle.solvable_maps.specs.Uses.{poly_at}
use Rattle.vectors.specs.Lists.{entries}
use Rattle.solvable_maps.specs.AfterIterations.{form_at, HasRecurrence}
use Rattle.solvable_maps.specs.Iterations.{point, iterations, values_at}
use Rattle.solvable_maps.proofs.ClassSteps.{values-entry}
use Rattle.closed_forms.specs.Later.{IsLaterForm, IsOneLater}
use Rattle.closed_forms.specs.Inhomogeneities.{collect_terms, part}
use Rattle.closed_forms.specs.States.{zeros_in, some_of, next_of, after}
use Rattle.closed_forms.proofs.Recurring.{collected_value, part_value}

abbrev R : CommRing Fraction
R = ℚ_ring

-- ---- after a number of iterations
next_values : (m : ℕ) (images state : List (Terms Fraction)) (s : List Fraction)
    → values_at (next_of m images state) s ≡ values_at images (values_at state s)
next_values m [] state s = refl
next_values m (p ∷ images) state s = ap₂ ◌∷◌ (collected_value (compose ℚ m p state) s
    ∙ value_at-compose R m p state s) (next_values m images state s)

module _ (images : List (Terms Fraction)) where
  abbrev m : ℕ
  m = length images

  pub after_values : (n : ℕ) (s : List Fraction) → length s ≡ m
      → values_at (after images n) s ≡ iterations images n s
  after_values zero s l = value_at-variables R m s l
  after_values (suc n) s l = next_values m images (after images n) s
      ∙ ap (values_at images) (after_values n s l)

  pub after_count : (n : ℕ) → length (after images n) ≡ m
  unfolding variables
  after_count zero = length-map (unit_exponents m) _ ∙ length-units m
  after_count (suc n) = length-map images (λ p. collect_terms (compose ℚ m p (after images n)))

  pub after_entry : (n i : ℕ) → i < m → (s : List Fraction) → length s ≡ m
      → value_at ℚ (poly_at (after images n) i) s ≡ entries ℚ_field (iterations images n s) i
  after_entry n i l s e =
      let c = after_count n in
      sym (values-entry (after images n) s i (omega (arith, l, c)))
      ∙ ap (λ x. entries ℚ_field x i) (after_values n s e)

  at_places : (g : List ℕ) → Each (λ j. j < m) g → (n : ℕ) (s : List Fraction) → length s ≡ m
      → map (λ p. value_at ℚ p s) (map (poly_at (after images n)) g)
      ≡ map (entries ℚ_field (iterations images n s)) g
  unfolding Each
  at_places [] a n s l = refl
  at_places (j ∷ g) a n s l = ap₂ ◌∷◌ (after_entry n j a.0 s l) (at_places g a.1 n s l)

  pub ahead_value : (w : List Fraction) (g : List ℕ) → Each (λ j. j < m) g → (n : ℕ)
      (s : List Fraction) → length s ≡ m
      → value_at ℚ (part w (map (poly_at (after images n)) g)) s
      ≡ form_at w g (iterations images n s)
  ahead_value w g a n s l = part_value w (map (poly_at (after images n)) g) s
      ∙ ap (sum_of_products ℚ w) (at_places g a n s l)

-- ---- forms by their values there
powers_meet : (l : Fraction) → l ≢ ℚ.zero → (z : ℕ)
    → R.mul (power ℚ l z) (power ℚ (inverse l) z) ≡ R.one
unfolding power
powers_meet l n zero = R.mul-one R.one
powers_meet l n (suc z) = mul_swap R l (power ℚ l z) (inverse l) (power ℚ (inverse l) z)
    ∙ ap₂ R.mul (ℚ_field.mul-inverse l n) (powers_meet l n z) ∙ R.mul-one R.one

module _ {base : List ℕ} (m : ℕ) (l : Fraction) (z : ℕ) {there q : Terms Fraction}
    (y : Terms Fraction) (is : IsLaterForm base m l z there q y) where
  pub later_recurs : HasRecurrence base m l q (λ s. value_at ℚ y (point base 0 s)) y
  unfolding power
  later_recurs = record {
    first = λ s e. refl;
    next = λ n s e.
        is.joined.values (suc n) s e
        ∙ ap (R.add (R.mul (power ℚ l (suc n)) (value_at ℚ is.start s)))
        (is.is_sum.recurs.next n s e)
        ∙ next l (power ℚ l n) (value_at ℚ is.start s) (value_at ℚ is.sum (point base n s))
        (value_at ℚ q (point base n s))
        ∙ ap (λ x. R.add (R.mul l x) (value_at ℚ q (point base n s)))
        (sym (is.joined.values n s e));
  }
    where
      next : (l p c y q : Fraction) → R.add (R.mul (R.mul l p) c) (R.add (R.mul l y) q)
          ≡ R.add (R.mul l (R.add (R.mul p c) y)) q
      next l p c y q = ring R (l ∷ p ∷ c ∷ y ∷ q ∷ []) (search ring_rules depth 40) refl

  pub later_there : l ≢ ℚ.zero → (s : List Fraction) → length s ≡ m
      → value_at ℚ y (point base z s) ≡ value_at ℚ there s
  later_there n s e =
      is.joined.values z s e
      ∙ ap (λ c. R.add (R.mul (power ℚ l z) c) (value_at ℚ is.sum (point base z s)))
      (is.is_start.values s e)
      ∙ out (power ℚ l z) (power ℚ (inverse l) z) (value_at ℚ there s)
      (value_at ℚ is.sum (point base z s))
      ∙ ap (λ k. R.add (R.mul k (R.add (value_at ℚ there s)
      (R.neg (value_at ℚ is.sum (point base z s))))) (value_at ℚ is.sum (point base z s)))
      (powers_meet l n z)
      ∙ back (value_at ℚ there s) (value_at ℚ is.sum (point base z s))
    where
      out : (p q t u : Fraction)
          → R.add (R.mul p (R.mul q (R.add t (R.neg u)))) u
          ≡ R.add (R.mul (R.mul p q) (R.add t (R.neg u))) u
      out p q t u = ring R (p ∷ q ∷ t ∷ u ∷ []) (search ring_rules depth 40) refl

      back : (t u : Fraction) → R.add (R.mul R.one (R.add t (R.neg u))) u ≡ t
      back t u = ring R (t ∷ u ∷ []) (search ring_rules depth 40) refl

pub one_later_recurs : (base : List ℕ) (m : ℕ) (l : Fraction) {q : Terms Fraction}
    (y : Terms Fraction)
    → l ≡ ℚ.zero → IsOneLater base m q y
    → HasRecurrence base m l q (λ s. value_at ℚ y (point base 0 s)) y
one_later_recurs base m l {q = q} y nothing is = record {
  first = λ s e. refl;
  next = λ n s e.
      is.values n s e
      ∙ sym (ap (λ k. R.add (R.mul k (value_at ℚ y (point base n s)))
      (value_at ℚ q (point base n s))) nothing
      ∙ drop (value_at ℚ y (point base n s)) (value_at ℚ q (point base n s)));
}
  where
    drop : (y q : Fraction) → R.add (R.mul R.zero y) q ≡ q
    drop y q = ring R (y ∷ q ∷ []) (search ring_rules depth 40) refl

-- ---- how many values are zero
pub zeros_one : {c : Fraction} → c ≡ ℚ.zero → zeros_in (c ∷ []) ≡ 1
zeros_one {c = c} e = ap (λ b. cond b 1 0) ((zero_is c).1 e)

pub zeros_none : (c : Fraction) → c ≢ ℚ.zero → zeros_in (c ∷ []) ≡ 0
zeros_none c n = ap (λ b. cond b 1 0)
    (false_from_ne_true (is_zero c) (λ z. n ((zero_is c).0 z)))

zeros_more : (c : Fraction) (values : List Fraction)
    → zeros_in (c ∷ values) ≡ zeros_in (c ∷ []) + zeros_in values
zeros_more c values = go (is_zero c) (zeros_in values)
  where
    go : (b : Bool) (n : ℕ) → cond b (suc n) n ≡ cond b 1 0 + n
    go true n = omega arith
    go false n = omega arith

pub zeros-append : (xs ys : List Fraction) → zeros_in (xs ++ ys) ≡ zeros_in xs + zeros_in ys
zeros-append [] ys = let h : zeros_in ys ≡ 0 + zeros_in ys = omega arith in h
zeros-append (x ∷ xs) ys =
    let a = zeros_more x (xs ++ ys) in
    let b = zeros-append xs ys in
    let c = zeros_more x xs in
    omega (arith, a, b, c)

pub zeros_next : (values : List Fraction) (k : ℕ) → k < length values
    → zeros_in (take (suc k) values)
    ≡ zeros_in (take k values) + zeros_in (entries ℚ_field values k ∷ [])
zeros_next [] k l = absurd (omega (arith, l))
zeros_next (c ∷ values) zero l = (let h : zeros_in (c ∷ []) ≡ 0 + zeros_in (c ∷ []) =
    omega arith in h)
zeros_next (c ∷ values) (suc k) l =
    let a = zeros_more c (take (suc k) values) in
    let b = zeros_next values k (omega (arith, l)) in
    let d = zeros_more c (take k values) in
    omega (arith, a, b, d)

pub zeros_part : (values : List Fraction) (k : ℕ) → zeros_in (take k values) ≤ zeros_in values
zeros_part values zero = omega arith
zeros_part [] (suc k) = omega arith
zeros_part (c ∷ values) (suc k) =
    let a = zeros_more c (take k values) in
    let b = zeros_part values k in
    let d = zeros_more c values in
    omega (arith, a, b, d)

-- as the code counts them
pub zeros_counted : (values : List Fraction) → zeros_in values + length (some_of values)
    ≡ length values
zeros_counted [] = omega arith
zeros_counted (c ∷ values) = go (is_zero c) (zeros_counted values)
  where
    go : (b : Bool) → zeros_in values + length (some_of values) ≡ length values
        → cond b (suc (zeros_in values)) (zeros_in values)
        + length (cond b (some_of values) (c ∷ some_of values)) ≡ suc (length values)
    go true h = omega (arith, h)
    go false h = omega (arith, h)
