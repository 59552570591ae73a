-- Forms by their values after some iterations, as the code makes them.
--   at-arity                   how many exponents a polynomial at a number of iterations has
--   solved_all, sum_is         the sum of what solves the terms of an inhomogeneity
--   start_numbers, start_is     its difference from what is there, times a power of the value
--   grown_next             a polynomial of the variables times a power, term by term;  grown_value: its values
--   together-arity, joined_is     the two together
use Rattle.std.proofs.Common.{◌≡◌, ℕ, ℤ, pos, Bool, List, [], ◌∷◌, ◌++◌, length, refl, sym, ap, ap₂, subst, ◌∙◌}
use Rattle.algebra.specs.Arithmetic.{power}
use Rattle.algebra.specs.Each.{Each}
use Rattle.algebra.specs.Ring.{CommRing}
use Rattle.algebra.proofs.Each.{each-append}
use Rattle.algebra.proofs.RingLaws as L
use Rattle.algebra.proofs.RingSolver.{ring_rules, ring}
use Rattle.algebra.specs.Fraction.{Fraction, ℚ, inverse, whole}
use Rattle.algebra.proofs.Fractions.{ℚ_ring}
use Rattle.polynomials.specs.Order.{grevlex}
use Rattle.polynomials.specs.Polynomial.{Arity, IsPolynomial}
use Rattle.polynomials.specs.Terms.{Terms, variables, value_at, monomial_at, sum_of_products}
use Rattle.polynomials.proofs.Arity.{arity-compose, arity-constants, arity-variables}
use Rattle.polynomials.proofs.ValueAt.{value_at-append}
use Rattle.exponentials.specs.Base.{Coprime, SameLength}
use Rattle.exponentials.specs.Keys.{Key}
use Rattle.exponentials.specs.Powers.{number, negate_if}
use Rattle.frac128.specs.FracMeaning.{fraction_of}
use Rattle.frac128.specs.declared.fraction.Frac.{Frac}
use Rattle.poly.specs.Seen.{terms_in}
use Rattle.poly.specs.declared.Term.{Term}
use Rattle.solvable.proofs.Using.{FracPoly}
use Rattle.solvable_maps.specs.Expo.{at_iteration, with_normal_keys, power_key, with_key, up_part, down_part}
use Rattle.solvable_maps.specs.Iterations.{point, width}
use Rattle.solvable_maps.proofs.Operations.{key_with, tail_with, normal-value}
use Rattle.solvable_maps.proofs.Recurrences.{one_value, no_value, term_value, recurrence_same}
use Rattle.expo.specs.View.{IsExpo}
use Rattle.expo.specs.declared.exponential.Expo.{Expo}
use Rattle.solvable_maps.proofs.Normal.{fits_map}
use Rattle.closed_forms.specs.Later.{with_powers, IsSumOf, IsStart, IsJoined}
use Rattle.closed_forms.specs.Solved.{AreSolved, AreSolvedBehind}
use Rattle.closed_forms.specs.Inhomogeneities.{collect_terms, part}
use Rattle.closed_forms.specs.Values.{IsExpoOver}
use Rattle.closed_forms.proofs.Joining.{over_normal}
use Rattle.closed_forms.proofs.Mixing.{tell, terms-push, more_behind}
use Rattle.closed_forms.proofs.Recurring.{collected_value, collected-arity, part_value, more_value, with-length, factor_out, solved-arity, all_solved}

abbrev R : CommRing Fraction
R = ℚ_ring

pub at-arity : (base : List ℕ) (m n : ℕ) (p : Terms Fraction) → Arity m (at_iteration base m n p)
at-arity base m n p =
    arity-compose m ℚ p _ (each-append (Arity m) _ (variables ℚ m)
    (arity-constants m (point base n [])) (arity-variables m ℚ))

-- ---- what is collected, made normal
normal_of_value : (base : List ℕ) → Coprime base → (m k : ℕ) (all sum : Terms Fraction) (e : Expo)
    → Arity (width (length base) m) all → sum ≡ collect_terms all
    → IsExpo base k (with_normal_keys (length base) sum) e → (n : ℕ) (s : List Fraction)
    → value_at ℚ (terms_in e.body) (point base n s) ≡ value_at ℚ all (point base n s)
normal_of_value base c m k all sum e a is x n s =
    let z = point base n s in
    let b : Arity (width (length base) m) sum = subst (Arity (width (length base) m)) (sym is)
    (collected-arity (width (length base) m) all a) in
    ap (λ q. value_at ℚ q z) x.terms ∙ collected_value (with_normal_keys (length base) sum) z
    ∙ normal-value base c m sum b n s ∙ ap (λ q. value_at ℚ q z) is ∙ collected_value all z

-- ---- the sum
pub solved_all : (base : List ℕ) (m : ℕ) (l : Fraction) {q : Terms Fraction} {none : Terms Fraction}
    (all : Terms Fraction)
    → none ≡ [] → AreSolvedBehind base m l q none all → AreSolved base m l q all
solved_all base m l {q = q} all e h = subst (AreSolved base m l q)
    (sym (h.terms ∙ ap (λ x. x ++ h.solved) e)) h.are

pub sum_is : (base : List ℕ) → Coprime base
    → (m k : ℕ) (l : Fraction) {q : Terms Fraction} (all : Terms Fraction) {sum : Terms Fraction}
    (e : Expo)
    → Arity (width (length base) m) q → AreSolved base m l q all → sum ≡ collect_terms all
    → IsExpo base k (with_normal_keys (length base) sum) e → IsExpoOver base m e
    → IsSumOf base m l q (terms_in e.body)
sum_is base c m k l {q = q} all {sum = sum} e a solved is x over = record {
  normal = over_normal over;
  recurs = recurrence_same base m l (λ s. ℚ.zero) q all (terms_in e.body)
      (all_solved base c m l q a solved)
      (normal_of_value base c m k all sum e (solved-arity base c m l q all a solved) is x);
}

-- ---- the start
two_products : (k t u : Fraction) → R.add (R.mul k t) (R.add (R.mul (R.neg k) u) R.zero)
    ≡ R.mul k (R.add t (R.neg u))
two_products k t u = ring R (k ∷ t ∷ u ∷ []) (search ring_rules depth 40) refl

module _ (l : Fraction) (z : ℕ) {k o : Fraction} (factor : k ≡ power ℚ (inverse l) z)
    (opposite : o ≡ ℚ.neg k) where
  pub start_numbers : ◌≡◌ {A = List Fraction} (k ∷ o ∷ [])
      (power ℚ (inverse l) z ∷ ℚ.neg (power ℚ (inverse l) z) ∷ [])
  start_numbers = ap₂ (λ a b. a ∷ b ∷ []) factor (opposite ∙ ap ℚ.neg factor)

  pub start_is : (base : List ℕ) (m : ℕ) (there at p : FracPoly) (sum : Terms Fraction)
      → p.arity ≡ m
      → ((s : List Fraction) → length s ≡ m
      → value_at ℚ (terms_in at) s ≡ value_at ℚ sum (point base z s))
      → terms_in p ≡ part (k ∷ o ∷ []) (terms_in there ∷ terms_in at ∷ [])
      → IsStart base m l z (terms_in there) sum (terms_in p)
  unfolding sum_of_products
  start_is base m there at p sum arity h e = record {
    polynomial = subst (λ n. IsPolynomial ℚ grevlex n (terms_in p)) arity p.polynomial;
    values = λ s size.
        let c = power ℚ (inverse l) z in
        ap (λ q. value_at ℚ q s)
        (e ∙ ap (λ ns. part ns (terms_in there ∷ terms_in at ∷ [])) start_numbers)
        ∙ part_value (c ∷ ℚ.neg c ∷ []) (terms_in there ∷ terms_in at ∷ []) s
        ∙ two_products c (value_at ℚ (terms_in there) s) (value_at ℚ (terms_in at) s)
        ∙ ap (λ u. R.mul c (R.add (value_at ℚ (terms_in there) s) (R.neg u))) (h s size);
  }

-- ---- a polynomial of the variables times a power
pub grown_next : (x : Key) (ts rest : List (Term Frac)) {t : Term Frac} (u : Term Frac)
    (old : List (Term Frac)) {mid : List (Term Frac)} (all : Terms Fraction)
    → ts ≡ t ∷ rest → mid ≡ old ++ u ∷ [] → u.mono ≡ with_key 0 x t.mono → u.coef ≡ t.coef
    → tell old ++ with_powers x (tell ts) ≡ all → tell mid ++ with_powers x (tell rest) ≡ all
grown_next x ts rest u old {mid = mid} all e k n o h =
    more_behind (tell old) _ (u.mono, fraction_of u.coef) (with_powers x (tell rest))
    (terms-push old u k) refl ∙ ap₂ (λ a b. tell old ++ (a, fraction_of b) ∷ with_powers x
    (tell rest)) n o ∙ ap (λ l. tell old ++ with_powers x (tell l)) (sym e) ∙ h

module _ (base : List ℕ) (c : Coprime base) (m : ℕ) (negative : Bool) (e : List ℤ)
    (k : length e ≡ length base) where
  abbrev w : ℕ
  w = width (length base) m

  abbrev x : Key
  x = power_key negative e

  fits : SameLength base x.1
  fits = fits_map up_part base e k

  fits' : SameLength base x.2
  fits' = fits_map down_part base e k

  pub grown-arity : (p : Terms Fraction) → Arity m p → Arity w (with_powers x p)
  unfolding Each
  grown-arity [] a = tt
  grown-arity (t ∷ p) a = (
    with-length base m 0 x t.0 fits fits' a.0,
    grown-arity p a.1,
  )

  grown_value : (p : Terms Fraction) (n : ℕ) (s : List Fraction)
      → value_at ℚ (with_powers x p) (point base n s)
      ≡ ℚ.mul (power ℚ (negate_if negative (number base e)) n) (value_at ℚ p s)
  grown_value [] n s = no_value (point base n s)
      ∙ sym (ap (ℚ.mul (power ℚ (negate_if negative (number base e)) n)) (no_value s)
      ∙ L.mul-zero R (power ℚ (negate_if negative (number base e)) n))
  grown_value (t ∷ p) n s =
      let d = power ℚ (negate_if negative (number base e)) n in
      let u : List ℕ × Fraction = (with_key 0 x t.0, t.1) in
      more_value u (with_powers x p) (point base n s)
      ∙ ap₂ ℚ.add
      (term_value base c u negative e (key_with base 0 x t.0 fits fits') n s
      ∙ ap₂ (λ l z. ℚ.mul (ℚ.mul t.1 (monomial_at ℚ s l)) (ℚ.mul z d))
      (tail_with base 0 x t.0 fits fits') (L.power-zero R (whole (pos n))))
      (grown_value p n s)
      ∙ factor_out t.1 (monomial_at ℚ s t.0) d (value_at ℚ p s)
      ∙ ap (ℚ.mul d) (ap (λ y. ℚ.add y (value_at ℚ p s)) (sym (one_value t s))
      ∙ sym (more_value t p s))

  -- ---- the two together
  module _ (start sum : Terms Fraction) {all : Terms Fraction}
      (is : all ≡ with_powers x start ++ sum) (a : Arity m start) (b : Arity w sum) where
    pub together-arity : Arity w all
    together-arity = subst (Arity w) (sym is)
        (each-append (λ (t : List ℕ × Fraction). length t.0 ≡ w) (with_powers x start) sum
        (grown-arity start a) b)

    pub joined_is : (j : ℕ) {body : Terms Fraction} (y : Expo) → body ≡ collect_terms all
        → IsExpo base j (with_normal_keys (length base) body) y
        → IsJoined base m (negate_if negative (number base e)) start sum (terms_in y.body)
    joined_is j {body = body} y k h = record {
      values = λ n s l.
          normal_of_value base c m j all body y together-arity k h n s
          ∙ ap (λ q. value_at ℚ q (point base n s)) is
          ∙ value_at-append R (with_powers x start) sum (point base n s)
          ∙ ap (λ v. R.add v (value_at ℚ sum (point base n s))) (grown_value start n s);
    }
