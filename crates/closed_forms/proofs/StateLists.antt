-- The branch after each number of iterations, as the code makes it.
--   variable_next                     the variables, one after another
--   image_next, images_all            the images with a state for their variables
--   states_count, state_at, states_next     the states
--   past_image, state_length, state_over, next_is, past_state, listed     what the code asks of them, and what is past
use Rattle.std.proofs.Common.{◌≡◌, ◌⊎◌, inl, inr, ℕ, zero, suc, ◌+◌, ◌<◌, ◌≤◌, List, [], ◌∷◌, ◌++◌, map, length, take, drop, get_or, slice_get, Option, All, Vec, Global, refl, sym, ap, ap₂, subst, ◌∙◌, arith}
use Rattle.std.specs.Option.{IsSomeAnd, option_map}
use Rattle.std.proofs.lemmas.List.{length-map, length_push, map_push, get_or-map, get_or_append_left, get_or_push}
use Rattle.std.proofs.lemmas.Option.{slice_get-map}
use Rattle.std.proofs.lemmas.Simd.{map-map}
use Rattle.algebra.specs.Each.{Each}
use Rattle.algebra.proofs.Lists.{take_next}
use Rattle.algebra.specs.Fraction.{Fraction, ℚ, fractions}
use Rattle.polynomials.specs.Weight.{IsPastComposition}
use Rattle.algebra.proofs.Fractions.{ℚ_ring, ℚ_field}
use Rattle.polynomials.specs.Exponent.{unit_exponents}
use Rattle.polynomials.specs.Order.{grevlex}
use Rattle.polynomials.specs.Polynomial.{IsPolynomial, Falls}
use Rattle.polynomials.specs.Terms.{Terms, Same, variables, compose}
use Rattle.polynomials.proofs.Arity.{arity-compose}
use Rattle.polynomials.proofs.Canonical.{polynomial_unique}
use Rattle.polynomials.proofs.Orders.{grevlex_order}
use Rattle.solvable_maps.specs.Uses.{unit}
use Rattle.solvable_maps.proofs.Exponents.{length-unit, unit_get}
use Rattle.monos.specs.declared.order.Grevlex.{Grevlex}
use Rattle.poly.specs.Seen.{terms_in, terms_each, arity_of, Is}
use Rattle.solvable.proofs.Using.{FracPoly, length_each, poly_at-is}
use Rattle.expo.proofs.ImageLists.{variable_pushed}
use Rattle.closed_forms.specs.Inhomogeneities.{collect_terms}
use Rattle.closed_forms.specs.States.{next_of, after, states_to, IsPastNextState, IsPastState}
use Rattle.closed_forms.proofs.Ahead.{after_count}
use Rattle.closed_forms.proofs.Making.{arity_of_is, poly_is}
use Rattle.closed_forms.proofs.Mixing.{polys_arity}

-- ---- the variables
module _ (o : Grevlex) (m i : ℕ) (l : i < m) (p : FracPoly)
    (is : IsSomeAnd (slice_get (variables ℚ m) i) (λ x. Is o m x p)) where
  made : Is o m ((unit m i, ℚ.one) ∷ []) p
  unfolding variables
  made = subst (λ (s : Option (Terms Fraction)). IsSomeAnd s (λ x. Is o m x p))
      (slice_get-map (λ e. (e, ℚ.one) ∷ []) (unit_exponents m) i
      ∙ ap (option_map (λ e. (e, ℚ.one) ∷ [])) (unit_get m i l)) is

  one_polynomial : IsPolynomial ℚ grevlex m ((unit m i, ℚ.one) ∷ [])
  unfolding Each Falls
  one_polynomial = record {
    nonzero = (ℚ_field.one-ne-zero, tt);
    arity = (length-unit m i, tt);
    falls = (tt, tt);
  }

  variable_terms : terms_in p ≡ (unit m i, ℚ.one) ∷ []
  variable_terms = polynomial_unique grevlex grevlex_order ℚ_ring m m (terms_in p)
      ((unit m i, ℚ.one) ∷ [])
      (subst (λ n. IsPolynomial ℚ grevlex n (terms_in p)) made.arity p.polynomial) one_polynomial
      made.same

  pub variable_arity : p.arity ≡ m
  variable_arity = made.arity

  pub variable_next : (out : List FracPoly) {more : List FracPoly} → more ≡ out ++ p ∷ []
      → terms_each out ++ drop i (variables ℚ m) ≡ variables ℚ m
      → terms_each more ++ drop (i + 1) (variables ℚ m) ≡ variables ℚ m
  variable_next out {more} e h = variable_pushed (λ (q : FracPoly). terms_in q) out more p e m i
      (i + 1) ℚ.one (variables ℚ m) (omega arith) refl
      (record { exponents = unit m i; unit = unit_get m i l; terms = variable_terms }) h

-- ---- a state after another one
abbrev pub turned : ℕ → List (Terms Fraction) → FracPoly → Terms Fraction
turned m state p = collect_terms (compose ℚ m (terms_in p) state)

pub image_next : (m : ℕ) (state images out : List FracPoly) {more : List FracPoly} (i : ℕ)
    {image : FracPoly} (p : FracPoly)
    → 0 < length state → All (λ (q : FracPoly). q.arity ≡ m) state → i < length images
    → image ≡ get_or images i image → more ≡ out ++ p ∷ [] → p.arity ≡ arity_of state
    → Same ℚ (terms_in p) (compose ℚ (arity_of state) (terms_in image) (terms_each state))
    → terms_each out ≡ map (turned m (terms_each state)) (take i images)
    → terms_each more ≡ map (turned m (terms_each state)) (take (i + 1) images)
image_next m state images out i {image = image} p some over l is e a s h =
    let S = terms_each state in
    let at = arity_of_is m state some over in
    ap terms_each e ∙ map_push terms_in out p ∙ ap₂ (λ ps q. ps ++ q ∷ []) h (poly_is p _
    (arity-compose m ℚ (terms_in image) S (polys_arity m state over)) (a ∙ at) (subst (λ n. Same ℚ
    (terms_in p) (compose ℚ n (terms_in image) S)) at s))
    ∙ sym (take_next (turned m S) images i image l is)

pub images_all : (m i : ℕ) (state : List (Terms Fraction)) {images : List FracPoly}
    (out : List FracPoly)
    → terms_each out ≡ map (turned m state) (take i images) → take i images ≡ images
    → terms_each out ≡ next_of m (terms_each images) state
images_all m i state {images = images} out h e =
    h ∙ ap (map (turned m state)) e
    ∙ sym (map-map (λ p. collect_terms (compose ℚ m p state)) terms_in images)

-- ---- all states
abbrev pub told : List (Vec FracPoly Global) → List (List (Terms Fraction))
told found = map (λ (v : Vec FracPoly Global). terms_each v.items) found

states_length : (M : List (Terms Fraction)) (n : ℕ) → length (states_to M n) ≡ n + 1
states_length M zero = refl
states_length M (suc n) = (let a = length_push (states_to M n) (after M (suc n)) in
    let b = states_length M n in omega (arith, a, b))

pub states_get : (M : List (Terms Fraction)) (n i : ℕ) (d : List (Terms Fraction)) → i ≤ n
    → get_or (states_to M n) i d ≡ after M i
states_get M zero zero d l = refl
states_get M zero (suc i) d l = absurd (omega (arith, l))
states_get M (suc n) i d l =
    let size = states_length M n in
    elim (let last : (i ≤ n) ⊎ (i ≡ suc n) = grind (arith, l) in last) [
      | inl h ↦ get_or_append_left (states_to M n) (after M (suc n) ∷ []) d i
          (omega (arith, h, size)) ∙ states_get M n i d h
      | inr e ↦ get_or_push (states_to M n) (after M (suc n)) d i (omega (arith, e, size))
          ∙ ap (after M) (sym e)
    ]

module _ (M : List (Terms Fraction)) (n : ℕ) (found : List (Vec FracPoly Global))
    (are : told found ≡ states_to M n) where
  pub states_count : length found ≡ n + 1
  states_count = sym (length-map found _) ∙ ap length are ∙ states_length M n

  pub state_at : (i : ℕ) (v : Vec FracPoly Global) → i ≤ n → v ≡ get_or found i v
      → terms_each v.items ≡ after M i
  state_at i v l e =
      let c = states_count in
      ap (λ (x : Vec FracPoly Global). terms_each x.items) e
      ∙ sym (get_or-map (λ (x : Vec FracPoly Global). terms_each x.items) found i v
      (terms_each v.items) (omega (arith, l, c)))
      ∙ ap (λ l. get_or l i (terms_each v.items)) are ∙ states_get M n i (terms_each v.items) l

  pub states_next : {more : List (Vec FracPoly Global)} (v : Vec FracPoly Global)
      → more ≡ found ++ v ∷ [] → terms_each v.items ≡ after M (suc n)
      → told more ≡ states_to M (n + 1)
  states_next v e h =
      ap told e ∙ map_push (λ (x : Vec FracPoly Global). terms_each x.items) found v
      ∙ ap₂ (λ xs x. xs ++ x ∷ []) are h
      ∙ ap (states_to M) (let k : suc n ≡ n + 1 = omega arith in k)

-- ---- what the code asks of them
pub past_image : (images : List FracPoly) (S : List (Terms Fraction)) (i : ℕ) {image : FracPoly}
    → i < length images → image ≡ get_or images i image
    → IsPastComposition fractions (terms_in image) S → IsPastNextState (terms_each images) S
past_image images S i {image = image} l is h = record {
  place = i;
  within = (let n = length_each images in omega (arith, l, n));
  past = subst (λ p. IsPastComposition fractions p S) (sym (poly_at-is images i image l is)) h;
}

module _ (images : List FracPoly) (n : ℕ) (found : List (Vec FracPoly Global))
    (are : told found ≡ states_to (terms_each images) n) (i : ℕ) (v : Vec FracPoly Global)
    (low : i ≤ n) (is : v ≡ get_or found i v) where
  abbrev M : List (Terms Fraction)
  M = terms_each images

  pub state_length : length v.items ≡ length images
  state_length = sym (length_each v.items) ∙ ap length (state_at M n found are i v low is)
      ∙ after_count M i ∙ length_each images

  pub state_over : All (λ (v : Vec FracPoly Global). All (λ (p : FracPoly). p.arity
      ≡ length images) v.items) found → All (λ (p : FracPoly). p.arity ≡ length images) v.items
  state_over h = subst (λ (x : Vec FracPoly Global). All (λ (p : FracPoly). p.arity
      ≡ length images) x.items) (sym is)
      (h i v (let c = states_count M n found are in omega (arith, low, c)))

  pub next_is : {next : List (Terms Fraction)}
      → next ≡ next_of (length images) M (terms_each v.items) → next ≡ after M (suc i)
  next_is h = h ∙ ap₂ (λ k. next_of k M) (sym (length_each images))
      (state_at M n found are i v low is)

  pub past_state : {iterations : ℕ} → i < iterations → IsPastNextState M (terms_each v.items)
      → IsPastState M iterations
  past_state l h = record {
    iteration = i;
    before = l;
    past = subst (IsPastNextState M) (state_at M n found are i v low is) h;
  }

-- ---- where each is what the definition says
pub listed : (found : List (Vec FracPoly Global)) (i : ℕ) {v : Vec FracPoly Global}
    → i < length found → v ≡ get_or found i v → terms_each v.items ≡ get_or (told found) i []
listed found i {v = v} l is =
    let f : Vec FracPoly Global → List (Terms Fraction) =
    λ (x : Vec FracPoly Global). terms_each x.items in
    ap f is ∙ sym (get_or-map f found i v [] l)
