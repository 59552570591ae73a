-- What solves the recurrence of a form, by its values.
--   collected_value, part_value      like terms collected have the same values; a form of polynomials has the form of their values
--   more_value           of one term more
--   solved_term, all_solved          the solution of one term, and of all, one after another
--   growing_value                    a form of variables times a power
--   form_recurs                      the polynomial of a form has the form's recurrence
--   factor_out                       a common factor of two terms
--   still_long, with-length, growing-arity, solved-arity, whole-arity      as many exponents
use Rattle.std.proofs.Common.{◌≡◌, ℕ, zero, suc, ◌+◌, ◌-◌, ◌<◌, ◌≤◌, ℤ, pos, Bool, false, List, [], ◌∷◌, ◌++◌, map, length, take, drop, replicate, refl, sym, ap, ap₂, subst, ◌∙◌, arith}
use Rattle.std.proofs.lemmas.List.{length-append, length-replicate, length-drop, drop-drop}
use Rattle.algebra.specs.Arithmetic.{power}
use Rattle.algebra.specs.Each.{Each}
use Rattle.algebra.specs.Ring.{CommRing}
use Rattle.algebra.proofs.Each.{each-append}
use Rattle.algebra.proofs.RingLaws as L
use Rattle.algebra.proofs.RingSolver.{ring_rules, ring}
use Rattle.algebra.specs.Fraction.{Fraction, ℚ, rationals, whole}
use Rattle.algebra.proofs.Fractions.{ℚ_ring, ℚ_field}
use Rattle.polynomials.specs.Order.{grevlex}
use Rattle.polynomials.specs.Polynomial.{Arity}
use Rattle.polynomials.specs.Terms.{Terms, times, value_at, monomial_at, sum_of_products}
use Rattle.polynomials.proofs.Value.{monomial-zeros}
use Rattle.polynomials.proofs.Arity.{arity-times}
use Rattle.polynomials.proofs.Orders.{grevlex_order}
use Rattle.polynomials.proofs.ValueAt.{value_at-append, value_at-times, value_at_same}
use Rattle.machines.specs.Collect.{scale_terms}
use Rattle.machines.proofs.Collecting.{collect-same, collect-polynomial}
use Rattle.solvable_maps.proofs.Exponents.{length-unit}
use Rattle.solvable_maps.specs.Uses.{unit}
use Rattle.exponentials.specs.Base.{Coprime, SameLength}
use Rattle.exponentials.specs.Keys.{Key, key_of, normal_key, top}
use Rattle.exponentials.specs.Powers.{number, negate_if}
use Rattle.vectors.specs.Lists.{entries}
use Rattle.solvable_maps.specs.Expo.{with_normal_keys, tail, power_key, with_key, up_part, down_part}
use Rattle.solvable_maps.specs.AfterIterations.{form_at, HasRecurrence}
use Rattle.solvable_maps.specs.Iterations.{point, width}
use Rattle.solvable_maps.proofs.Operations.{key_with, tail_with, normal-value}
use Rattle.solvable_maps.proofs.Recurrences.{one_value, no_value, recurrence_more, recurrence_same, term_value, term_solved, growing_solved}
use Rattle.exponentials.proofs.Units.{room_long, normal_good}
use Rattle.solvable_maps.proofs.Normal.{fits_map}
use Rattle.solvable_maps.proofs.Realized.{lengths_agree}
use Rattle.closed_forms.specs.Sums.{mix}
use Rattle.closed_forms.specs.Inhomogeneities.{collect_terms, part}
use Rattle.closed_forms.specs.Solved.{still, steady, homogeneous_part, IsSolvedTerm, AreSolved, IsWhole, IsSolvedForm}

abbrev R : CommRing Fraction
R = ℚ_ring

pub collected_value : (p : Terms Fraction) (z : List Fraction) → value_at ℚ (collect_terms p) z
    ≡ value_at ℚ p z
collected_value p z = value_at_same ℚ_ring _ _ z (collect-same ℚ_field grevlex grevlex_order p)

pub collected-arity : (w : ℕ) (p : Terms Fraction) → Arity w p → Arity w (collect_terms p)
collected-arity w p a = (collect-polynomial ℚ_field grevlex grevlex_order w p a).arity

pub more_value : (t : List ℕ × Fraction) (p : Terms Fraction) (z : List Fraction)
    → value_at ℚ (t ∷ p) z ≡ ℚ.add (value_at ℚ (t ∷ []) z) (value_at ℚ p z)
more_value t p z = value_at-append R (t ∷ []) p z

-- ---- forms of polynomials
scaled_value : (c : Fraction) (p : Terms Fraction) (z : List Fraction)
    → value_at ℚ (scale_terms rationals c p) z ≡ ℚ.mul c (value_at ℚ p z)
unfolding scale_terms
scaled_value c [] z = no_value z ∙ sym (ap (ℚ.mul c) (no_value z) ∙ L.mul-zero R c)
scaled_value c (t ∷ p) z =
    more_value (t.0, ℚ.mul c t.1) (scale_terms rationals c p) z
    ∙ ap₂ ℚ.add (one_value (t.0, ℚ.mul c t.1) z) (scaled_value c p z)
    ∙ out c t.1 (monomial_at ℚ z t.0) (value_at ℚ p z)
    ∙ ap (ℚ.mul c) (ap (λ x. ℚ.add x (value_at ℚ p z)) (sym (one_value t z))
    ∙ sym (more_value t p z))
  where
    out : (c k x y : Fraction) → R.add (R.mul (R.mul c k) x) (R.mul c y)
        ≡ R.mul c (R.add (R.mul k x) y)
    out c k x y = ring R (c ∷ k ∷ x ∷ y ∷ []) (search ring_rules depth 40) refl

pub mix_value : (cs : List Fraction) (ps : List (Terms Fraction)) (z : List Fraction)
    → value_at ℚ (mix cs ps) z ≡ sum_of_products ℚ cs (map (λ p. value_at ℚ p z) ps)
unfolding sum_of_products
mix_value [] ps z = no_value z
mix_value (c ∷ cs) [] z = no_value z
mix_value (c ∷ cs) (p ∷ ps) z = value_at-append R (scale_terms rationals c p) (mix cs ps) z
    ∙ ap₂ ℚ.add (scaled_value c p z) (mix_value cs ps z)

pub part_value : (cs : List Fraction) (ps : List (Terms Fraction)) (z : List Fraction)
    → value_at ℚ (part cs ps) z ≡ sum_of_products ℚ cs (map (λ p. value_at ℚ p z) ps)
part_value cs ps z = collected_value (mix cs ps) z ∙ mix_value cs ps z

-- ---- exponents that do not change with n
zeros-take : (r t : ℕ) (d : List ℕ) → r ≤ t → take r (replicate t 0 ++ d) ≡ replicate r 0
zeros-take zero t d l = refl
zeros-take (suc r) zero d l = absurd (omega (arith, l))
zeros-take (suc r) (suc t) d l = ap (λ e. 0 ∷ e) (zeros-take r t d (omega (arith, l)))

zeros-drop : (r t k : ℕ) (d : List ℕ) → t ≡ r + k → drop r (replicate t 0 ++ d) ≡ replicate k 0 ++ d
zeros-drop zero t k d e = ap (λ n. replicate n 0 ++ d) (let q : t ≡ k = omega (arith, e) in q)
zeros-drop (suc r) zero k d e = absurd (omega (arith, e))
zeros-drop (suc r) (suc t) k d e = zeros-drop r t k d (omega (arith, e))

no_sides : (f : ℤ → ℕ) → f (pos 0) ≡ 0 → (r : ℕ) → map f (replicate r (pos 0)) ≡ replicate r 0
no_sides f e zero = refl
no_sides f e (suc r) = ap₂ ◌∷◌ e (no_sides f e r)

still-key : (r : ℕ) (e : List ℕ) → key_of r (still r e) ≡ power_key false (replicate r (pos 0))
still-key r e =
    let d = drop (width r 0) e in
    let us = zeros-take r (r + (r + 0)) d (omega arith) ∙ sym (no_sides up_part refl r) in
    let vs = ap (take r) (zeros-drop r (r + (r + 0)) (r + 0) d refl)
    ∙ zeros-take r (r + 0) d (omega arith) ∙ sym (no_sides down_part refl r) in
    λ i. (0, us i, vs i)

still-tail : (r m : ℕ) (e : List ℕ) → length e ≡ width r m → tail r (still r e) ≡ tail r e
still-tail r m [] l = absurd (omega (arith, l))
still-tail r m (a ∷ []) l = absurd (omega (arith, l))
still-tail r m (a ∷ b ∷ e) l =
    let d = drop (r + (r + 0)) e in
    ap (drop r) (zeros-drop r (r + (r + 0)) (r + 0) d refl)
    ∙ zeros-drop r (r + 0) 0 d refl
    ∙ ap (λ k. drop k e) (let h : r + (r + 0) ≡ r + r = omega arith in h)
    ∙ sym (drop-drop r r e)

pub still_long : (r : ℕ) (e : List ℕ) → width r 0 ≤ length e → length (still r e) ≡ length e
still_long r e l =
    length-append (replicate (width r 0) 0) (drop (width r 0) e)
    ∙ ap₂ ◌+◌ (length-replicate (width r 0) 0) (length-drop (width r 0) e)
    ∙ (let h : width r 0 + (length e - width r 0) ≡ length e = omega (arith, l) in h)

still-length : (r m : ℕ) (e : List ℕ) → length e ≡ width r m → length (still r e) ≡ width r m
still-length r m e l = still_long r e (let h : width r 0 ≤ length e = omega (arith, l) in h) ∙ l

tail-length : (r m : ℕ) (e : List ℕ) → length e ≡ width r m → length (tail r e) ≡ m
tail-length r m [] l = absurd (omega (arith, l))
tail-length r m (a ∷ []) l = absurd (omega (arith, l))
tail-length r m (a ∷ b ∷ e) l = length-drop r (drop r e) ∙ ap (λ k. k - r) (length-drop r e)
    ∙ (let h : length e - r - r ≡ m = omega (arith, l) in h)

pub with-length : (bs : List ℕ) (m n : ℕ) (x : Key) (e : List ℕ) → SameLength bs x.1
    → SameLength bs x.2 → length e ≡ m → length (with_key n x e) ≡ width (length bs) m
with-length bs m n x e f g l =
    ap (λ k. suc (suc k)) (length-append x.1 (x.2 ++ e)
    ∙ ap₂ ◌+◌ (lengths_agree bs x.1 f) (length-append x.2 e ∙ ap₂ ◌+◌ (lengths_agree bs x.2 g) l))

pub normalized-arity : (bs : List ℕ) (m : ℕ) (p : Terms Fraction) → Arity (width (length bs) m) p
    → Arity (width (length bs) m) (with_normal_keys (length bs) p)
unfolding Each
normalized-arity bs m [] a = tt
normalized-arity bs m (t ∷ p) a =
    let l = a.0 in
    let good = normal_good bs t (room_long bs t (omega (arith, l))) in (
      with-length bs m (top t.0) (normal_key (length bs) t.0) (tail (length bs) t.0) good.1 good.2
          (tail-length (length bs) m t.0 l),
      normalized-arity bs m p a.1,
    )

unit_value : (m : ℕ) (s : List Fraction) (j : ℕ) → length s ≡ m → j < m → monomial_at ℚ s (unit m j)
    ≡ entries ℚ_field s j
unfolding monomial_at power
unit_value zero s j l b = absurd (omega (arith, b))
unit_value (suc m) [] j l b = absurd (omega (arith, l))
unit_value (suc m) (a ∷ s) zero l b = ap₂ ℚ.mul (R.mul-one a) (monomial-zeros R m s) ∙ R.mul-one a
unit_value (suc m) (a ∷ s) (suc j) l b =
    ap (ℚ.mul ℚ.one) (unit_value m s j (omega (arith, l)) (omega (arith, b)))
    ∙ L.one-mul R (entries ℚ_field s j)

-- a term that grows, and the others, by their common power
pub factor_out : (x y z f : Fraction) → R.add (R.mul (R.mul x y) (R.mul R.one z)) (R.mul z f)
    ≡ R.mul z (R.add (R.mul x y) f)
factor_out x y z f = ring R (x ∷ y ∷ z ∷ f ∷ []) (search ring_rules depth 40) refl

-- ---- over a base
module _ (base : List ℕ) (c : Coprime base) (m : ℕ) where
  abbrev r : ℕ
  r = length base

  abbrev w : ℕ
  w = width r m

  growing-arity : (negative : Bool) (e : List ℤ) → length e ≡ r → (cs : List Fraction) (g : List ℕ)
      → Arity w (homogeneous_part m (power_key negative e) cs g)
  unfolding Each
  growing-arity negative e k [] g = tt
  growing-arity negative e k (x ∷ cs) [] = tt
  growing-arity negative e k (x ∷ cs) (j ∷ g) = (
    with-length base m 0 (power_key negative e) (unit m j) (fits_map up_part base e k)
        (fits_map down_part base e k) (length-unit m j),
    growing-arity negative e k cs g,
  )

  term-arity : (l : Fraction) (t : List ℕ × Fraction) (p : Terms Fraction) → length t.0 ≡ w
      → IsSolvedTerm base m l t p → Arity w p
  unfolding Each
  term-arity l t p a h =
      subst (Arity w) (sym h.terms)
      (collected-arity w (times ℚ h.y (steady r t)) (arity-times w ℚ h.y (steady r t)
      h.is.normal.polynomial.arity (collected-arity w ((still r t.0, t.1) ∷ [])
      (still-length r m t.0 a, tt))))

  pub solved-arity : (l : Fraction) (q ys : Terms Fraction) → Arity w q → AreSolved base m l q ys
      → Arity w ys
  unfolding Each
  solved-arity l [] ys a f = subst (Arity w) (sym f) tt
  solved-arity l (t ∷ u) ys a (p, zs, h, k, f) =
      subst (Arity w) (sym f) (each-append (λ (t : List ℕ × Fraction). length t.0 ≡ w) p zs
      (term-arity l t p a.0 h) (solved-arity l u zs a.1 k))

  pub whole-arity : {cs : List Fraction} {g : List ℕ} (l : Fraction) {q p : Terms Fraction}
      → Arity w q → IsWhole base m cs g l q p → Arity w p
  whole-arity {cs = cs} {g = g} l {q = q} a h =
      subst (Arity w) (sym h.terms) (each-append (λ (t : List ℕ × Fraction). length t.0 ≡ w) _
      h.solved (growing-arity h.negative h.exponents h.power.count cs g)
      (solved-arity l q h.solved a h.are))

  -- ---- recurrences
  abbrev nothing : List Fraction → Fraction
  nothing s = ℚ.zero

  solved_term : (l : Fraction) (t : List ℕ × Fraction) (p : Terms Fraction) → length t.0 ≡ w
      → IsSolvedTerm base m l t p → HasRecurrence base m l (t ∷ []) nothing p
  solved_term l t p a h =
      let u : List ℕ × Fraction = (still r t.0, t.1) in
      recurrence_same base m l nothing (t ∷ []) (times ℚ h.y (u ∷ [])) p
      (term_solved base c m l t u h.is.negative h.is.exponents h.y h.is.key (still-key r t.0) refl
      (still-tail r m t.0 a) refl h.is.solution)
      (λ n s.
      ap (λ x. value_at ℚ x (point base n s)) h.terms
      ∙ collected_value (times ℚ h.y (steady r t)) (point base n s)
      ∙ value_at-times R h.y (steady r t) (point base n s)
      ∙ ap (ℚ.mul (value_at ℚ h.y (point base n s))) (collected_value (u ∷ []) (point base n s))
      ∙ sym (value_at-times R h.y (u ∷ []) (point base n s)))

  nothing_recurs : (l : Fraction) → HasRecurrence base m l [] nothing []
  nothing_recurs l = record {
    first = λ s k. no_value (point base 0 s);
    next = λ n s k. no_value (point base (suc n) s)
        ∙ sym (ap₂ (λ a b. ℚ.add (ℚ.mul l a) b) (no_value (point base n s))
        (no_value (point base n s)) ∙ R.add-zero _ ∙ L.mul-zero R l);
  }

  pub all_solved : (l : Fraction) (q : Terms Fraction) {ys : Terms Fraction} → Arity w q
      → AreSolved base m l q ys → HasRecurrence base m l q nothing ys
  unfolding Each
  all_solved l [] a f = subst (HasRecurrence base m l [] nothing) (sym f) (nothing_recurs l)
  all_solved l (t ∷ u) a (p, zs, h, k, f) =
      subst (HasRecurrence base m l (t ∷ u) nothing) (sym f) (recurrence_more base m l nothing
      (t ∷ []) p u zs (solved_term l t p a.0 h) (all_solved l u a.1 k))

  growing_value : (negative : Bool) (e : List ℤ) → length e ≡ r → (cs : List Fraction) (g : List ℕ)
      → Each (λ j. j < m) g → (n : ℕ) (s : List Fraction) → length s ≡ m
      → value_at ℚ (homogeneous_part m (power_key negative e) cs g) (point base n s)
      ≡ ℚ.mul (power ℚ (negate_if negative (number base e)) n) (form_at cs g s)
  unfolding Each sum_of_products
  growing_value negative e k [] g a n s l = no_value (point base n s)
      ∙ sym (L.mul-zero R (power ℚ (negate_if negative (number base e)) n))
  growing_value negative e k (x ∷ cs) [] a n s l = no_value (point base n s)
      ∙ sym (L.mul-zero R (power ℚ (negate_if negative (number base e)) n))
  growing_value negative e k (x ∷ cs) (j ∷ g) a n s l =
      let y = power_key negative e in
      let f = fits_map up_part base e k in
      let f' = fits_map down_part base e k in
      let t : List ℕ × Fraction = (with_key 0 y (unit m j), x) in
      more_value t (homogeneous_part m y cs g) (point base n s)
      ∙ ap₂ ℚ.add
      (term_value base c t negative e (key_with base 0 y (unit m j) f f') n s
      ∙ ap₂ (λ d z. ℚ.mul (ℚ.mul x (monomial_at ℚ s d))
      (ℚ.mul z (power ℚ (negate_if negative (number base e)) n))) (tail_with base 0 y (unit m j)
      f f') (L.power-zero R (whole (pos n)))
      ∙ ap (λ d. ℚ.mul (ℚ.mul x d) (ℚ.mul ℚ.one (power ℚ (negate_if negative (number base e)) n)))
      (unit_value m s j l a.0))
      (growing_value negative e k cs g a.1 n s l)
      ∙ factor_out x (entries ℚ_field s j) (power ℚ (negate_if negative (number base e)) n)
      (form_at cs g s)

  whole_recurs : (cs : List Fraction) (g : List ℕ) (l : Fraction) (q p : Terms Fraction)
      → Each (λ j. j < m) g → Arity w q → IsWhole base m cs g l q p
      → HasRecurrence base m l q (form_at cs g) p
  whole_recurs cs g l q p low a h =
      let y = homogeneous_part m (power_key h.negative h.exponents) cs g in
      subst (HasRecurrence base m l q (form_at cs g)) (sym h.terms) (recurrence_more base m l
      (form_at cs g) [] y q h.solved (growing_solved base c m l h.negative h.exponents h.power.is y
      (form_at cs g) (λ n s k. growing_value h.negative h.exponents h.power.count cs g low n s k))
      (all_solved l q a h.are))

  pub form_recurs : (cs : List Fraction) (g : List ℕ) (l : Fraction) {q : Terms Fraction}
      (y : Terms Fraction)
      → Each (λ j. j < m) g → Arity w q → IsSolvedForm base m cs g l q y
      → HasRecurrence base m l q (form_at cs g) y
  form_recurs cs g l {q = q} y low a h =
      let b : Arity w (collect_terms h.whole) =
      collected-arity w h.whole (whole-arity l a h.is) in
      recurrence_same base m l (form_at cs g) q h.whole y (whole_recurs cs g l q h.whole low a h.is)
      (λ n s.
      ap (λ x. value_at ℚ x (point base n s)) h.terms
      ∙ collected_value (with_normal_keys r (collect_terms h.whole)) (point base n s)
      ∙ normal-value base c m (collect_terms h.whole) b n s
      ∙ collected_value h.whole (point base n s))
