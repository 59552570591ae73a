-- The number of a variable alone in a polynomial, and lists made place by place.
use Rattle.std.proofs.Common.{◌≡◌, ◌≢◌, ◌⊎◌, inl, inr, ◌<◌, ℕ, zero, suc, ◌+◌, true, false, List, [], ◌∷◌, ◌++◌, map, take, sum, replicate, get_or, length, All, IsTrue, refl, sym, ap, ap₂, subst, ◌∙◌, arith}
use Rattle.std.proofs.lemmas.List.{length-map, map_push, map_more}
use Rattle.algebra.proofs.Lists.{sum_zeros}
use Rattle.algebra.specs.Fraction.{Fraction, ℚ}
use Rattle.algebra.proofs.Fractions.{ℚ_ring}
use Rattle.polynomials.specs.Exponent.{same, exponents}
use Rattle.polynomials.specs.Polynomial.{IsDistinct}
use Rattle.polynomials.specs.Terms.{coefficient}
use Rattle.polynomials.proofs.Algebra.{coefficient-nil}
use Rattle.polynomials.proofs.Distinct.{coefficient_first, coefficient_rest}
use Rattle.polynomials.proofs.Exponent.{same_cases}
use Rattle.solvable_maps.proofs.Exponents.{exponent-get, degree-sum}
use Rattle.solvable_maps.proofs.Linear.{degree_one}
use Rattle.solvable_maps.specs.Uses.{exponent, degree, poly_at, unit}
use Rattle.frac128.specs.FracMeaning.{fraction_of}
use Rattle.frac128.specs.declared.fraction.Frac.{Frac}
use Rattle.poly.specs.Seen.{terms_in, terms_each}
use Rattle.poly.specs.declared.Term.{Term}
use Rattle.solvable.proofs.Using.{FracPoly, poly_at-is, arity_at}
use Rattle.closed_forms.proofs.Mixing.{tell}

degree-unit : (m j : ℕ) → j < m → degree (unit m j) ≡ 1
degree-unit zero j l = absurd (omega (arith, l))
degree-unit (suc m) zero l =
    (let e = degree-sum (replicate m 0) ∙ sum_zeros m in omega (arith, e))
degree-unit (suc m) (suc j) l = (let e = degree-unit m j (omega (arith, l)) in omega (arith, e))

exponent-unit : (m j : ℕ) → j < m → exponent (unit m j) j ≡ 1
exponent-unit zero j l = absurd (omega (arith, l))
exponent-unit (suc m) zero l = refl
exponent-unit (suc m) (suc j) l = exponent-unit m j (omega (arith, l))

pub false_not_true : IsTrue false → ⊥
false_not_true e = cc

pub other_degree : (e : List ℕ) (j : ℕ) {d : ℕ} → j < length e → d ≡ sum e → d ≢ 1
    → (IsTrue false → e ≡ unit (length e) j) × (e ≡ unit (length e) j → IsTrue false)
other_degree e j l s ne = (
  λ h. absurd (false_not_true h),
  λ h. absurd (ne (s ∙ sym (degree-sum e) ∙ ap degree h ∙ degree-unit (length e) j l)),
)

pub no_exponent : (e : List ℕ) (j : ℕ) {x : ℕ} → j < length e → x ≡ get_or e j 0 → x ≡ 0
    → (IsTrue false → e ≡ unit (length e) j) × (e ≡ unit (length e) j → IsTrue false)
no_exponent e j {x = x} l s z = (
  λ h. absurd (false_not_true h),
  λ h. absurd (let a : x ≡ 1 = s ∙ sym (exponent-get e j) ∙ ap (λ d. exponent d j) h
      ∙ exponent-unit (length e) j l in omega (arith, a, z)),
)

pub is_unit : (e : List ℕ) (j : ℕ) {d x : ℕ} → d ≡ sum e → d ≡ 1 → x ≡ get_or e j 0 → x ≢ 0
    → (IsTrue true → e ≡ unit (length e) j) × (e ≡ unit (length e) j → IsTrue true)
is_unit e j s one t ne = (
  λ h. degree_one (length e) e j refl (degree-sum e ∙ sym s ∙ one) (let z = exponent-get e j in
      omega (arith, z, t, ne)),
  λ h. refl,
)

-- ---- the number of a variable
pub none_alone : (ts : List (Term Frac)) (e : List ℕ) (z : Frac) → length ts ≡ 0
    → fraction_of z ≡ ℚ.zero → fraction_of z ≡ coefficient ℚ (tell ts) e
none_alone [] e z l h = h ∙ sym (coefficient-nil exponents ℚ_ring e)
none_alone (t ∷ ts) e z l h = absurd (omega (arith, l))

pub alone_here : (ts rest : List (Term Frac)) {t : Term Frac} (v m : ℕ) → ts ≡ t ∷ rest
    → t.mono ≡ unit (length t.mono) v → All (λ (u : Term Frac). length u.mono ≡ m) ts
    → IsDistinct (tell ts) → fraction_of t.coef ≡ coefficient ℚ (tell ts) (unit m v)
unfolding IsDistinct
alone_here ts rest {t = t} v m is u all d =
    let own : t.mono ≡ unit m v = u
    ∙ ap (λ k. unit k v) (subst (λ l. All (λ (u : Term Frac). length u.mono ≡ m) l) is all 0 t
    (omega arith)) in
    let apart = subst (λ l. IsDistinct (tell l)) is d in
    sym (coefficient_first ℚ_ring (t.mono, fraction_of t.coef) (tell rest) apart.0)
    ∙ ap₂ (λ l e. coefficient ℚ (tell l) e) (sym is) own

pub alone_later : (ts rest : List (Term Frac)) {t : Term Frac} (v m : ℕ) (x : Frac) → ts ≡ t ∷ rest
    → (t.mono ≡ unit (length t.mono) v → ⊥) → All (λ (u : Term Frac). length u.mono ≡ m) ts
    → fraction_of x ≡ coefficient ℚ (tell rest) (unit m v)
    → fraction_of x ≡ coefficient ℚ (tell ts) (unit m v)
alone_later ts rest {t = t} v m x is other all h =
    h ∙ sym (coefficient_rest ℚ_ring (t.mono, fraction_of t.coef) (tell rest) (unit m v)
    (apart (same_cases (unit m v) t.mono)))
    ∙ ap (λ l. coefficient ℚ (tell l) (unit m v)) (sym is)
  where
    width : length t.mono ≡ m
    width = subst (λ l. All (λ (u : Term Frac). length u.mono ≡ m) l) is all 0 t (omega arith)

    apart : (unit m v ≡ t.mono) ⊎ (same (unit m v) t.mono ≡ false) → same (unit m v) t.mono ≡ false
    apart (inl e) = absurd (other (sym e ∙ ap (λ k. unit k v) (sym width)))
    apart (inr e) = e

pub distinct_rest : (ts rest : List (Term Frac)) {t : Term Frac} → ts ≡ t ∷ rest
    → IsDistinct (tell ts) → IsDistinct (tell rest)
unfolding IsDistinct
distinct_rest ts rest is d = (let apart = subst (λ l. IsDistinct (tell l)) is d in apart.1)

-- ---- lists made place by place
pub made_next : {X Y : Type 0} (k : X → Y) (f : ℕ → Y) (g : List ℕ) (i : ℕ) (xs : List X)
    {more : List X} (x : X) → i < length g → map k xs ≡ map f (take i g) → more ≡ xs ++ x ∷ []
    → k x ≡ f (get_or g i 0) → map k more ≡ map f (take (i + 1) g)
made_next k f g i xs x l h e y = ap (map k) e ∙ map_push k xs x
    ∙ ap₂ (λ a b. a ++ b ∷ []) h y ∙ sym (map_more f g i 0 l)

-- the linear part of a polynomial of the map, by its place
pub part_is : (images : List FracPoly) (g : List ℕ) (i : ℕ) {p : FracPoly} {row : List Fraction}
    → i < length images → p ≡ get_or images i p
    → All (λ (p : FracPoly). p.arity ≡ length images) images
    → row ≡ map (λ j. coefficient ℚ (terms_in p) (unit p.arity j)) g
    → row ≡ map (λ j. coefficient ℚ (poly_at (terms_each images) i)
    (unit (length (terms_each images)) j)) g
part_is images g i {p = p} l e all h =
    h ∙ ap₂ (λ q m. map (λ j. coefficient ℚ q (unit m j)) g) (sym (poly_at-is images i p l e))
    (arity_at images (length images) i p l e all ∙ sym (length-map images _))
