-- What calls on polynomials give, exactly as lists of terms.
--   poly_is                 the one list of the polynomial of some terms
--   part_is                 a form of polynomials
--   arity_of_is, over_images, moved_is     a composition with closed forms
--   before_is, sum_is, inhomogeneity_is           the inhomogeneity of a form
--   steady_is, product_is   the solution of a term
--   normal_over, room_before     what is made normal
--   base_width               how many variables a polynomial over a base has
use Rattle.std.proofs.Common.{◌≡◌, ◌<◌, ◌≤◌, ℕ, ◌-◌, List, [], ◌∷◌, ◌++◌, length, All, sym, ap, ap₂, subst, ◌∙◌, arith}
use Rattle.std.proofs.lemmas.List.{length-map}
use Rattle.algebra.specs.Each.{Each}
use Rattle.algebra.proofs.Each.{each-append}
use Rattle.algebra.specs.Fraction.{Fraction, ℚ}
use Rattle.algebra.proofs.Fractions.{ℚ_field}
use Rattle.polynomials.specs.Order.{grevlex}
use Rattle.polynomials.specs.Polynomial.{Arity, IsPolynomial}
use Rattle.polynomials.specs.Terms.{Terms, Same, times, compose}
use Rattle.polynomials.proofs.Arity.{arity-times, arity-compose}
use Rattle.polynomials.proofs.Orders.{grevlex_order}
use Rattle.machines.proofs.Collecting.{collect-is}
use Rattle.frac128.specs.declared.Whole.{Whole}
use Rattle.poly.specs.Seen.{terms_in, terms_each, arity_of}
use Rattle.coprime_base.specs.Sizes.{sizes}
use Rattle.solvable.proofs.Using.{FracPoly}
use Rattle.solvable_maps.specs.Expo.{with_normal_keys}
use Rattle.solvable_maps.specs.Iterations.{width}
use Rattle.expo.specs.declared.exponential.Expo.{Expo}
use Rattle.expo.specs.Operations.{normal_of, vars_of}
use Rattle.expo.specs.View.{IsExpo}
use Rattle.closed_forms.specs.Inhomogeneities.{collect_terms, part, part_by_forms, IsBefore, IsInhomogeneity}
use Rattle.closed_forms.specs.Solved.{still, steady, IsKeySolution, IsSolvedTerm}
use Rattle.closed_forms.specs.Sums.{mix}
use Rattle.closed_forms.specs.Values.{IsExpoOver}
use Rattle.closed_forms.proofs.Mixing.{mix-arity, polys_arity}

pub poly_is : {w : ℕ} (q : FracPoly) (ts : Terms Fraction) → Arity w ts → q.arity ≡ w
    → Same ℚ (terms_in q) ts → terms_in q ≡ collect_terms ts
poly_is {w = w} q ts a e s = collect-is ℚ_field grevlex grevlex_order w ts (terms_in q) a
    (subst (λ n. IsPolynomial ℚ grevlex n (terms_in q)) e q.polynomial) s

pub poly_arity : {w : ℕ} (q : FracPoly) → q.arity ≡ w → Arity w (terms_in q)
poly_arity q e = subst (λ n. Arity n (terms_in q)) e q.polynomial.arity

pub part_is : (m : ℕ) (cs : List Fraction) (ps : List FracPoly) {ts : Terms Fraction} (q : FracPoly)
    → All (λ (p : FracPoly). p.arity ≡ m) ps → ts ≡ mix cs (terms_each ps) → q.arity ≡ m
    → Same ℚ (terms_in q) ts → terms_in q ≡ part cs (terms_each ps)
part_is m cs ps q all e a s = poly_is q (mix cs (terms_each ps))
    (mix-arity m cs (terms_each ps) (polys_arity m ps all)) a (subst (Same ℚ (terms_in q)) e s)

-- ---- compositions
pub arity_of_is : (w : ℕ) (images : List FracPoly) → 0 < length images
    → All (λ (q : FracPoly). q.arity ≡ w) images → arity_of images ≡ w
arity_of_is w [] l h = absurd (omega (arith, l))
arity_of_is w (q ∷ images) l h = h 0 q (omega arith)

pub over_images : (w : ℕ) (images : List FracPoly) → 0 < length images
    → All (λ (q : FracPoly). q.arity ≡ w) images → All (λ (q : FracPoly). q.arity ≡ arity_of images)
    images
over_images w images l h = λ k d b. h k d b ∙ sym (arity_of_is w images l h)

pub moved_is : (base : List ℕ) (m : ℕ) (cs : List Fraction) (rests : List (Terms Fraction))
    (images : List FracPoly) (p r : FracPoly) → 0 < length images
    → All (λ (q : FracPoly). q.arity ≡ width (length base) m) images
    → terms_in p ≡ part cs rests → r.arity ≡ arity_of images
    → Same ℚ (terms_in r) (compose ℚ (arity_of images) (terms_in p) (terms_each images))
    → terms_in r ≡ part_by_forms base m cs rests (terms_each images)
moved_is base m cs rests images p r l h e a s =
    let w = width (length base) m in
    let is = arity_of_is w images l h in
    poly_is r _ (arity-compose w ℚ (terms_in p) (terms_each images) (polys_arity w images h))
    (a ∙ is) (subst (λ n. Same ℚ (terms_in r) (compose ℚ n (terms_in p) (terms_each images))) is s)
    ∙ ap (λ x. collect_terms (compose ℚ w x (terms_each images))) e

-- ---- what is made normal
pub normal_over : {bs : List ℕ} {w : ℕ} (m : ℕ) (ts : Terms Fraction) (e : Expo)
    → w ≡ width (length bs) m → IsExpo bs (vars_of bs w) (normal_of bs ts) e → IsExpoOver bs m e
normal_over {bs = bs} {w = w} m ts e k h = record {
  over_base = h.over_base;
  over_vars = h.over_vars ∙ (let q : w - width (length bs) 0 ≡ m = omega (arith, k) in q);
}

pub room_before : (bs : List ℕ) {w : ℕ} (m : ℕ) → w ≡ width (length bs) m → width (length bs) 0 ≤ w
room_before bs m k = omega (arith, k)

pub base_width : (ws : List Whole) {n : ℕ} (m : ℕ) → n ≡ length ws
    → width n m ≡ width (length (sizes ws)) m
base_width ws m e = ap (λ k. width k m) (e ∙ sym (length-map ws _))

pub sum_is : {w : ℕ} (p q r : FracPoly) {ps qs : Terms Fraction} → p.arity ≡ w → q.arity ≡ w
    → r.arity ≡ p.arity → terms_in p ≡ ps → terms_in q ≡ qs
    → Same ℚ (terms_in r) (terms_in p ++ terms_in q) → terms_in r ≡ collect_terms (ps ++ qs)
sum_is {w = w} p q r a b c e f s =
    poly_is r (terms_in p ++ terms_in q) (each-append (λ (t : List ℕ × Fraction). length t.0 ≡ w)
    (terms_in p) (terms_in q) (poly_arity p a) (poly_arity q b)) (c ∙ a) s
    ∙ ap₂ (λ x y. collect_terms (x ++ y)) e f

module _ (base : List ℕ) (m : ℕ) (cs : List Fraction) (rests ps : List (Terms Fraction))
    (matrix back : List (List Fraction)) (done : List (Terms Fraction)) where
  pub inhomogeneity_is : {before sum : Terms Fraction} (e : Expo) (k : ℕ)
      → (is : IsBefore cs matrix back done before)
      → sum ≡ collect_terms (part_by_forms base m cs rests ps ++ before)
      → IsExpo base k (with_normal_keys (length base) sum) e
      → IsInhomogeneity base m cs rests ps matrix back done (terms_in e.body)
  inhomogeneity_is e k is h x = record {
    by = is.by;
    is_by = is.is_by;
    terms = x.terms ∙ ap (λ y. collect_terms (with_normal_keys (length base) y)) (h
        ∙ ap (λ y. collect_terms (part_by_forms base m cs rests ps ++ y)) is.terms);
  }

-- ---- the solution of a term
pub steady_is : (bs : List ℕ) (t : List ℕ × Fraction) {n : ℕ} (q : FracPoly) {e : List ℕ}
    {x : Fraction} {ts : Terms Fraction}
    → ts ≡ (e, x) ∷ [] → e ≡ still (length bs) t.0 → x ≡ t.1 → length e ≡ n → q.arity ≡ n
    → Same ℚ (terms_in q) ts → terms_in q ≡ steady (length bs) t
unfolding Each
steady_is bs t q {e = e} {x = x} k a b l g s =
    poly_is q ((e, x) ∷ []) (l, tt) g (subst (Same ℚ (terms_in q)) k s)
    ∙ ap₂ (λ d y. collect_terms ((d, y) ∷ [])) a b

pub product_is : {base : List ℕ} {m : ℕ} (t : List ℕ × Fraction) {l : Fraction} (y q r : FracPoly)
    → y.arity ≡ width (length base) m → q.arity ≡ width (length base) m → r.arity ≡ y.arity
    → IsKeySolution base m l t (terms_in y) → terms_in q ≡ steady (length base) t
    → Same ℚ (terms_in r) (times ℚ (terms_in y) (terms_in q)) → IsSolvedTerm base m l t (terms_in r)
product_is {base = base} {m = m} t y q r a b c h e s = record {
  y = terms_in y;
  is = h;
  terms = poly_is r _
      (arity-times (width (length base) m) ℚ (terms_in y) (terms_in q) (poly_arity y a)
      (poly_arity q b)) (c ∙ a) s ∙ ap (λ x. collect_terms (times ℚ (terms_in y) x)) e;
}
