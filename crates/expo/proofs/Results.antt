-- What the operations give.
--   collected_is, collected_same     the one list of a polynomial; the same of the same
--   IsNormalList r ts q              q is that of ts, and normal;  normal_list: that of normal terms
--   made_expo, is_expo               what has these parts, and a result with them
--   normal_past, product_weight_past, shifted_past     where the weight is past
--   expo_arity, other_arity          how many exponents the terms have;  mul_is: the product
use Rattle.std.proofs.Common.{◌≡◌, inl, inr, ◌≤◌, ℕ, ◌-◌, List, [], ◌∷◌, length, Result, Ok, Err, refl, sym, ap, ap₂, subst, ◌∙◌, arith}
use Rattle.std.specs.Result.{IfOk}
use Rattle.algebra.specs.Fraction.{Fraction, ℚ, fractions, fraction_size, rationals}
use Rattle.algebra.specs.Size.{IsPast, sizes, sum_size}
use Rattle.algebra.proofs.Fractions.{ℚ_ring, ℚ_field, fractions_ring}
use Rattle.algebra.proofs.SizeLaws.{fractions_bounded, past_under}
use Rattle.polynomials.specs.Order.{grevlex}
use Rattle.polynomials.specs.Polynomial.{Arity, AllArity, IsPolynomial}
use Rattle.polynomials.specs.Terms.{Terms, Same, times, evaluate, compose}
use Rattle.polynomials.specs.Weight.{weight, degree_bounds, composition_weight, composition_degrees, IsPastProduct, IsPastComposition, FitsMonomial}
use Rattle.polynomials.proofs.Arity.{arity-times}
use Rattle.polynomials.proofs.Composition.{same_compose}
use Rattle.polynomials.proofs.Orders.{grevlex_order}
use Rattle.polynomials.proofs.Past.{past_product_list}
use Rattle.polynomials.proofs.Same.{Same-refl, Same-trans}
use Rattle.polynomials.proofs.Weight.{weight-pos, weight_of_polynomial}
use Rattle.machines.specs.Collect.{collect}
use Rattle.machines.proofs.Collecting.{collect-same, collect-polynomial, collect-is}
use Rattle.poly.specs.Seen.{terms_in}
use Rattle.solvable_maps.specs.Expo.{with_normal_keys, next_images}
use Rattle.solvable_maps.specs.Iterations.{width}
use Rattle.expo.specs.declared.exponential.Expo.{Expo}
use Rattle.expo.specs.Images.{LikeIn}
use Rattle.expo.specs.Operations.{normal_of, vars_of, product_of, IsOverBaseOf}
use Rattle.expo.specs.View.{base_of, IsExpo}
use Rattle.solvable_maps.proofs.Normal.{AllStay, collect_stay}
use Rattle.solvable_maps.proofs.Lengths.{arity-normalized}
use Rattle.solvable_maps.proofs.Retold.{same_normalized}
use Rattle.solvable_maps.proofs.Shifted.{arity-next}

pub collected_is : (w : ℕ) (q ts : Terms Fraction) → Arity w ts → IsPolynomial ℚ grevlex w q
    → Same ℚ q ts → q ≡ collect rationals grevlex ts
collected_is w q ts a h s = collect-is ℚ_field grevlex grevlex_order w ts q a h s

pub collected_same : (w : ℕ) (p q : Terms Fraction) → Arity w p → Arity w q → Same ℚ p q
    → collect rationals grevlex p ≡ collect rationals grevlex q
collected_same w p q a b s = collected_is w (collect rationals grevlex p) q b
    (collect-polynomial ℚ_field grevlex grevlex_order w p a)
    (Same-trans ℚ (collect-same ℚ_field grevlex grevlex_order p) s)

-- q is the one list of the polynomial of ts, and is normal
pub record IsNormalList (r : ℕ) (ts q : Terms Fraction) : Type 0 where
  pub is : q ≡ collect rationals grevlex ts
  pub normal : with_normal_keys r q ≡ q

pub normal_list : (r w : ℕ) (q ts : Terms Fraction) → Arity w ts → AllStay r ts
    → IsPolynomial ℚ grevlex w q → Same ℚ q ts → IsNormalList r ts q
normal_list r w q ts a k h s =
    let e = collected_is w q ts a h s in
    record {
      is = e;
      normal = subst (λ p. with_normal_keys r p ≡ p) (sym e)
          (collect_stay grevlex r ts k);
    }

-- ---- results
pub made_expo : (base bs : List ℕ) (m n : ℕ) (q ts : Terms Fraction) → bs ≡ base → n ≡ m
    → q ≡ collect rationals grevlex ts → (x : Expo) → base_of x ≡ bs → x.vars ≡ n
    → terms_in x.body ≡ q → IsExpo base m ts x
made_expo base bs m n q ts f g e x b v t = record {
  over_base = b ∙ f;
  over_vars = v ∙ g;
  terms = t ∙ e;
}

pub is_expo : {E : Type 0} (base bs : List ℕ) (m n : ℕ) (q ts : Terms Fraction) → bs ≡ base → n ≡ m
    → q ≡ collect rationals grevlex ts → (r : Result Expo E)
    → IfOk r (λ e. base_of e ≡ bs) → IfOk r (λ e. e.vars ≡ n) → IfOk r (λ e. terms_in e.body ≡ q)
    → IfOk r (IsExpo base m ts)
is_expo base bs m n q ts f g e (Ok x) b v t = made_expo base bs m n q ts f g e x b v t
is_expo base bs m n q ts f g e (Err x) b v t = tt

pub vars_behind : (r m : ℕ) → width r m - width r 0 ≡ m
vars_behind r m = omega arith

pub width_back : (r w : ℕ) → width r 0 ≤ w → w ≡ width r (w - width r 0)
width_back r w h = omega arith

-- ---- normal polynomials
module _ (bs : List ℕ) (m : ℕ) where
  abbrev r : ℕ
  r = length bs

  abbrev w : ℕ
  w = width r m

  pub product_collected : (p p' q : Terms Fraction) → Arity w p → Arity w p' → Arity w q
      → Same ℚ q (times ℚ p p') → collect rationals grevlex (with_normal_keys r q)
      ≡ collect rationals
      grevlex (with_normal_keys r (times ℚ p p'))
  product_collected p p' q a b d s = collected_same w (with_normal_keys r q)
      (with_normal_keys r (times ℚ p p'))
      (arity-normalized r m q d) (arity-normalized r m (times ℚ p p') (arity-times w ℚ p p' a b))
      (same_normalized ℚ_ring r q (times ℚ p p') s)

  -- ---- at n + 1
  pub images_same : (p : Terms Fraction) (ps : List (Terms Fraction)) → Arity w p → AllArity w ps
      → LikeIn (next_images bs m) ps → Same ℚ (compose ℚ w p ps) (compose ℚ w p (next_images bs m))
  images_same p ps a b l = same_compose ℚ_ring w w p p ps (next_images bs m) a a b (arity-next bs m)
      (Same-refl ℚ p) l.same

pub shifted_past : (qs ps : List (Terms Fraction)) (p : Terms Fraction) → LikeIn qs ps
    → IsPastComposition fractions p ps → IsPastComposition fractions p qs
unfolding composition_weight composition_degrees
shifted_past qs ps p l (inl h) = inl (subst (λ l. IsPast (evaluate sizes fraction_size p l))
    l.weights h)
shifted_past qs ps p l (inr h) =
    inr (subst (λ l. ¬ (FitsMonomial (evaluate degree_bounds (λ c. []) p l)))
    l.degrees h)

-- ---- weights
weight-normal : (r : ℕ) (p : Terms Fraction) → weight fraction_size (with_normal_keys r p)
    ≡ weight fraction_size p
unfolding weight
weight-normal r [] = refl
weight-normal r (t ∷ p) = ap (sum_size (fraction_size t.1)) (weight-normal r p)

pub normal_past : (r : ℕ) (p ts : Terms Fraction) → ts ≡ with_normal_keys r p
    → IsPast (weight fraction_size ts) → IsPast (weight fraction_size p)
normal_past r p ts e h = subst IsPast (ap (weight fraction_size) e ∙ weight-normal r p) h

pub product_weight_past : (w : ℕ) (p q x : Terms Fraction) → IsPolynomial ℚ grevlex w x
    → Same ℚ x (times ℚ p q) → IsPast (weight fraction_size x) → IsPastProduct fractions p q
product_weight_past w p q x h s past = past_product_list fractions fractions_ring fractions_bounded
    p q
    (past_under (weight fraction_size x) (weight fraction_size (times ℚ p q))
    (weight-pos ℚ_ring fraction_size fractions_bounded (times ℚ p q))
    (weight_of_polynomial ℚ_ring fraction_size fractions_bounded grevlex grevlex_order w x
    (times ℚ p q) h s) past)

-- ---- of exponential polynomials
pub expo_arity : (e : Expo) → Arity (width (length (base_of e)) e.vars) (terms_in e.body)
expo_arity e = subst (λ w. Arity w (terms_in e.body)) e.arity e.body.polynomial.arity

pub other_arity : (e f : Expo) → base_of e ≡ base_of f → e.vars ≡ f.vars
    → Arity (width (length (base_of e)) e.vars) (terms_in f.body)
other_arity e f b v = subst (λ n. Arity n (terms_in f.body))
    (sym (ap₂ (λ l n. width (length l) n) b v)) (expo_arity f)

pub mul_is : {E : Type 0} (e f : Expo) → base_of e ≡ base_of f → e.vars ≡ f.vars → (bs : List ℕ)
    → bs ≡ base_of e → (w : ℕ) (q : Terms Fraction) → w ≡ e.body.arity → IsPolynomial ℚ grevlex w q
    → Same ℚ q (times ℚ (terms_in e.body) (terms_in f.body)) → (r : Result Expo E)
    → IfOk r (IsExpo bs (vars_of bs w) (normal_of bs q)) → IfOk r (IsOverBaseOf e (product_of e f))
mul_is e f b v bs is w q k h s (Err x) i = tt
mul_is e f b v bs is w q k h s (Ok x) i =
    let own : Arity (width (length (base_of e)) e.vars) q = subst (λ n. Arity n q) (k ∙ e.arity)
    h.arity in
    record {
      over_base = i.over_base ∙ is;
      over_vars = i.over_vars ∙ ap₂ vars_of is (k ∙ e.arity)
          ∙ vars_behind (length (base_of e)) e.vars;
      terms = i.terms ∙ ap (λ l. collect rationals grevlex (normal_of l q)) is
          ∙ product_collected (base_of e) e.vars (terms_in e.body) (terms_in f.body) q
          (expo_arity e) (other_arity e f b v) own s;
    }
