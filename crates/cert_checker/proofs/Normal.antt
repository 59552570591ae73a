-- Polynomials that are normal as they are.
--   own_normal, normal_own      a polynomial that is made normal is its own, exactly where it is normal
--   kept_as           what is kept of a polynomial that making it normal doesn't change
--   not_kept          a polynomial that it changes
--   kept_vars         of how many variables it is
--   normal_same, next_same     what is made normal, and what is had at n + 1
--   same_tells        whether what two polynomials stand for is the same
--   moved_past        where a composition's polynomial is past, the composition is
use Rattle.std.proofs.Common.{◌≡◌, ◌↔◌, inl, ℕ, ◌-◌, ◌<◌, ◌≤◌, Bool, true, false, List, [], ◌∷◌, ◌++◌, length, get_or, take, drop, take-append-drop, IsTrue, refl, sym, ap, ap₂, subst, subst₂, ◌∙◌, arith, true≢false}
use Rattle.std.specs.Prelude.{All}
use Rattle.algebra.specs.Each.{Each}
use Rattle.algebra.specs.Fraction.{Fraction, ℚ, rationals, fractions, fraction_size}
use Rattle.algebra.specs.Size.{IsPast}
use Rattle.algebra.proofs.Fractions.{ℚ_ring, ℚ_field, fractions_ring}
use Rattle.algebra.proofs.SizeLaws.{fractions_bounded, past_under}
use Rattle.polynomials.specs.Order.{grevlex}
use Rattle.polynomials.specs.Polynomial.{Arity}
use Rattle.polynomials.specs.Terms.{Terms, Same, compose}
use Rattle.polynomials.specs.Weight.{weight, IsPastComposition}
use Rattle.polynomials.proofs.Orders.{grevlex_order}
use Rattle.polynomials.proofs.Past.{composition_under}
use Rattle.polynomials.proofs.Same.{Same-refl, Same-sym, Same-trans}
use Rattle.polynomials.proofs.Weight.{composition-pos}
use Rattle.exponentials.specs.Keys.{key_of, top}
use Rattle.machines.specs.Collect.{collect}
use Rattle.machines.proofs.Collecting.{collect-is, collect-same}
use Rattle.solvable_maps.specs.Expo.{with_normal_keys, tail, with_key, next_images}
use Rattle.solvable_maps.specs.Iterations.{width, IsNormal}
use Rattle.solvable_maps.proofs.Retold.{same_normalized}
use Rattle.poly.specs.Operations.{AreEqual}
use Rattle.poly.specs.Seen.{terms_in, Is}
use Rattle.poly.specs.Standing.{IsInVariables as IsOverMany}
use Rattle.poly.proofs.Standing.{arity_over, polynomial_over}
use Rattle.loop_model.specs.FracPoly.{FracPoly}
use Rattle.expo.specs.declared.exponential.Expo.{Expo}
use Rattle.expo.specs.Operations.{normal_of, vars_of, at_next, IsOverBaseOf}
use Rattle.expo.specs.View.{base_of, IsExpo}
use Rattle.solvable_maps.proofs.Normal.{Stays, AllStay, kept_stay, stay_kept, exponents_stay, stay_normal}
use Rattle.cert_checker.specs.Passing.{IsExpoOf}

-- ---- normal polynomials
rejoined : (r : ℕ) (e : List ℕ) → 2 ≤ length e → with_key (top e) (key_of r e) (tail r e) ≡ e
rejoined r [] l = absurd (omega (arith, l))
rejoined r (a ∷ []) l = absurd (omega (arith, l))
rejoined r (a ∷ b ∷ e) l =
    ap (λ d. a ∷ b ∷ d) (ap (λ d. take r e ++ d) (take-append-drop r (drop r e))
    ∙ take-append-drop r e)

module _ (bs : List ℕ) (m : ℕ) where
  stays : (p : Terms Fraction) → Arity (width (length bs) m) p → IsNormal bs p
      → AllStay (length bs) p
  unfolding Each
  stays [] a h = tt
  stays (t ∷ p) a h =
      let l = a.0 in (
        subst (Stays (length bs)) (rejoined (length bs) t.0 (omega (arith, l)))
            (exponents_stay bs (top t.0) (key_of (length bs) t.0) (tail (length bs) t.0) h.0),
        stays p a.1 h.1,
      )

  pub own_normal : (p : Terms Fraction) → Arity (width (length bs) m) p → IsNormal bs p
      → with_normal_keys (length bs) p ≡ p
  own_normal p a h = stay_kept (length bs) p (stays p a h)

  pub normal_own : (p : Terms Fraction) → Arity (width (length bs) m) p
      → with_normal_keys (length bs) p ≡ p → IsNormal bs p
  normal_own p a h = stay_normal bs m p a (kept_stay (length bs) p h)

-- ---- what is kept
room_again : (r w : ℕ) → width r 0 ≤ w → width r (w - width r 0) ≡ w
room_again r w l = omega (arith, l)

module _ (bs : List ℕ) (p : FracPoly) (e : Expo) (room : width (length bs) 0 ≤ p.arity)
    (is : IsExpo bs (vars_of bs p.arity) (normal_of bs (terms_in p)) e) where
  wide_as : e.body.arity ≡ p.arity
  wide_as = e.arity
      ∙ subst (λ cs. width (length cs) e.vars ≡ width (length bs) e.vars) (sym is.over_base) refl
      ∙ ap (width (length bs)) is.over_vars ∙ room_again (length bs) p.arity room

  vars_are : p.arity ≡ width (length bs) e.vars
  vars_are = sym (ap (width (length bs)) is.over_vars ∙ room_again (length bs) p.arity room)

  over : Arity (width (length bs) e.vars) (terms_in p)
  over = subst (λ n. Arity n (terms_in p)) vars_are (arity_over p.arity p refl)

  pub kept_as : (b : Bool) → (IsTrue b ↔ AreEqual e.body p) → b ≡ true → IsExpoOf bs p e
  kept_as b tells t =
      let same : terms_in e.body ≡ terms_in p = (tells.0 t).1 in
      record {
        normal = normal_own bs e.vars (terms_in p) over
            (subst (λ q. with_normal_keys (length bs) q ≡ q) same
            (subst (λ cs. with_normal_keys (length cs) (terms_in e.body) ≡ terms_in e.body)
            is.over_base
            e.normal));
        base = is.over_base;
        vars = vars_are;
        terms = same;
      }

  pub not_kept : (b : Bool) → (IsTrue b ↔ AreEqual e.body p) → b ≡ false
      → IsNormal bs (terms_in p) → ⊥
  not_kept b tells f h =
      let itself : terms_in p ≡ collect rationals grevlex (terms_in p) =
      collect-is ℚ_field grevlex grevlex_order p.arity (terms_in p) (terms_in p)
      (arity_over p.arity p refl) p.polynomial (Same-refl ℚ (terms_in p)) in
      let same : terms_in e.body ≡ terms_in p = is.terms
      ∙ ap (collect rationals grevlex) (own_normal bs e.vars (terms_in p) over h) ∙ sym itself in
      true≢false (sym (tells.1 (wide_as, same)) ∙ f)

pub kept_vars : (bs : List ℕ) (m : ℕ) (ps : List FracPoly) (i : ℕ) (p : FracPoly) (e : Expo)
    → i < length ps → p ≡ get_or ps i p → All (IsOverMany (width (length bs) m)) ps
    → IsExpoOf bs p e
    → e.vars ≡ m
kept_vars bs m ps i p e l is over kept =
    let wide : p.arity ≡ width (length bs) m =
    subst (IsOverMany (width (length bs) m)) (sym is) (over i p l) in
    let vars = kept.vars in omega (arith, wide, vars)

-- ---- what the operations give
module _ (bs : List ℕ) where
  pub normal_same : (p : FracPoly) (x : Terms Fraction) (e : Expo)
      → width (length bs) 0 ≤ p.arity
      → IsExpo bs (vars_of bs p.arity) (normal_of bs (terms_in p)) e → Same ℚ (terms_in p) x
      → (e.body.arity ≡ p.arity) × Same ℚ (terms_in e.body) (with_normal_keys (length bs) x)
  normal_same p x e room is same = (
    wide_as bs p e room is,
    Same-trans ℚ (subst (λ q. Same ℚ q (with_normal_keys (length bs) (terms_in p))) (sym is.terms)
        (collect-same ℚ_field grevlex grevlex_order (with_normal_keys (length bs) (terms_in p))))
        (same_normalized ℚ_ring (length bs) (terms_in p) x same),
  )

  pub next_same : (m : ℕ) (e next : Expo) → base_of e ≡ bs → e.vars ≡ m
      → IsOverBaseOf e (at_next e) next
      → (next.body.arity ≡ width (length bs) m)
      × Same ℚ (terms_in next.body)
      (compose ℚ (width (length bs) m) (terms_in e.body) (next_images bs m))
  next_same m e next over vars is = (
    next.arity ∙ ap₂ (λ (cs : List ℕ) n. width (length cs) n) (is.over_base ∙ over)
        (is.over_vars ∙ vars),
    subst₂ (λ (cs : List ℕ) n. Same ℚ (terms_in next.body)
        (compose ℚ (width (length cs) n) (terms_in e.body) (next_images cs n))) over vars
        (subst (λ q. Same ℚ q (at_next e)) (sym is.terms)
        (collect-same ℚ_field grevlex grevlex_order (at_next e))),
  )

pub same_tells : {p q : Terms Fraction} (x y : Terms Fraction) (b : Bool) → (IsTrue b ↔ Same ℚ p q)
    → Same ℚ p x → Same ℚ q y → IsTrue b ↔ Same ℚ x y
same_tells x y b tells s t = (
  λ yes. Same-trans ℚ (Same-sym ℚ s) (Same-trans ℚ (tells.0 yes) t),
  λ h. tells.1 (Same-trans ℚ s (Same-trans ℚ h (Same-sym ℚ t))),
)

pub moved_past : (w : ℕ) (g : Terms Fraction) (back : List (Terms Fraction)) (moved : FracPoly)
    → Is moved.order w (compose ℚ w g back) moved → IsPast (weight fraction_size (terms_in moved))
    → IsPastComposition fractions g back
moved_past w g back moved is p =
    inl (past_under _ _ (composition-pos ℚ_ring fraction_size fractions_bounded w g back)
    (composition_under fractions fractions_ring fractions_bounded grevlex grevlex_order w
    (terms_in moved) g back (polynomial_over w moved is.arity) is.same) p)
