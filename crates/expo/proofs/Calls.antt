-- What the operations' calls need and give, of terms as the code has them.
--   long_terms                                     those of a polynomial have exponents for n, s, the u and the v
--   normal_arity, normal_made                      made normal: as many exponents, and the polynomial of these terms
--   turned_arity, turned_made, turned_distinct     turned
--   shifted_made, sum_made                         at n + 1; the sum
--   zero_values                                    the values at n = 0
--   AreNext e xs f a, zeros_count                  the images that the code makes: how many, and what those at n + 1 are over and like
use Rattle.std.proofs.Common.{◌≡◌, ◌<◌, ◌≤◌, ℕ, ◌-◌, List, [], ◌∷◌, map, length, sym, ap, ap₂, subst, ◌∙◌, arith}
use Rattle.std.specs.List.{All}
use Rattle.std.proofs.lemmas.List.{length-map}
use Rattle.std.proofs.lemmas.List.Elements.{All-head, All-tail, All-weaker}
use Rattle.algebra.specs.Each.{Each}
use Rattle.algebra.proofs.Each.{each-append}
use Rattle.algebra.specs.Fraction.{Fraction, ℚ}
use Rattle.algebra.proofs.Fractions.{ℚ_ring}
use Rattle.polynomials.specs.Order.{grevlex}
use Rattle.polynomials.specs.Polynomial.{Arity, AllArity, IsPolynomial}
use Rattle.polynomials.specs.Terms.{Terms, Same, compose, value_at}
use Rattle.polynomials.proofs.Arity.{arity-compose}
use Rattle.polynomials.proofs.Orders.{grevlex_order}
use Rattle.polynomials.proofs.Same.{Same-trans}
use Rattle.polynomials.proofs.ValueAt.{value_at_same}
use Rattle.frac128.specs.declared.fraction.Frac.{Frac}
use Rattle.frac128.specs.FracMeaning.{fraction_of}
use Rattle.poly.specs.declared.Term.{Term}
use Rattle.poly.specs.Operations.{AreDistinct}
use Rattle.poly.specs.Seen.{terms_in}
use Rattle.poly.specs.View.{terms_of}
use Rattle.poly.proofs.Steps.{all_arity}
use Rattle.solvable_maps.specs.Expo.{with_normal_keys, next_images, zero_images}
use Rattle.solvable_maps.specs.Iterations.{width}
use Rattle.solvable_maps.proofs.Operations.{zero-value}
use Rattle.expo.specs.declared.exponential.Expo.{Expo}
use Rattle.expo.specs.Images.{LikeIn}
use Rattle.expo.specs.Operations.{sum_of, inverse_form_of, at_next, at_zero}
use Rattle.expo.specs.View.{base_of, value_of}
use Rattle.expo.proofs.Distinct.{pairs_of, differ_falls, differ_turned}
use Rattle.expo.proofs.ImageLists.{like_count, zero_count}
use Rattle.solvable_maps.proofs.Lengths.{arity-normalized, arity-turned_back}
use Rattle.solvable_maps.proofs.Normal.{Stays, AllStay, kept_stay, normal_stay, turned_stay}
use Rattle.expo.proofs.Results.{IsNormalList, normal_list, width_back, images_same, expo_arity, other_arity}
use Rattle.solvable_maps.proofs.Shifted.{compose_stay, arity-next}

module _ (bs : List ℕ) (w : ℕ) (front : width (length bs) 0 ≤ w) where
  abbrev m : ℕ
  m = w - width (length bs) 0

  back : w ≡ width (length bs) m
  back = width_back (length bs) w front

  pub long_terms : (ts : List (Term Frac)) → Arity w (terms_of fraction_of ts)
      → All (λ t. width (length bs) 0 ≤ length t.mono) ts
  long_terms ts a = All-weaker (λ (t : Term Frac). length t.mono ≡ w) (λ t. width (length bs) 0
      ≤ length t.mono) (λ t e. omega (arith, e, front)) ts (all_arity fraction_of w ts a)

  module _ (p made : Terms Fraction) (a : Arity w p) (is : made ≡ with_normal_keys (length bs)
      p) where
    own : Arity (width (length bs) m) p
    own = subst (λ n. Arity n p) back a

    pub normal_arity : Arity w made
    normal_arity = subst (Arity w) (sym is) (subst (λ n. Arity n (with_normal_keys (length bs) p))
        (sym back) (arity-normalized (length bs) m p own))

    pub normal_made : (q : Terms Fraction) (k : ℕ) → k ≡ w → IsPolynomial ℚ grevlex k q
        → Same ℚ q made → IsNormalList (length bs) (with_normal_keys (length bs) p) q
    normal_made q k e h s = normal_list (length bs) (width (length bs) m) q
        (with_normal_keys (length bs) p) (arity-normalized (length bs) m p own)
        (normal_stay bs m p own)
        (subst (λ n. IsPolynomial ℚ grevlex n q) (e ∙ back) h) (subst (Same ℚ q) is s)

module _ (e : Expo) where
  abbrev r : ℕ
  r = length (base_of e)

  abbrev w : ℕ
  w = width r e.vars

  pub wide_front : width r 0 ≤ e.body.arity
  wide_front = let h : e.body.arity ≡ width r e.vars = e.arity in omega arith

  own_stay : AllStay r (terms_in e.body)
  own_stay = kept_stay r (terms_in e.body) e.normal

  module _ (made : Terms Fraction) (is : made ≡ inverse_form_of e) where
    pub turned_arity : Arity e.body.arity made
    turned_arity = subst (Arity e.body.arity) (sym is) (subst (λ n. Arity n (inverse_form_of e))
        (sym e.arity) (arity-turned_back r e.vars (terms_in e.body) (expo_arity e)))

    pub turned_made : (q : Terms Fraction) (k : ℕ) → k ≡ e.body.arity → IsPolynomial ℚ grevlex k q
        → Same ℚ q made → IsNormalList r (inverse_form_of e) q
    turned_made q k f h s =
        normal_list r w q (inverse_form_of e) (arity-turned_back r e.vars (terms_in e.body)
        (expo_arity e))
        (turned_stay (base_of e) e.vars (terms_in e.body) (expo_arity e) own_stay)
        (subst (λ n. IsPolynomial ℚ grevlex n q) (f ∙ e.arity) h) (subst (Same ℚ q) is s)

  pub turned_distinct : (ts : List (Term Frac)) → terms_of fraction_of ts ≡ inverse_form_of e
      → AreDistinct ts
  turned_distinct ts is = pairs_of ts (inverse_form_of e) is (differ_turned (base_of e) e.vars
      (terms_in e.body) (expo_arity e) (differ_falls grevlex grevlex_order (terms_in e.body)
      e.body.polynomial.falls))

  pub shifted_made : (ps : List (Terms Fraction)) → AllArity w ps
      → LikeIn (next_images (base_of e) e.vars) ps
      → (q : Terms Fraction) (n k : ℕ) → n ≡ w → k ≡ n → IsPolynomial ℚ grevlex k q
      → Same ℚ q (compose ℚ n (terms_in e.body) ps) → IsNormalList r (at_next e) q
  shifted_made ps a l q n k f g h s =
      normal_list r w q (at_next e) (arity-compose w ℚ (terms_in e.body)
      (next_images (base_of e) e.vars) (arity-next (base_of e) e.vars))
      (compose_stay (base_of e) e.vars r (terms_in e.body) (expo_arity e) own_stay)
      (subst (λ n. IsPolynomial ℚ grevlex n q) (g ∙ f) h)
      (Same-trans ℚ (subst (λ n. Same ℚ q (compose ℚ n (terms_in e.body) ps)) f s)
      (images_same (base_of e) e.vars (terms_in e.body) ps (expo_arity e) a l))

  pub sum_made : (f : Expo) → base_of e ≡ base_of f → e.vars ≡ f.vars → (q : Terms Fraction) (k : ℕ)
      → k ≡ e.body.arity → IsPolynomial ℚ grevlex k q → Same ℚ q (sum_of e f)
      → IsNormalList r (sum_of e f) q
  sum_made f b v q k g h s =
      normal_list r w q (sum_of e f) (each-append (λ t. length t.0 ≡ w) (terms_in e.body)
      (terms_in f.body) (expo_arity e) (other_arity e f b v))
      (each-append (λ t. Stays r t.0) (terms_in e.body) (terms_in f.body) own_stay
      (kept_stay r (terms_in f.body) (subst (λ l. with_normal_keys (length l) (terms_in f.body)
      ≡ terms_in f.body) (sym b) f.normal)))
      (subst (λ n. IsPolynomial ℚ grevlex n q) (g ∙ e.arity) h) s

  pub zero_values : (q : Terms Fraction) → Same ℚ q (at_zero e) → (s : List Fraction)
      → length s ≡ e.vars → value_at ℚ q s ≡ value_of e 0 s
  zero_values q h s l = value_at_same ℚ_ring q (at_zero e) s h
      ∙ zero-value (base_of e) e.coprime.0 e.vars (terms_in e.body) s l

-- ---- images, as the code has them: f gives the terms of each, and a its number of variables
each_arity : {X : Type 0} (f : X → Terms Fraction) (a : X → ℕ)
    → ((x : X) → IsPolynomial ℚ grevlex (a x) (f x)) → (m : ℕ) (xs : List X) → All (λ x. a x ≡ m) xs
    → AllArity m (map f xs)
unfolding Each
each_arity f a poly m [] h = tt
each_arity f a poly m (x ∷ xs) h = (
  subst (λ n. Arity n (f x)) (All-head (λ x. a x ≡ m) x xs h)
      (poly x).arity,
  each_arity f a poly m xs (All-tail (λ x. a x ≡ m) x xs h),
)

pub record AreNext {X : Type 0} (e : Expo) (xs : List X) (f : X → Terms Fraction) (a : X → ℕ) : Type
    0 where
  pub count : length xs ≡ e.body.arity
  pub some : 0 < length xs
  pub over : All (λ x. a x ≡ width (length (base_of e)) e.vars) xs
  pub arities : AllArity (width (length (base_of e)) e.vars) (map f xs)
  pub like : LikeIn (next_images (base_of e) e.vars) (map f xs)

pub are_next : {X : Type 0} (e : Expo) (xs : List X) (f : X → Terms Fraction) (a : X → ℕ)
    → ((x : X) → IsPolynomial ℚ grevlex (a x) (f x)) → (bs : List ℕ) (v : ℕ) → bs ≡ base_of e
    → v ≡ e.vars
    → All (λ x. a x ≡ width (length bs) v) xs → LikeIn (next_images bs v) (map f xs)
    → AreNext e xs f a
are_next e xs f a poly bs v over_base over_vars h l =
    let over = subst (λ n. All (λ x. a x ≡ n) xs) (ap₂ (λ b n. width (length b) n) over_base
    over_vars) h in
    let like = subst (λ b. LikeIn (next_images b e.vars) (map f xs)) over_base
    (subst (λ n. LikeIn (next_images bs n) (map f xs)) over_vars l) in
    let count = sym (length-map xs f) ∙ like_count (base_of e) e.vars (map f xs) like
    ∙ sym e.arity in
    let own = e.arity in
    record {
      count = count;
      some = omega (arith, count, own);
      over = over;
      arities = each_arity f a poly (width (length (base_of e)) e.vars) xs over;
      like = like;
    }

pub zeros_count : {X : Type 0} (e : Expo) (xs : List X) (f : X → Terms Fraction)
    → map f xs ≡ zero_images (length (base_of e)) e.vars → length xs ≡ e.body.arity
zeros_count e xs f is = sym (length-map xs f) ∙ ap length is
    ∙ zero_count (length (base_of e)) e.vars ∙ sym e.arity
