-- Forms that pass, polynomial by polynomial.
--   passes_all, passes_at      a form passes exactly where each of its polynomials does
--   past_at                    where one of them is past
--   start_tells, next_tells, next_past     what is told of one polynomial, in the words of the form
use Rattle.std.proofs.Common.{◌≡◌, ◌⊎◌, ◌↔◌, inl, inr, ℕ, zero, suc, ◌<◌, Bool, IsTrue, List, [], ◌∷◌, map, get_or, length, sym, ap, subst, subst₂, ◌∙◌, arith}
use Rattle.std.specs.List.{Any}
use Rattle.std.proofs.lemmas.List.{get_or-map, length-map, get_or_default}
use Rattle.algebra.specs.Each.{Each}
use Rattle.algebra.specs.Arithmetic.{Arithmetic}
use Rattle.algebra.specs.Fraction.{Fraction, ℚ, fractions, fraction_size}
use Rattle.algebra.specs.Size.{IsPast}
use Rattle.polynomials.specs.Terms.{Terms, Same, AllSame, variables, compose}
use Rattle.polynomials.specs.Weight.{weight, IsPastComposition}
use Rattle.polynomials.proofs.Same.{AllSame-at}
use Rattle.loops.proofs.Maps.{length-variables}
use Rattle.solvable_maps.specs.Iterations.{width, IsNormal}
use Rattle.solvable_maps.specs.Expo.{with_normal_keys, next_images, zero_images}
use Rattle.corollaries.specs.FormIdentities.{IsRightForm}
use Rattle.expo.specs.Bases.{IsCoprimeBase}
use Rattle.cert_checker.specs.Passing.{PassesAt, IsPastAt, IsPastForm}

each_places : {X : Type 0} (P : X → Type 0) (xs : List X) (d : X)
    → ((i : ℕ) → i < length xs → P (get_or xs i d)) → Each P xs
unfolding Each
each_places P [] d h = tt
each_places P (x ∷ xs) d h = (
  h 0 (omega arith),
  each_places P xs d (λ i l. h (suc i) (omega (arith, l))),
)

each_here : {X : Type 0} (P : X → Type 0) (xs : List X) (d : X) → Each P xs → (i : ℕ)
    → i < length xs → P (get_or xs i d)
unfolding Each
each_here P [] d h i l = absurd (omega (arith, l))
each_here P (x ∷ xs) d h zero l = h.0
each_here P (x ∷ xs) d h (suc i) l = each_here P xs d h.1 i (omega (arith, l))

same_places : {A : Type 0} (N : Arithmetic A) (ps qs : List (Terms A)) → length ps ≡ length qs
    → ((i : ℕ) → i < length ps → Same N (get_or ps i []) (get_or qs i [])) → AllSame N ps qs
unfolding AllSame
same_places N [] [] l h = tt
same_places N [] (q ∷ qs) l h = absurd (omega (arith, l))
same_places N (p ∷ ps) [] l h = absurd (omega (arith, l))
same_places N (p ∷ ps) (q ∷ qs) l h = (
  h 0 (omega arith),
  same_places N ps qs (omega (arith, l)) (λ i k. h (suc i) (omega (arith, k))),
)

module _ (bs : List ℕ) (images ps : List (Terms Fraction)) (count : length ps ≡ length images) where
  abbrev m : ℕ
  m = length images

  abbrev r : ℕ
  r = length bs

  abbrev w : ℕ
  w = width (length bs) (length images)

  pub passes_all : IsCoprimeBase bs → ((i : ℕ) → i < length ps → PassesAt bs images ps i)
      → IsRightForm images (length images) (record { base = bs; polys = ps; since = 0 })
  passes_all base h = record {
    ascending = base.1;
    coprime = base.0;
    normal = each_places (IsNormal bs) ps [] (λ i l. (h i l).normal);
    at_zero = same_places ℚ _ (variables ℚ m)
        (length-map ps (λ p. compose ℚ m p (zero_images r m)) ∙ count ∙ sym (length-variables m))
        (λ i l. let k : i < length ps = (let e = length-map ps (λ p. compose ℚ m p (zero_images r
        m)) in omega (arith, l, e)) in
        subst (λ p. Same ℚ p (get_or (variables ℚ m) i []))
        (sym (get_or-map (λ p. compose ℚ m p (zero_images r m)) ps i [] [] k)) (h i k).at_zero);
    goes_on = same_places ℚ _ _
        (length-map images (λ q. with_normal_keys r (compose ℚ w q ps)) ∙ sym count
        ∙ sym (length-map ps (λ p. compose ℚ w p (next_images bs m))))
        (λ i l. let k : i < length images = (let e = length-map images (λ q. with_normal_keys r
        (compose ℚ w q ps)) in omega (arith, l, e)) in
        let n : i < length ps = omega (arith, k, count) in
        subst₂ (Same ℚ)
        (sym (get_or-map (λ q. with_normal_keys r (compose ℚ w q ps)) images i [] [] k))
        (sym (get_or-map (λ p. compose ℚ w p (next_images bs m)) ps i [] [] n)) (h i n).goes_on);
  }

  pub passes_at : IsRightForm images (length images) (record { base = bs; polys = ps; since = 0 })
      → (i : ℕ) → i < length ps → PassesAt bs images ps i
  passes_at h i l =
      let k : i < length images = omega (arith, l, count) in
      record {
        normal = each_here (IsNormal bs) ps [] h.normal i l;
        at_zero = subst (λ p. Same ℚ p (get_or (variables ℚ m) i []))
            (get_or-map (λ p. compose ℚ m p (zero_images r m)) ps i [] [] l)
            (AllSame-at ℚ _ (variables ℚ m) h.at_zero i);
        goes_on = subst₂ (Same ℚ)
            (get_or-map (λ q. with_normal_keys r (compose ℚ w q ps)) images i [] [] k)
            (get_or-map (λ p. compose ℚ w p (next_images bs m)) ps i [] [] l)
            (AllSame-at ℚ _ _ h.goes_on i);
      }

  here : {X : Type 0} (P : X → Type 0) (xs : List X) (i : ℕ) (d : X) → i < length xs
      → P (get_or xs i d) → Any P xs
  here P xs i d l h = (i, get_or xs i d, l, get_or_default xs i (get_or xs i d) d l, h)

  pub past_at : (i : ℕ) → i < length ps → IsPastAt bs images ps i
      → IsPastForm images (length images) (record { base = bs; polys = ps; since = 0 })
  past_at i l (inl p) = inl (here (λ x. IsPast (weight fraction_size x)) ps i [] l p)
  past_at i l (inr (inl p)) =
      inr (inl (here (λ x. IsPastComposition fractions x (zero_images r m)) ps i [] l p))
  past_at i l (inr (inr (inl p))) =
      inr (inr (inl (here (λ x. IsPastComposition fractions x ps) images i []
      (omega (arith, l, count)) p)))
  past_at i l (inr (inr (inr p))) =
      inr (inr (inr (here (λ x. IsPastComposition fractions x (next_images bs m)) ps i [] l p)))

-- ---- one polynomial
module _ (bs : List ℕ) (m : ℕ) where
  pub start_tells : {v : ℕ} {cs : List ℕ} {body : Terms Fraction} (q : Terms Fraction) (i : ℕ)
      {b : Bool}
      → v ≡ m → cs ≡ bs → body ≡ q
      → (IsTrue b ↔ Same ℚ (compose ℚ v body (zero_images (length cs) v))
      (get_or (variables ℚ v) i []))
      → (IsTrue b ↔ Same ℚ (compose ℚ m q (zero_images (length bs) m))
      (get_or (variables ℚ m) i []))
  start_tells {v = v} q i {b = b} e f g tells =
      subst (λ k. IsTrue b ↔ Same ℚ (compose ℚ k q (zero_images (length bs) k))
      (get_or (variables ℚ k) i [])) e
      (subst₂ (λ (ds : List ℕ) p. IsTrue b ↔ Same ℚ (compose ℚ v p (zero_images (length ds) v))
      (get_or (variables ℚ v) i [])) f g tells)

  pub next_tells : {k : ℕ} {cs : List ℕ} (ps : List (Terms Fraction)) {image : Terms Fraction}
      (x : Terms Fraction) {body : Terms Fraction} (q : Terms Fraction) {b : Bool}
      → k ≡ m → cs ≡ bs → image ≡ x → body ≡ q
      → (IsTrue b ↔ Same ℚ (with_normal_keys (length cs) (compose ℚ (width (length cs) k) image ps))
      (compose ℚ (width (length cs) k) body (next_images cs k)))
      → (IsTrue b ↔ Same ℚ (with_normal_keys (length bs) (compose ℚ (width (length bs) m) x ps))
      (compose ℚ (width (length bs) m) q (next_images bs m)))
  next_tells {k = k} ps {image = image} x {body = body} q {b = b} e d f g tells =
      subst (λ n. IsTrue b
      ↔ Same ℚ (with_normal_keys (length bs) (compose ℚ (width (length bs) n) x ps))
      (compose ℚ (width (length bs) n) q (next_images bs n))) e
      (subst₂ (λ y p. IsTrue b ↔ Same ℚ
      (with_normal_keys (length bs) (compose ℚ (width (length bs) k) y ps))
      (compose ℚ (width (length bs) k) p (next_images bs k))) f g
      (subst (λ (ds : List ℕ). IsTrue b
      ↔ Same ℚ (with_normal_keys (length ds) (compose ℚ (width (length ds) k) image ps))
      (compose ℚ (width (length ds) k) body (next_images ds k))) d tells))

  pub next_past : (k : ℕ) {cs : List ℕ} (images ps : List (Terms Fraction)) (i : ℕ)
      {image : Terms Fraction} (body : Terms Fraction)
      → k ≡ m → cs ≡ bs → m ≡ length images → image ≡ get_or images i [] → body ≡ get_or ps i []
      → (IsPastComposition fractions image ps ⊎ IsPastComposition fractions body (next_images cs k))
      → IsPastAt bs images ps i
  next_past k images ps i body e h d f g (inl p) =
      inr (inr (inl (subst (λ x. IsPastComposition fractions x ps) f p)))
  next_past k images ps i body e h d f g (inr p) =
      inr (inr (inr (subst₂ (λ x n. IsPastComposition fractions x (next_images bs n)) g (e ∙ d)
      (subst (λ (ds : List ℕ). IsPastComposition fractions body (next_images ds k)) h p))))

pub seen_at : {X Y : Type 0} (f : X → List Y) (xs : List X) (i : ℕ) {x : X} → i < length xs
    → x ≡ get_or xs i x → f x ≡ get_or (map f xs) i []
seen_at f xs i {x = x} l is = ap f is ∙ sym (get_or-map f xs i x [] l)
