-- A closed form that is normal over an ascending coprime base passes its identities (specs/FormIdentities).
--   normal_stays           the exponents of a normal polynomial are their own normal ones
--   same_normal            normal polynomials with the same values at each n and each state are the same
--   closed_form_passes
use Rattle.std.proofs.Common.{◌≡◌, ℕ, zero, suc, pos, List, [], ◌∷◌, ◌++◌, map, take, drop, replicate, length, refl, sym, ap, ap₂, subst, ◌∙◌, arith, take-append-drop}
use Rattle.std.proofs.lemmas.List.{length-replicate}
use Rattle.algebra.specs.Each.{Each}
use Rattle.algebra.proofs.Each.{each-append}
use Rattle.algebra.proofs.Basics.{same_head, same_tail}
use Rattle.algebra.specs.Fraction.{Fraction, ℚ, whole, rationals}
use Rattle.algebra.proofs.Fractions.{ℚ_ring, ℚ_field}
use Rattle.polynomials.specs.Order.{grevlex}
use Rattle.polynomials.specs.Polynomial.{Arity, AllArity}
use Rattle.polynomials.specs.Terms.{Terms, Same, AllSame, constant, variables, compose}
use Rattle.polynomials.proofs.Arity.{arity-compose, arity-constant, arity-variables}
use Rattle.polynomials.proofs.ByValues.{same_by_values}
use Rattle.polynomials.proofs.Orders.{grevlex_order}
use Rattle.polynomials.proofs.Same.{Same-sym, Same-trans}
use Rattle.polynomials.proofs.ValueAt.{value_at_same, value_at-compose, value_at-variables}
use Rattle.exponentials.specs.Base.{Coprime, Ascending}
use Rattle.exponentials.specs.Keys.{IsNormalKey, key_of}
use Rattle.solvable_maps.specs.Iterations as iterations
use Rattle.solvable_maps.specs.Iterations.{point, width, IsNormal}
use Rattle.solvable_maps.specs.Expo.{with_key, with_normal_keys, next_images, zero_images}
use Rattle.solvable_maps.proofs.Lengths.{arity-normalized}
use Rattle.solvable_maps.proofs.Numbers.{one_form}
use Rattle.solvable_maps.proofs.Operations.{zero-value, next-value, normal-value}
use Rattle.machines.specs.Collect.{collect}
use Rattle.machines.proofs.Collecting.{collect-polynomial, collect-same}
use Rattle.machines.proofs.Padding.{at}
use Rattle.rounds.specs.Form.{Form}
use Rattle.solvable_maps.proofs.Normal.{AllStay, Stays, exponents_stay, stay_normal, normal_stay, collect_each}
use Rattle.solvable_maps.proofs.Shifted.{compose_stay, arity-next}
use Rattle.corollaries.specs.FormIdentities.{IsRightForm, IsRightAtZero, GoesOn}

-- ---- exponents of normal polynomials
put_together : (r : ℕ) (a b : ℕ) (l : List ℕ) → with_key a (b, take r l, take r (drop r l))
    (drop r (drop r l)) ≡ a ∷ b ∷ l
put_together r a b l = ap (λ z. a ∷ b ∷ z) (ap (λ z. take r l ++ z) (take-append-drop r (drop r l))
    ∙ take-append-drop r l)

module _ (bs : List ℕ) (m : ℕ) where
  exponents_stay_at : (e : List ℕ) → length e ≡ width (length bs) m
      → IsNormalKey bs (key_of (length bs) e) → Stays (length bs) e
  exponents_stay_at [] l h = absurd (omega (arith, l))
  exponents_stay_at (a ∷ []) l h = absurd (omega (arith, l))
  exponents_stay_at (a ∷ b ∷ e) l h = subst (Stays (length bs)) (put_together (length bs) a b e)
      (exponents_stay bs a (b, take (length bs) e, take (length bs) (drop (length bs) e))
      (drop (length bs) (drop (length bs) e)) h)

  pub normal_stays : (p : Terms Fraction) → Arity (width (length bs) m) p → IsNormal bs p
      → AllStay (length bs) p
  unfolding Each
  normal_stays [] a h = tt
  normal_stays (t ∷ p) a h = (exponents_stay_at t.0 a.0 h.0, normal_stays p a.1 h.1)

  module _ (c : Coprime bs) where
    collected : Terms Fraction → Terms Fraction
    collected p = collect rationals grevlex p

    collected_normal : (p : Terms Fraction) → Arity (width (length bs) m) p → AllStay (length bs) p
        → IsNormal bs (collected p)
    unfolding collected
    collected_normal p a h = stay_normal bs m (collect rationals grevlex p)
        (collect-polynomial ℚ_field grevlex grevlex_order (width (length bs) m) p a).arity
        (collect_each grevlex (Stays (length bs)) p h)

    pub same_normal : (p q : Terms Fraction) → Arity (width (length bs) m) p
        → Arity (width (length bs) m) q → AllStay (length bs) p → AllStay (length bs) q
        → ((n : ℕ) (s : List Fraction) → length s ≡ m → at p (point bs n s) ≡ at q (point bs n s))
        → Same ℚ p q
    unfolding collected
    same_normal p q a b h k v =
        let one : collected p ≡ collected q =
        one_form bs c grevlex grevlex_order m (collected p) (collected q)
        (collect-polynomial ℚ_field grevlex grevlex_order (width (length bs) m) p a)
        (collect-polynomial ℚ_field grevlex grevlex_order (width (length bs) m) q b)
        (collected_normal p a h) (collected_normal q b k)
        (λ n s l. value_at_same ℚ_ring (collected p) p (point bs n s) (collect-same ℚ_field grevlex
        grevlex_order p) ∙ v n s l
        ∙ sym (value_at_same ℚ_ring (collected q) q (point bs n s)
        (collect-same ℚ_field grevlex grevlex_order q))) in
        Same-trans ℚ (Same-sym ℚ (collect-same ℚ_field grevlex grevlex_order p))
        (subst (λ x. Same ℚ x q) (sym one) (collect-same ℚ_field grevlex grevlex_order q))

    pub all_same_normal : (ps qs : List (Terms Fraction)) → AllArity (width (length bs) m) ps
        → AllArity (width (length bs) m) qs → Each (AllStay (length bs)) ps
        → Each (AllStay (length bs)) qs
        → ((n : ℕ) (s : List Fraction) → length s ≡ m → map (λ p. at p (point bs n s)) ps
        ≡ map (λ q. at q (point bs n s)) qs) → AllSame ℚ ps qs
    unfolding Each AllSame
    all_same_normal [] [] a b h k v = tt
    all_same_normal [] (q ∷ qs) a b h k v =
        absurd (let e = ap length (v 0 (replicate m ℚ.zero) (length-replicate m ℚ.zero)) in
        omega (arith, e))
    all_same_normal (p ∷ ps) [] a b h k v =
        absurd (let e = ap length (v 0 (replicate m ℚ.zero) (length-replicate m ℚ.zero)) in
        omega (arith, e))
    all_same_normal (p ∷ ps) (q ∷ qs) a b h k v = (
      same_normal p q a.0 b.0 h.0 k.0 (λ n s l. same_head (v n s l)),
      all_same_normal ps qs a.1 b.1 h.1 k.1 (λ n s l. same_tail (v n s l)),
    )

-- ---- polynomials in the variables alone
module _ (m : ℕ) where
  pub all_same_values : (ps qs : List (Terms Fraction)) → AllArity m ps → AllArity m qs
      → ((s : List Fraction) → length s ≡ m → map (λ p. at p s) ps ≡ map (λ q. at q s) qs)
      → AllSame ℚ ps qs
  unfolding Each AllSame
  all_same_values [] [] a b v = tt
  all_same_values [] (q ∷ qs) a b v =
      absurd (let e = ap length (v (replicate m ℚ.zero) (length-replicate m ℚ.zero)) in
      omega (arith, e))
  all_same_values (p ∷ ps) [] a b v =
      absurd (let e = ap length (v (replicate m ℚ.zero) (length-replicate m ℚ.zero)) in
      omega (arith, e))
  all_same_values (p ∷ ps) (q ∷ qs) a b v = (
    same_by_values m p q a.0 b.0 (λ s l. same_head (v s l)),
    all_same_values ps qs a.1 b.1
        (λ s l. same_tail (v s l)),
  )

-- ---- the closed form of a branch
module _ (images : List (Terms Fraction)) (m : ℕ) (size : length images ≡ m) (f : Form)
    (coprime : Coprime f.base) (ascending : Ascending f.base)
    (closed : iterations.IsClosedForm f.base images f.polys) (normal : Each (IsNormal f.base)
    f.polys) where
  abbrev r : ℕ
  r = length f.base

  abbrev w : ℕ
  w = width (length f.base) m

  polys_arity : AllArity w f.polys
  polys_arity = subst (λ n. AllArity (width r n) f.polys) size closed.arity

  values : (n : ℕ) (s : List Fraction) → length s ≡ m → map (λ p. at p (point f.base n s)) f.polys
      ≡ iterations.iterations images n s
  values n s l = closed.values n s (l ∙ sym size) (omega arith)

  -- at 0
  ones : (n : ℕ) → AllArity m (replicate n (constant m (whole (pos 1))))
  unfolding Each
  ones zero = tt
  ones (suc n) = (arity-constant m (whole (pos 1)), ones n)

  zero_arity : AllArity m (zero_images r m)
  unfolding Each
  zero_arity = (
    tt,
    (
      arity-constant m (whole (pos 1)),
      each-append (Arity m) (replicate r (constant m (whole (pos 1)))) _ (ones r)
          (each-append (Arity m) (replicate r (constant m (whole (pos 1)))) (variables ℚ m) (ones r)
          (arity-variables m ℚ)),
    ),
  )

  composed_arity : (k : ℕ) (us ps : List (Terms Fraction)) → AllArity k us
      → AllArity k (map (λ p. compose ℚ k p us) ps)
  unfolding Each
  composed_arity k us [] a = tt
  composed_arity k us (p ∷ ps) a = (arity-compose k ℚ p us a, composed_arity k us ps a)

  zero_values : (ps : List (Terms Fraction)) (s : List Fraction) → length s ≡ m
      → map (λ q. at q s) (map (λ p. compose ℚ m p (zero_images r m)) ps)
      ≡ map (λ p. at p (point f.base 0 s)) ps
  zero_values [] s l = refl
  zero_values (p ∷ ps) s l = ap₂ ◌∷◌ (zero-value f.base coprime m p s l) (zero_values ps s l)

  first : IsRightAtZero images m f
  first = all_same_values m _ (variables ℚ m) (composed_arity m (zero_images r m) f.polys
      zero_arity) (arity-variables m ℚ)
      (λ s l. zero_values f.polys s l ∙ values 0 s l ∙ sym (value_at-variables ℚ_ring m s l))

  -- at n + 1
  polys_stay : (ps : List (Terms Fraction)) → AllArity w ps → Each (IsNormal f.base) ps
      → Each (AllStay r) (map (λ p. compose ℚ w p (next_images f.base m)) ps)
  unfolding Each
  polys_stay [] a h = tt
  polys_stay (p ∷ ps) a h = (
    compose_stay f.base m r p a.0 (normal_stays f.base m p a.0 h.0),
    polys_stay ps a.1 h.1,
  )

  normals_stay : (qs us : List (Terms Fraction)) → AllArity w us
      → Each (AllStay r) (map (λ q. with_normal_keys r (compose ℚ w q us)) qs)
  unfolding Each
  normals_stay [] us a = tt
  normals_stay (q ∷ qs) us a = (
    normal_stay f.base m (compose ℚ w q us) (arity-compose w ℚ q us a),
    normals_stay qs us a,
  )

  normals_arity : (qs us : List (Terms Fraction)) → AllArity w us
      → AllArity w (map (λ q. with_normal_keys r (compose ℚ w q us)) qs)
  unfolding Each
  normals_arity [] us a = tt
  normals_arity (q ∷ qs) us a = (
    arity-normalized r m (compose ℚ w q us) (arity-compose w ℚ q us a),
    normals_arity qs us a,
  )

  map_values : (qs us : List (Terms Fraction)) → AllArity w us → (n : ℕ) (s : List Fraction)
      → map (λ q. at q (point f.base n s)) (map (λ q. with_normal_keys r (compose ℚ w q us)) qs)
      ≡ map (λ q. at q (map (λ u. at u (point f.base n s)) us)) qs
  map_values [] us a n s = refl
  map_values (q ∷ qs) us a n s =
      ap₂ ◌∷◌ (normal-value f.base coprime m (compose ℚ w q us) (arity-compose w ℚ q us a) n s
      ∙ value_at-compose ℚ_ring w q us (point f.base n s)) (map_values qs us a n s)

  next_values : (ps : List (Terms Fraction)) (n : ℕ) (s : List Fraction) → length s ≡ m
      → map (λ q. at q (point f.base n s)) (map (λ p. compose ℚ w p (next_images f.base m)) ps)
      ≡ map (λ p. at p (point f.base (suc n) s)) ps
  next_values [] n s l = refl
  next_values (p ∷ ps) n s l = ap₂ ◌∷◌ (next-value f.base coprime m p n s l) (next_values ps n s l)

  next : GoesOn images m f
  next = all_same_normal f.base m coprime _ _ (normals_arity images f.polys polys_arity)
      (composed_arity w (next_images f.base m) f.polys (arity-next f.base m))
      (normals_stay images f.polys polys_arity) (polys_stay f.polys polys_arity normal)
      (λ n s l. map_values images f.polys polys_arity n s
      ∙ ap (λ z. map (λ q. at q z) images) (values n s l) ∙ sym (values (suc n) s l)
      ∙ sym (next_values f.polys n s l))

  pub closed_form_passes : IsRightForm images m f
  closed_form_passes = record {
    ascending = ascending;
    coprime = coprime;
    normal = normal;
    at_zero = first;
    goes_on = next;
  }
