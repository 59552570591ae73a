-- Lesser monomials, as the code finds them.
--   lesser_found, lesser_none     by the first exponent that isn't 0
--   rest_found, rest_passed       the search for a rest, from the latest on
use Rattle.std.proofs.Common.{◌≡◌, ℕ, zero, suc, ◌+◌, ◌-◌, ◌<◌, ◌≤◌, Bool, true, false, cond, List, [], ◌∷◌, ◌++◌, take, set, length, get_or, Option, Some, None, refl, sym, ap, subst, ◌∙◌, arith}
use Rattle.std.proofs.lemmas.List.{take_more, get_or_read}
use Rattle.polynomials.specs.Exponent.{same}
use Rattle.polynomials.proofs.Exponent.{same_refl, same_true}
use Rattle.poly.specs.Seen.{terms_in}
use Rattle.flows.specs.Tasks.{Rests, rest_in, lesser, in_second}
use Rattle.program_families.specs.Views.{pair_of, rests_onto, rests_of}
use Rattle.program_families.specs.declared.job.Rest.{Rest}

pub lesser_found : (e : List ℕ) (k : ℕ) → k < length e
    → ((i : ℕ) → i < k → get_or e i 0 ≡ 0) → 0 < get_or e k 0
    → lesser e ≡ Some (set e k (get_or e k 0 - 1), k)
unfolding lesser
lesser_found [] k l before some = absurd (omega (arith, l))
lesser_found (zero ∷ e) zero l before some = absurd (omega (arith, some))
lesser_found (suc a ∷ e) zero l before some =
    let h : a ≡ suc a - 1 = omega arith in ap (λ b. Some (b ∷ e, 0)) h
lesser_found (zero ∷ e) (suc k) l before some =
    ap in_second (lesser_found e k (omega (arith, l)) (λ i m. before (suc i) (omega (arith, m)))
    some)
lesser_found (suc a ∷ e) (suc k) l before some =
    absurd (let h = before 0 (omega arith) in omega (arith, h))

pub lesser_none : (e : List ℕ) → ((i : ℕ) → i < length e → get_or e i 0 ≡ 0) → lesser e ≡ None
unfolding lesser
lesser_none [] before = refl
lesser_none (zero ∷ e) before =
    ap in_second (lesser_none e (λ i l. before (suc i) (omega (arith, l))))
lesser_none (suc a ∷ e) before = absurd (let h = before 0 (omega arith) in omega (arith, h))

onto_more : (rs : Rests) (xs : List Rest) (x : Rest)
    → rests_onto rs (xs ++ x ∷ []) ≡ pair_of x ∷ rests_onto rs xs
unfolding rests_onto
onto_more rs [] x = refl
onto_more rs (y ∷ xs) x = onto_more (pair_of y ∷ rs) xs x

pub rests_more : (xs : List Rest) (x : Rest) → rests_of (xs ++ x ∷ []) ≡ pair_of x ∷ rests_of xs
rests_more xs x = onto_more [] xs x

module _ (rests : List Rest) (i : ℕ) (r : Rest) (l : 0 < i) (w : i ≤ length rests)
    (is : r ≡ get_or rests (i - 1) r) where
  latest : rests_of (take i rests) ≡ pair_of r ∷ rests_of (take (i - 1) rests)
  latest =
      let a : i ≡ (i - 1) + 1 = omega (arith, l) in
      ap (λ k. rests_of (take k rests)) a
      ∙ ap rests_of (take_more rests (i - 1) r (omega (arith, l, w)))
      ∙ ap (λ x. rests_of (take (i - 1) rests ++ x ∷ [])) (sym is)
      ∙ rests_more (take (i - 1) rests) r

  pub rest_found : (m : List ℕ) → r.monomial ≡ m
      → rest_in (rests_of (take i rests)) m ≡ terms_in r.polynomial
  unfolding rest_in
  rest_found m e =
      ap (λ rs. rest_in rs m) latest
      ∙ ap (λ b. cond b (terms_in r.polynomial) (rest_in (rests_of (take (i - 1) rests)) m))
      (ap (λ k. same k m) e ∙ same_refl m)

  pub rest_passed : (m : List ℕ) → (r.monomial ≡ m → ⊥)
      → rest_in (rests_of (take i rests)) m ≡ rest_in (rests_of (take (i - 1) rests)) m
  unfolding rest_in
  rest_passed m none =
      ap (λ rs. rest_in rs m) latest
      ∙ ap (λ b. cond b (terms_in r.polynomial) (rest_in (rests_of (take (i - 1) rests)) m))
      (differ (same r.monomial m) refl)
    where
      differ : (b : Bool) → same r.monomial m ≡ b → same r.monomial m ≡ false
      differ true f = absurd (none (same_true r.monomial m f))
      differ false f = f

pub rest_none : (rests : List Rest) (m : List ℕ) (i : ℕ) → i ≤ 0
    → rest_in (rests_of (take i rests)) m ≡ []
unfolding rest_in rests_onto
rest_none rests m zero l = refl
rest_none rests m (suc i) l = absurd (omega (arith, l))

-- ---- in the code's words
module _ (m items : List ℕ) (same_items : items ≡ m) (k : ℕ)
    (before : (i : ℕ) → i < k → get_or items i 0 ≡ 0) where
  pub found_in : (less : List ℕ) (x y : ℕ) → k < length items → x ≡ get_or items k x → 0 < x
      → y ≡ get_or items k y → less ≡ set items k (y - 1) → lesser m ≡ Some (less, k)
  found_in less x y l ex some ey is =
      let here : x ≡ get_or items k 0 = get_or_read items k x l ex 0 in
      let there : y ≡ get_or items k 0 = get_or_read items k y l ey 0 in
      subst (λ e. lesser e ≡ Some (less, k)) same_items
      (lesser_found items k l before (subst (λ z. 0 < z) here some)
      ∙ ap (λ z. Some (z, k)) (ap (λ v. set items k (v - 1)) (sym there) ∙ sym is))

  pub none_in : (n : ℕ) → length items ≡ n → n ≤ k → lesser m ≡ None
  none_in n e l =
      subst (λ d. lesser d ≡ None) same_items
      (lesser_none items (λ i h. before i (omega (arith, e, l, h))))

-- ---- the variable's place
pub variable_within : (m e : List ℕ) (k : ℕ) → lesser m ≡ Some (e, k) → k < length m
unfolding lesser
variable_within [] e k h = absurd (let z : ⊥ = cc in z)
variable_within (suc a ∷ m) e k h =
    let pair : ◌≡◌ {A = List ℕ × ℕ} (a ∷ m, 0) (e, k) = cc in
    let here : 0 ≡ k = ap (λ (x : List ℕ × ℕ). x.1) pair in omega (arith, here)
variable_within (zero ∷ m) e k h = go (lesser m) (λ d i f. variable_within m d i f) h
  where
    go : (o : Option (List ℕ × ℕ)) → ((d : List ℕ) (i : ℕ) → o ≡ Some (d, i) → i < length m)
        → in_second o ≡ Some (e, k) → k < suc (length m)
    go None f g = absurd (let z : ⊥ = cc in z)
    go (Some (d, i)) f g =
        let pair : ◌≡◌ {A = List ℕ × ℕ} (0 ∷ d, suc i) (e, k) = cc in
        let here : suc i ≡ k = ap (λ (x : List ℕ × ℕ). x.1) pair in
        let w = f d i refl in omega (arith, here, w)
