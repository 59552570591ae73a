-- The places of sequences, among all places.
--   visible_shown      those that are shown are the places of the sequences
use Rattle.std.proofs.Common.{◌≡◌, ℕ, zero, suc, ◌+◌, ◌≤◌, Bool, false, ◌||◌, eqb, cond, ◌-◌, List, [], ◌∷◌, ◌++◌, length, filter, arith, refl, ap, ap₂, ◌∙◌}
use Rattle.std.proofs.lemmas.Bool.{ne_eqb}
use Rattle.std.proofs.lemmas.List.Elements.{filter-append}
use Rattle.algebra.specs.Each.{Each}
use Rattle.algebra.proofs.Basics.{eqb_same}
use Rattle.loops.specs.Sequences.{Sequence, order, size}
use Rattle.loops.specs.Turning.{places, first_places}
use Rattle.loops.proofs.Lists.{along, moved}
use Rattle.corollaries.specs.Order.{is_among, visible}
use Rattle.corollaries.proofs.Permuted.{eqb_more}

eqb_less : (i k : ℕ) → eqb (suc (i + k)) i ≡ false
eqb_less i k = ne_eqb (suc (i + k)) i (λ e. omega arith)

module _ {E : Type 0} where
  -- what stands behind a place is not it
  before_shown : (a k : ℕ) (qs : List (Sequence E)) → is_among (first_places (suc (a + k)) qs) a
      ≡ false
  unfolding first_places
  before_shown a k [] = refl
  before_shown a k (q ∷ qs) =
      ap (λ b. b || is_among (first_places (suc (a + k) + order q) qs) a) (eqb_less a k)
      ∙ along (λ n. is_among (first_places n qs) a) (suc (a + k) + order q)
      (suc (a + (k + order q)))
      (omega arith) ∙ before_shown a (k + order q) qs

-- the same tests, the same parts
module _ (p q : ℕ → Bool) where
  filter_same : (xs : List ℕ) → Each (λ x. p x ≡ q x) xs → filter p xs ≡ filter q xs
  unfolding Each
  filter_same [] h = refl
  filter_same (x ∷ xs) h = ap₂ (λ b l. cond b (x ∷ l) l) h.0 (filter_same xs h.1)

filter_none : (p : ℕ → Bool) (xs : List ℕ) → Each (λ x. p x ≡ false) xs → filter p xs ≡ []
unfolding Each
filter_none p [] h = refl
filter_none p (x ∷ xs) h = ap (λ b. cond b (x ∷ filter p xs) (filter p xs)) h.0
    ∙ filter_none p xs h.1

places-append : (a r t : ℕ) → places a (r + t) ≡ places a r ++ places (a + r) t
unfolding places
places-append a zero t = along (places a) (0 + t) t (omega arith)
    ∙ along (λ k. places k t) a (a + 0) (omega arith)
places-append a (suc r) t = along (λ n. places a n) (suc r + t) (suc (r + t)) (omega arith)
    ∙ ap (λ l. a ∷ l) (places-append (suc a) r t
    ∙ along (λ n. places (suc a) r ++ places n t) (suc a + r) (a + suc r) (omega arith))

-- one place more in front, for later places
later_same : (a d r : ℕ) (is : List ℕ)
    → Each (λ i. is_among (a ∷ is) i ≡ is_among is i) (places (suc (a + d)) r)
unfolding places Each
later_same a d zero is = tt
later_same a d (suc r) is = (
  ap (λ b. b || is_among is (suc (a + d))) (eqb_more a d),
  moved
      (λ i. Each (λ i. is_among (a ∷ is) i ≡ is_among is i) (places i r)) (suc (a + suc d))
      (suc (suc (a + d))) (omega arith) (later_same a (suc d) r is),
)

module _ {E : Type 0} where
  -- between one place and the next none is shown
  between : (a k r : ℕ) (qs : List (Sequence E)) → (n : ℕ) → suc (a + k) + r ≤ n
      → Each (λ i. is_among (a ∷ first_places n qs) i ≡ false) (places (suc (a + k)) r)
  unfolding places Each
  between a k zero qs n l = tt
  between a k (suc r) qs n l = (
    ap (λ b. b || is_among (first_places n qs) (suc (a + k))) (eqb_more a k)
        ∙ later,
    moved (λ i. Each (λ i. is_among (a ∷ first_places n qs) i ≡ false) (places i r))
        (suc (a + suc k)) (suc (suc (a + k))) (omega arith)
        (between a (suc k) r qs n (omega arith)),
  )
    where
      gap : (d : ℕ) → n ≡ suc (suc (a + k) + d) → is_among (first_places n qs) (suc (a + k)) ≡ false
      gap d e = ap (λ n. is_among (first_places n qs) (suc (a + k))) e
          ∙ before_shown (suc (a + k)) d qs

      later : is_among (first_places n qs) (suc (a + k)) ≡ false
      later = gap (n - suc (suc (a + k))) (omega arith)

  shown_from : (a : ℕ) (qs : List (Sequence E))
      → filter (is_among (first_places a qs)) (places a (size qs)) ≡ first_places a qs
  unfolding first_places size places
  shown_from a [] = refl
  shown_from a (q ∷ qs) =
      let n = a + order q in
      let r = length q.later in
      let js = first_places n qs in
      let p = is_among (a ∷ js) in
      ap (filter p) (places-append a (order q) (size qs))
      ∙ filter-append p (places a (order q)) (places n (size qs))
      ∙ ap₂ ◌++◌
      (ap (λ b. cond (b || is_among js a) (a ∷ filter p (places (suc a) r))
      (filter p (places (suc a) r))) (eqb_same a)
      ∙ ap (λ l. a ∷ l) (filter_none p (places (suc a) r)
      (moved (λ i. Each (λ i. is_among (a ∷ js) i ≡ false) (places i r)) (suc (a + 0)) (suc a)
      (omega arith) (between a 0 r qs n (omega arith)))))
      (filter_same p (is_among js) (places n (size qs))
      (moved (λ i. Each (λ i. is_among (a ∷ js) i ≡ is_among js i) (places i (size qs)))
      (suc (a + length q.later)) n (omega arith) (later_same a (length q.later) (size qs) js))
      ∙ shown_from n qs)

  pub visible_shown : (qs : List (Sequence E)) → visible (size qs) (first_places 0 qs)
      ≡ first_places 0 qs
  visible_shown qs = shown_from 0 qs
