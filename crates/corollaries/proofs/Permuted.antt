-- Places in an order.
--   Each_place          a fact of each place
--   place_of_among      the value at the place of what is among the places
--   places_again        the values at the places of the places
--   order_has_all       each place below m is in the order
--   order_distinct      none of them twice
use Rattle.std.proofs.Common.{◌≡◌, ℕ, zero, suc, ◌+◌, ◌<◌, ◌≤◌, Bool, true, false, not, ◌||◌, eqb, cond, List, [], ◌∷◌, ◌++◌, map, length, get_or, filter, arith, refl, sym, ap, ap₂, ◌∙◌}
use Rattle.std.proofs.lemmas.Bool.{eqb-true, eqb-false, ne_eqb}
use Rattle.algebra.specs.Each.{Each}
use Rattle.algebra.proofs.Basics.{eqb_same, or_false, or_true}
use Rattle.algebra.proofs.Each.{each-append, map_same}
use Rattle.loops.proofs.Lists.{along, at_place, more_before, length-more}
use Rattle.loops.specs.Turning.{places}
use Rattle.corollaries.specs.Order.{is_among, place_in, hidden, visible, order}

eqb_sym : (i j : ℕ) → eqb i j ≡ eqb j i
eqb_sym i j = go (eqb i j) refl
  where
    go : (b : Bool) → eqb i j ≡ b → b ≡ eqb j i
    go true e = sym (ap (λ k. eqb k i) (sym (eqb-true i j e)) ∙ eqb_same i)
    go false e = sym (ne_eqb j i (λ h. eqb-false i j e (sym h)))

pub eqb_more : (i k : ℕ) → eqb i (suc (i + k)) ≡ false
eqb_more i k = ne_eqb i (suc (i + k)) (λ e. omega arith)

eqb_is : (i j : ℕ) → eqb i j ≡ true → i ≡ j
eqb_is i j h = eqb-true i j h

-- ---- places in a list
module _ {A : Type 0} where
  pub place_of_among : (f : ℕ → A) (d : A) (xs : List ℕ) (i : ℕ) → is_among xs i ≡ true
      → get_or (map f xs) (place_in xs i) d ≡ f i
  unfolding place_in
  place_of_among f d [] i h = absurd (cc)
  place_of_among f d (x ∷ xs) i h = go (eqb x i) refl h (place_of_among f d xs i)
    where
      go : (b : Bool) → eqb x i ≡ b → b || is_among xs i ≡ true
          → (is_among xs i ≡ true → get_or (map f xs) (place_in xs i) d ≡ f i)
          → get_or (map f (x ∷ xs)) (cond b 0 (suc (place_in xs i))) d ≡ f i
      go true e h more = ap f (eqb_is x i e)
      go false e h more = more h

-- none twice
unfoldable pub Distinct : List ℕ → Type 0
Distinct [] = Unit {0}
Distinct (x ∷ xs) = (is_among xs x ≡ false) × Distinct xs

others : (x : ℕ) (xs : List ℕ) → is_among xs x ≡ false → Each (λ i. eqb x i ≡ false) xs
unfolding Each
others x [] h = tt
others x (y ∷ ys) h = let k = or_false (eqb y x) (is_among ys x) h in
    (eqb_sym x y ∙ k.0, others x ys k.1)

module _ {A : Type 0} where
  pub places_again : (xs : List ℕ) (t : List A) (d : A) → Distinct xs → length t ≡ length xs
      → map (λ i. get_or t (place_in xs i) d) xs ≡ t
  unfolding Distinct place_in Each
  places_again [] [] d h l = refl
  places_again [] (y ∷ t) d h l = absurd (omega arith)
  places_again (x ∷ xs) [] d h l = absurd (omega arith)
  places_again (x ∷ xs) (y ∷ t) d h l =
      ap₂ ◌∷◌ (ap (λ b. get_or (y ∷ t) (cond b 0 (suc (place_in xs x))) d) (eqb_same x))
      (map_same (λ i. get_or (y ∷ t) (place_in (x ∷ xs) i) d) (λ i. get_or t (place_in xs i) d) xs
      (later xs (others x xs h.0)) ∙ places_again xs t d h.1 (omega arith))
    where
      later : (is : List ℕ) → Each (λ i. eqb x i ≡ false) is
          → Each (λ i. get_or (y ∷ t) (place_in (x ∷ xs) i) d ≡ get_or t (place_in xs i) d) is
      later [] h = tt
      later (i ∷ is) h = (
        ap
            (λ b. get_or (y ∷ t) (cond b 0 (suc (place_in xs i))) d) h.0,
        later is h.1,
      )

-- ---- parts of a list
among-left : (xs ys : List ℕ) (i : ℕ) → is_among xs i ≡ true → is_among (xs ++ ys) i ≡ true
among-left [] ys i h = absurd (cc)
among-left (x ∷ xs) ys i h = go (eqb x i) h (among-left xs ys i)
  where
    go : (b : Bool) → b || is_among xs i ≡ true
        → (is_among xs i ≡ true → is_among (xs ++ ys) i ≡ true) → b || is_among (xs ++ ys) i ≡ true
    go true h more = refl
    go false h more = more h

among-right : (xs ys : List ℕ) (i : ℕ) → is_among ys i ≡ true → is_among (xs ++ ys) i ≡ true
among-right [] ys i h = h
among-right (x ∷ xs) ys i h = ap (λ b. eqb x i || b) (among-right xs ys i h) ∙ or_true (eqb x i)

among-none : (xs ys : List ℕ) (i : ℕ) → is_among xs i ≡ false → is_among ys i ≡ false
    → is_among (xs ++ ys) i ≡ false
among-none [] ys i h k = k
among-none (x ∷ xs) ys i h k = let p = or_false (eqb x i) (is_among xs i) h in
    ap (λ b. b || is_among (xs ++ ys) i) p.0 ∙ among-none xs ys i p.1 k

module _ (p : ℕ → Bool) where
  among-filter : (xs : List ℕ) (i : ℕ) → p i ≡ true → is_among xs i ≡ true
      → is_among (filter p xs) i ≡ true
  among-filter [] i h k = absurd (cc)
  among-filter (x ∷ xs) i h k = go (eqb x i) refl k (p x) refl (among-filter xs i h)
    where
      go : (b : Bool) → eqb x i ≡ b → b || is_among xs i ≡ true → (c : Bool) → p x ≡ c
          → (is_among xs i ≡ true → is_among (filter p xs) i ≡ true)
          → is_among (cond c (x ∷ filter p xs) (filter p xs)) i ≡ true
      go true e k true f more = ap (λ b. b || is_among (filter p xs) i) e
      go true e k false f more =
          absurd (let z : true ≡ false = sym h ∙ ap p (sym (eqb_is x i e)) ∙ f in cc)
      go false e k true f more = ap (λ b. b || is_among (filter p xs) i) e ∙ more k
      go false e k false f more = more k

  out-filter : (xs : List ℕ) (i : ℕ) → is_among xs i ≡ false → is_among (filter p xs) i ≡ false
  out-filter [] i h = refl
  out-filter (x ∷ xs) i h = let k = or_false (eqb x i) (is_among xs i) h in
      go (p x) k.0 (out-filter xs i k.1)
    where
      go : (c : Bool) → eqb x i ≡ false → is_among (filter p xs) i ≡ false
          → is_among (cond c (x ∷ filter p xs) (filter p xs)) i ≡ false
      go true a b = ap (λ b. b || is_among (filter p xs) i) a ∙ b
      go false a b = b

  -- what doesn't pass isn't there
  failed-filter : (xs : List ℕ) (i : ℕ) → p i ≡ false → is_among (filter p xs) i ≡ false
  failed-filter [] i h = refl
  failed-filter (x ∷ xs) i h = go (p x) refl (failed-filter xs i h)
    where
      differ : p x ≡ true → is_among (filter p xs) i ≡ false → (b : Bool) → eqb x i ≡ b
          → b || is_among (filter p xs) i ≡ false
      differ e more true f = absurd (let z : true ≡ false = sym e ∙ ap p (eqb_is x i f) ∙ h in cc)
      differ e more false f = more

      go : (c : Bool) → p x ≡ c → is_among (filter p xs) i ≡ false
          → is_among (cond c (x ∷ filter p xs) (filter p xs)) i ≡ false
      go true e more = differ e more (eqb x i) refl
      go false e more = more

  distinct-filter : (xs : List ℕ) → Distinct xs → Distinct (filter p xs)
  unfolding Distinct
  distinct-filter [] h = tt
  distinct-filter (x ∷ xs) h = go (p x) (out-filter xs x h.0) (distinct-filter xs h.1)
    where
      go : (c : Bool) → is_among (filter p xs) x ≡ false → Distinct (filter p xs)
          → Distinct (cond c (x ∷ filter p xs) (filter p xs))
      go true a b = (a, b)
      go false a b = b

  all_pass : (xs : List ℕ) → Each (λ i. p i ≡ true) (filter p xs)
  unfolding Each
  all_pass [] = tt
  all_pass (x ∷ xs) = go (p x) refl (all_pass xs)
    where
      go : (c : Bool) → p x ≡ c → Each (λ i. p i ≡ true) (filter p xs)
          → Each (λ i. p i ≡ true) (cond c (x ∷ filter p xs) (filter p xs))
      go true e more = (e, more)
      go false e more = more

  pub each-filter : (P : ℕ → Type 0) (xs : List ℕ) → Each P xs → Each P (filter p xs)
  unfolding Each
  each-filter P [] h = tt
  each-filter P (x ∷ xs) h = go (p x) h.0 (each-filter P xs h.1)
    where
      go : (c : Bool) → P x → Each P (filter p xs) → Each P (cond c (x ∷ filter p xs) (filter p xs))
      go true a b = (a, b)
      go false a b = b

distinct-append : (xs ys : List ℕ) → Distinct xs → Distinct ys
    → Each (λ x. is_among ys x ≡ false) xs → Distinct (xs ++ ys)
unfolding Distinct Each
distinct-append [] ys h k a = k
distinct-append (x ∷ xs) ys h k a = (among-none xs ys x h.0 a.0, distinct-append xs ys h.1 k a.1)

-- ---- all places
places_among : (a r i : ℕ) → a ≤ i → i < a + r → is_among (places a r) i ≡ true
unfolding places
places_among a zero i h k = absurd (omega arith)
places_among a (suc r) i h k =
    go (eqb a i) refl (λ e. places_among (suc a) r i (later e) (omega arith))
  where
    later : eqb a i ≡ false → suc a ≤ i
    later e = let n = eqb-false a i e in grind arith

    go : (b : Bool) → eqb a i ≡ b → (eqb a i ≡ false → is_among (places (suc a) r) i ≡ true)
        → b || is_among (places (suc a) r) i ≡ true
    go true e more = refl
    go false e more = more e

places_out : (a r k : ℕ) → is_among (places (suc (a + k)) r) a ≡ false
unfolding places
places_out a zero k = refl
places_out a (suc r) k =
    ap (λ b. b || is_among (places (suc (suc (a + k))) r) a) (eqb_sym (suc (a + k)) a
    ∙ eqb_more a k) ∙ along (λ n. is_among (places (suc n) r) a) (suc (a + k)) (a + suc k)
    (omega arith) ∙ places_out a r (suc k)

places_distinct : (a r : ℕ) → Distinct (places a r)
unfolding places Distinct
places_distinct a zero = tt
places_distinct a (suc r) = (
  along (λ n. is_among (places (suc n) r) a) a (a + 0) (omega arith)
      ∙ places_out a r 0,
  places_distinct (suc a) r,
)

pub places_below : (a r m : ℕ) → a + r ≤ m → Each (λ i. i < m) (places a r)
unfolding places Each
places_below a zero m h = tt
places_below a (suc r) m h = (omega arith, places_below (suc a) r m (omega arith))

module _ {A : Type 0} where
  -- the values at all places
  picked_from : (before t : List A) (a : ℕ) (d : A) → a ≡ length before
      → map (λ i. get_or (before ++ t) i d) (places a (length t)) ≡ t
  unfolding places
  picked_from before [] a d e = refl
  picked_from before (x ∷ t) a d e =
      ap₂ ◌∷◌ (ap (λ k. get_or (before ++ x ∷ t) k d) e ∙ at_place before x t d)
      (ap (λ s. map (λ i. get_or s i d) (places (suc a) (length t))) (more_before before x t)
      ∙ picked_from (before ++ x ∷ []) t (suc a) d (ap suc e ∙ sym (length-more before x)))

  pub picked_all : (s : List A) (m : ℕ) (d : A) → length s ≡ m
      → map (λ i. get_or s i d) (places 0 m) ≡ s
  picked_all s m d h = ap (λ n. map (λ i. get_or s i d) (places 0 n)) (sym h)
      ∙ picked_from [] s 0 d refl

  -- a list by its values at places
  get_mapped : (f : ℕ → A) (a r i : ℕ) (d : A) → i < r → get_or (map f (places a r)) i d ≡ f (a + i)
  unfolding places
  get_mapped f a zero i d h = absurd (omega arith)
  get_mapped f a (suc r) zero d h = ap f (omega arith)
  get_mapped f a (suc r) (suc i) d h = get_mapped f (suc a) r i d (omega arith) ∙ ap f (omega arith)

  pub get_placed : (f : ℕ → A) (m i : ℕ) (d : A) → i < m → get_or (map f (places 0 m)) i d ≡ f i
  get_placed f m i d h = get_mapped f 0 m i d h ∙ ap f (omega arith)

-- ---- the order
module _ (m : ℕ) (is : List ℕ) where
  pub order_has_all : (i : ℕ) → i < m → is_among (order m is) i ≡ true
  order_has_all i h = go (is_among is i) refl
    where
      there : is_among (places 0 m) i ≡ true
      there = places_among 0 m i (omega arith) (omega arith)

      go : (b : Bool) → is_among is i ≡ b → is_among (order m is) i ≡ true
      go true e = among-right (hidden m is) (visible m is) i
          (among-filter (is_among is) (places 0 m) i e there)
      go false e = among-left (hidden m is) (visible m is) i
          (among-filter (λ j. not (is_among is j)) (places 0 m) i (ap not e) there)

  pub order_distinct : Distinct (order m is)
  unfolding Each
  order_distinct = distinct-append (hidden m is) (visible m is)
      (distinct-filter (λ j. not (is_among is j)) (places 0 m) (places_distinct 0 m))
      (distinct-filter (is_among is) (places 0 m) (places_distinct 0 m))
      (apart (hidden m is) (all_pass (λ j. not (is_among is j)) (places 0 m)))
    where
      out : (b : Bool) → not b ≡ true → b ≡ false
      out true h = absurd (cc)
      out false h = refl

      apart : (xs : List ℕ) → Each (λ i. not (is_among is i) ≡ true) xs
          → Each (λ x. is_among (visible m is) x ≡ false) xs
      apart [] h = tt
      apart (x ∷ xs) h = (
        failed-filter (is_among is) (places 0 m) x
            (out (is_among is x) h.0),
        apart xs h.1,
      )

  pub order_below : Each (λ i. i < m) (order m is)
  order_below = each-append (λ i. i < m) (hidden m is) (visible m is)
      (each-filter (λ j. not (is_among is j)) (λ i. i < m) (places 0 m)
      (places_below 0 m m (omega arith)))
      (each-filter (is_among is) (λ i. i < m) (places 0 m) (places_below 0 m m (omega arith)))
