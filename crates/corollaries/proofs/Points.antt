-- The first point at which a polynomial isn't zero, number by number.
--   Vanishes m q xs      q is zero at each point that begins with the numbers xs
--   zero_with_vanishes, vanishes_zero_with     so it is exactly where it is 0 with these numbers
--   least_number, IsNext      where it isn't, there is a first number to go on with, at most the degree
--   prefix_none, prefix_more, prefix_fixed     the first prefix of no number, of one more, and of 0
--                        for a variable that doesn't matter
--   prefix_rest          a first prefix goes on to one of all numbers
--   prefix_point         the first prefix of all numbers is the first point
--   first_points, first_point_one, first_point_low     there is one, only one, within the degrees
--   arity-substitution, length-wholes     the list substitution has polynomials in m variables; there are as many fractions as numbers
use Rattle.std.proofs.Common.{◌≡◌, ◌≢◌, ◌⊎◌, inl, inr, ℕ, zero, suc, ◌+◌, ◌≤◌, ◌<◌, pos, List, [], ◌∷◌, ◌++◌, map, drop, length, get_or, refl, sym, ap, ap₂, subst, ◌∙◌, arith, append_assoc, append-nil}
use Rattle.std.proofs.lemmas.List.{length-map, length-append, length-drop, map-append, drop-map}
use Rattle.std.proofs.Math.Seq.{drop-append_seam, get_or-append_seam}
use Rattle.algebra.specs.Each.{Each}
use Rattle.algebra.proofs.RingLaws.{eq_of_sub}
use Rattle.algebra.specs.Fraction.{Fraction, ℚ, whole}
use Rattle.algebra.proofs.Fractions.{ℚ_ring, ℚ_field, fraction_eq, fraction_eq_refl, fraction_eq_true}
use Rattle.algebra.proofs.Wholes.{whole_injective}
use Rattle.polynomials.specs.Terms.{Terms, Same, constant, variables, value_at, compose}
use Rattle.polynomials.specs.Polynomial.{Arity, AllArity}
use Rattle.polynomials.specs.Weight.{degrees}
use Rattle.polynomials.proofs.Arity.{arity-compose, arity-constant, arity-variables}
use Rattle.polynomials.proofs.ByValues.{zero_by_values}
use Rattle.polynomials.proofs.SameDecided.{decide_same}
use Rattle.polynomials.proofs.ValueAt.{value_at_same, value_at-nil, value_at-compose, value_at-variables, values_at-constants}
use Rattle.corollaries.specs.Word.{IsLess}
use Rattle.corollaries.specs.Point.{wholes, substitution, IsFirstPoint, IsZeroWith, IsFirstPrefix}
use Rattle.corollaries.proofs.Horner.{zero_everywhere}
use Rattle.corollaries.proofs.Places.{value_of_place}
use Rattle.corollaries.proofs.Order.{less_irrefl, less_total, less_behind, IsSplit}

-- ---- whole numbers
point : ℕ → Fraction
point i = whole (pos i)

apart : (i j : ℕ) → i ≢ j → ℚ.add (point i) (ℚ.neg (point j)) ≢ ℚ.zero
unfolding point
apart i j n h =
    let e : point i ≡ point j = eq_of_sub ℚ_ring (point i) (point j) h in
    let w : pos i ≡ pos j = whole_injective (pos i) (pos j) e in
    n (cc)

pub length-wholes : (xs : List ℕ) → length (wholes xs) ≡ length xs
unfolding wholes
length-wholes xs = length-map xs _

wholes-push : (xs : List ℕ) (n : ℕ) (s : List Fraction)
    → wholes (xs ++ n ∷ []) ++ s ≡ wholes xs ++ point n ∷ s
unfolding wholes point
wholes-push xs n s =
    ap (λ ys. ys ++ s) (map-append _ xs (n ∷ [])) ∙ append_assoc (wholes xs) (point n ∷ []) s

length-push : (xs : List ℕ) (n : ℕ) → length (xs ++ n ∷ []) ≡ suc (length xs)
length-push xs n = length-append xs (n ∷ []) ∙ (omega arith)

past_end : (xs : List ℕ) (k : ℕ) → length xs ≤ k → get_or xs k 0 ≡ 0
past_end [] k l = refl
past_end (x ∷ xs) zero l = absurd (omega arith)
past_end (x ∷ xs) (suc k) l = past_end xs k (omega arith)

map-drop_values : (n : ℕ) (ps : List (Terms Fraction)) (s : List Fraction)
    → map (λ p. value_at ℚ p s) (drop n ps) ≡ drop n (map (λ p. value_at ℚ p s) ps)
map-drop_values n ps s = sym (drop-map (λ p. value_at ℚ p s) n ps)

each_append : {X : Type 0} (P : X → Type 0) (xs ys : List X) → Each P xs → Each P ys
    → Each P (xs ++ ys)
unfolding Each
each_append P [] ys a b = b
each_append P (x ∷ xs) ys a b = (a.0, each_append P xs ys a.1 b)

each_drop : {X : Type 0} (P : X → Type 0) (n : ℕ) (xs : List X) → Each P xs → Each P (drop n xs)
unfolding Each
each_drop P zero xs a = a
each_drop P (suc n) [] a = tt
each_drop P (suc n) (x ∷ xs) a = each_drop P n xs a.1

constants_arity : (m : ℕ) (xs : List Fraction) → AllArity m (map (constant m) xs)
unfolding Each
constants_arity m [] = tt
constants_arity m (x ∷ xs) = (arity-constant m x, constants_arity m xs)

pub arity-substitution : (m : ℕ) (xs : List ℕ) → AllArity m (substitution m xs)
unfolding substitution
arity-substitution m xs =
    each_append (Arity m) (map (constant m) (wholes xs)) (drop (length xs) (variables ℚ m))
    (constants_arity m (wholes xs))
    (each_drop (Arity m) (length xs) (variables ℚ m) (arity-variables m ℚ))

put_values : (m : ℕ) (xs : List ℕ) (s : List Fraction) → length s ≡ m
    → map (λ p. value_at ℚ p s) (substitution m xs) ≡ wholes xs ++ drop (length xs) s
unfolding substitution
put_values m xs s l =
    map-append _ (map (constant m) (wholes xs)) (drop (length xs) (variables ℚ m))
    ∙ ap₂ ◌++◌ (values_at-constants ℚ_ring m (wholes xs) s)
    (map-drop_values (length xs) (variables ℚ m) s
    ∙ ap (drop (length xs)) (value_at-variables ℚ_ring m s l))

module _ (m : ℕ) (q : Terms Fraction) where
  abbrev pub Vanishes : List ℕ → Type 0
  Vanishes xs =
      (s : List Fraction) → length xs + length s ≡ m → value_at ℚ q (wholes xs ++ s) ≡ ℚ.zero

  value_put : (xs : List ℕ) (s : List Fraction) → length s ≡ m
      → value_at ℚ (compose ℚ m q (substitution m xs)) s ≡ value_at ℚ q
      (wholes xs ++ drop (length xs) s)
  value_put xs s l =
      value_at-compose ℚ_ring m q (substitution m xs) s ∙ ap (value_at ℚ q) (put_values m xs s l)

  pub zero_with_vanishes : (xs : List ℕ) → IsZeroWith m q xs → Vanishes xs
  zero_with_vanishes xs g s l =
      let long : length (wholes xs ++ s) ≡ m = length-append (wholes xs) s
      ∙ omega (arith, length-wholes xs) in
      let seam : drop (length xs) (wholes xs ++ s) ≡ s =
      ap (λ n. drop n (wholes xs ++ s)) (sym (length-wholes xs))
      ∙ drop-append_seam (wholes xs) s in
      ap (λ t. value_at ℚ q (wholes xs ++ t)) (sym seam)
      ∙ sym (value_put xs (wholes xs ++ s) long)
      ∙ value_at_same ℚ_ring (compose ℚ m q (substitution m xs)) [] (wholes xs ++ s) g
      ∙ value_at-nil ℚ_ring (wholes xs ++ s)

  pub vanishes_zero_with : (xs : List ℕ) → length xs ≤ m → Vanishes xs → IsZeroWith m q xs
  vanishes_zero_with xs l v =
      zero_by_values m (compose ℚ m q (substitution m xs))
      (arity-compose m ℚ q (substitution m xs) (arity-substitution m xs))
      (λ s k. value_put xs s k ∙ v (drop (length xs) s) (omega (arith, length-drop (length xs) s)))

  pub decide_zero_with : (xs : List ℕ) → IsZeroWith m q xs ⊎ (IsZeroWith m q xs → ⊥)
  decide_zero_with xs =
      decide_same ℚ_ring fraction_eq fraction_eq_refl fraction_eq_true
      (compose ℚ m q (substitution m xs)) []

  -- ---- one number more
  vanishes_all : (xs : List ℕ) → length xs < m
      → ((j : ℕ) → j ≤ get_or (degrees q) (length xs) 0 → Vanishes (xs ++ j ∷ [])) → Vanishes xs
  vanishes_all xs l h [] k = absurd (omega arith)
  vanishes_all xs l h (x ∷ s) k =
      let d : ℕ = get_or (degrees q) (length (wholes xs)) 0 in
      let same : length (wholes xs) ≡ length xs = length-wholes xs in
      zero_everywhere ℚ_ring ℚ_field.inverses point apart (suc d)
      (λ y. value_at ℚ q (wholes xs ++ y ∷ s)) (value_of_place ℚ_ring (wholes xs) s q)
      (λ j lj. ap (value_at ℚ q) (sym (wholes-push xs j s))
      ∙ h j (let e : get_or (degrees q) (length (wholes xs)) 0 ≡ get_or (degrees q)
      (length xs) 0 = ap (λ n. get_or (degrees q) n 0) same in omega arith) s
      (omega (arith, length-push xs j)))
      x

  pub record IsNext (xs : List ℕ) (j : ℕ) : Type 0 where
    pub fails : IsZeroWith m q (xs ++ j ∷ []) → ⊥
    pub before : (i : ℕ) → i < j → IsZeroWith m q (xs ++ i ∷ [])

  search_next : (xs : List ℕ) (n : ℕ)
      → ((j : ℕ) → j < n → IsZeroWith m q (xs ++ j ∷ [])) ⊎ ((j : ℕ) × (j < n) × IsNext xs j)
  search_next xs zero = inl (λ j l. absurd (omega arith))
  search_next xs (suc n) = go (search_next xs n) (decide_zero_with (xs ++ n ∷ []))
    where
      more : ((j : ℕ) → j < n → IsZeroWith m q (xs ++ j ∷ [])) → IsZeroWith m q (xs ++ n ∷ [])
          → (j : ℕ)
          → j < suc n → IsZeroWith m q (xs ++ j ∷ [])
      more all g j l = here (cases j)
        where
          cases : (j : ℕ) → (j < n) ⊎ (n ≤ j)
          cases j = grind arith

          here : (j < n) ⊎ (n ≤ j) → IsZeroWith m q (xs ++ j ∷ [])
          here (inl k) = all j k
          here (inr k) =
              let e : n ≡ j = omega arith in subst (λ i. IsZeroWith m q (xs ++ i ∷ [])) e g

      go : ((j : ℕ) → j < n → IsZeroWith m q (xs ++ j ∷ [])) ⊎ ((j : ℕ) × (j < n) × IsNext xs j)
          → IsZeroWith m q (xs ++ n ∷ []) ⊎ (IsZeroWith m q (xs ++ n ∷ []) → ⊥)
          → ((j : ℕ) → j < suc n → IsZeroWith m q (xs ++ j ∷ []))
          ⊎ ((j : ℕ) × (j < suc n) × IsNext xs j)
      go (inr (j, l, is)) d = inr (j, omega arith, is)
      go (inl all) (inl g) = inl (more all g)
      go (inl all) (inr f) = inr (n, omega arith, record { fails = f; before = all })

  pub record HasNext (xs : List ℕ) : Type 0 where
    pub number : ℕ
    pub low : number ≤ get_or (degrees q) (length xs) 0
    pub is : IsNext xs number

  pub least_number : (xs : List ℕ) → length xs < m → (IsZeroWith m q xs → ⊥) → HasNext xs
  least_number xs l f = go (search_next xs (suc (get_or (degrees q) (length xs) 0)))
    where
      go : ((j : ℕ) → j < suc (get_or (degrees q) (length xs) 0) → IsZeroWith m q (xs ++ j ∷ []))
          ⊎ ((j : ℕ) × (j < suc (get_or (degrees q) (length xs) 0)) × IsNext xs j) → HasNext xs
      go (inl all) =
          absurd (f
          (vanishes_zero_with xs (omega arith)
          (vanishes_all xs l (λ j k. zero_with_vanishes (xs ++ j ∷ []) (all j (omega arith))))))
      go (inr (j, k, is)) = record { number = j; low = omega arith; is = is }

  -- the first such number is within the degree
  -- ---- fronts
  zero_with_more : (xs : List ℕ) (n : ℕ) → length xs < m → IsZeroWith m q xs
      → IsZeroWith m q (xs ++ n ∷ [])
  zero_with_more xs n l g =
      vanishes_zero_with (xs ++ n ∷ []) (omega (arith, length-push xs n))
      (λ s k. ap (value_at ℚ q) (wholes-push xs n s)
      ∙ zero_with_vanishes xs g (point n ∷ s) (omega (arith, length-push xs n)))

  pub prefix_none : Arity m q → (Same ℚ q [] → ⊥) → IsFirstPrefix m q []
  unfolding wholes
  prefix_none a f = record {
    fails = λ g. f (zero_by_values m q a (λ s l. zero_with_vanishes [] g s (omega arith)));
    first = λ ys l h. none ys l h;
  }
    where
      none : (ys : List ℕ) → length ys ≡ length {A = ℕ} [] → IsLess ys [] → IsZeroWith m q ys
      none [] l h = absurd (less_irrefl [] h)
      none (y ∷ ys) l h = absurd (omega arith)

  pub prefix_more : (xs : List ℕ) (j : ℕ) → length xs < m → IsFirstPrefix m q xs → IsNext xs j
      → IsFirstPrefix m q (xs ++ j ∷ [])
  prefix_more xs j l f next =
      record {
        fails = next.fails;
        first = λ ys k h. split ys k (less_behind ys xs j (k ∙ length-push xs j) h);
      }
    where
      split : (ys : List ℕ) → length ys ≡ length (xs ++ j ∷ []) → IsSplit ys xs j
          → IsZeroWith m q ys
      split ys k s = subst (IsZeroWith m q) (sym s.is) (cases s.less)
        where
          cases : IsLess s.prefix xs ⊎ ((s.prefix ≡ xs) × (s.last < j))
              → IsZeroWith m q (s.prefix ++ s.last ∷ [])
          cases (inl h) =
              zero_with_more s.prefix s.last (omega (arith, s.count)) (f.first s.prefix s.count h)
          cases (inr h) =
              subst (λ u. IsZeroWith m q (u ++ s.last ∷ [])) (sym h.0) (next.before s.last h.1)

  -- where the variable doesn't matter
  pub prefix_fixed : (xs : List ℕ) → length xs < m
      → ((before behind : List Fraction) (x y : Fraction) → length before ≡ length xs
      → length before + suc (length behind) ≡ m
      → value_at ℚ q (before ++ x ∷ behind) ≡ value_at ℚ q (before ++ y ∷ behind))
      → IsFirstPrefix m q xs → IsFirstPrefix m q (xs ++ 0 ∷ [])
  prefix_fixed xs l same f =
      prefix_more xs 0 l f
      (record {
        fails = λ g. f.fails (vanishes_zero_with xs (omega arith) (back g));
        before = λ i k. absurd (omega arith);
      })
    where
      back : IsZeroWith m q (xs ++ 0 ∷ []) → Vanishes xs
      back g [] k = absurd (omega arith)
      back g (x ∷ s) k =
          same (wholes xs) s x (point 0) (length-wholes xs) (omega (arith, length-wholes xs))
          ∙ ap (value_at ℚ q) (sym (wholes-push xs 0 s))
          ∙ zero_with_vanishes (xs ++ 0 ∷ []) g s (omega (arith, length-push xs 0))

  pub prefix_point : (xs : List ℕ) → length xs ≡ m → IsFirstPrefix m q xs → IsFirstPoint m q xs
  prefix_point xs l f = record {
    count = l;
    off =
        λ z. f.fails
        (vanishes_zero_with xs (omega arith)
        (λ s k. ap (λ t. value_at ℚ q (wholes xs ++ t)) (none s (omega arith))
        ∙ ap (value_at ℚ q) (append-nil (wholes xs)) ∙ z));
    first =
        λ ys k h. sym (ap (value_at ℚ q) (append-nil (wholes ys)))
        ∙ zero_with_vanishes ys (f.first ys (k ∙ sym l) h) [] (omega arith);
  }
    where
      none : (s : List Fraction) → length s ≡ 0 → s ≡ []
      none [] k = refl
      none (x ∷ s) k = absurd (omega arith)

  -- ---- all numbers
  pub record HasRest (xs : List ℕ) : Type 0 where
    pub rest : List ℕ
    pub count : length (xs ++ rest) ≡ m
    pub prefix : IsFirstPrefix m q (xs ++ rest)
    pub low : (k : ℕ) → length xs ≤ k → get_or (xs ++ rest) k 0 ≤ get_or (degrees q) k 0

  pub prefix_rest : (n : ℕ) (xs : List ℕ) → length xs + n ≡ m → IsFirstPrefix m q xs → HasRest xs
  prefix_rest zero xs l f = record {
    rest = [];
    count = ap length (append-nil xs) ∙ omega arith;
    prefix = subst (IsFirstPrefix m q) (sym (append-nil xs)) f;
    low =
        λ k lk. let past : get_or (xs ++ []) k 0 ≡ 0 =
        past_end (xs ++ []) k (omega (arith, ap length (append-nil xs))) in omega arith;
  }
  prefix_rest (suc n) xs l f =
      go (least_number xs (omega arith) f.fails)
      (λ j is. prefix_rest n (xs ++ j ∷ []) (omega (arith, length-push xs j))
      (prefix_more xs j (omega arith) f is))
    where
      go : HasNext xs → ((j : ℕ) → IsNext xs j → HasRest (xs ++ j ∷ [])) → HasRest xs
      go h more = done (more h.number h.is)
        where
          done : HasRest (xs ++ h.number ∷ []) → HasRest xs
          done r = record {
            rest = h.number ∷ r.rest;
            count = ap length (sym same) ∙ r.count;
            prefix = subst (IsFirstPrefix m q) same r.prefix;
            low = λ k lk. here k lk (cases k);
          }
            where
              same : (xs ++ h.number ∷ []) ++ r.rest ≡ xs ++ h.number ∷ r.rest
              same = append_assoc xs (h.number ∷ []) r.rest

              cases : (k : ℕ) → (k ≡ length xs) ⊎ (¬ (k ≡ length xs))
              cases k = grind arith

              here : (k : ℕ) → length xs ≤ k → (k ≡ length xs) ⊎ (¬ (k ≡ length xs))
                  → get_or (xs ++ h.number ∷ r.rest) k 0 ≤ get_or (degrees q) k 0
              here k lk (inl e) =
                  let at : get_or (xs ++ h.number ∷ r.rest) (length xs) 0 ≡ h.number =
                  get_or-append_seam xs h.number r.rest 0 in
                  subst (λ i. get_or (xs ++ h.number ∷ r.rest) i 0 ≤ get_or (degrees q) i 0) (sym e)
                  (omega (arith, h.low))
              here k lk (inr ne) =
                  subst (λ ys. get_or ys k 0 ≤ get_or (degrees q) k 0) same
                  (r.low k (omega (arith, length-push xs h.number)))

  pub first_points : Arity m q → (Same ℚ q [] → ⊥) → (xs : List ℕ) × IsFirstPoint m q xs
  first_points a f =
      let r = prefix_rest m [] (omega arith) (prefix_none a f) in
      (r.rest, prefix_point r.rest r.count r.prefix)

  pub first_point_one : (xs ys : List ℕ) → IsFirstPoint m q xs → IsFirstPoint m q ys → xs ≡ ys
  first_point_one xs ys f g = go (less_total xs ys (f.count ∙ sym g.count))
    where
      go : IsLess xs ys ⊎ ((xs ≡ ys) ⊎ IsLess ys xs) → xs ≡ ys
      go (inl h) = absurd (f.off (g.first xs f.count h))
      go (inr (inl e)) = e
      go (inr (inr h)) = absurd (g.off (f.first ys g.count h))

  pub first_point_low : (xs : List ℕ) → Arity m q → IsFirstPoint m q xs → (k : ℕ)
      → get_or xs k 0 ≤ get_or (degrees q) k 0
  first_point_low xs a f k =
      let r = prefix_rest m [] (omega arith)
      (prefix_none a
      (λ z. f.off
      (value_at_same ℚ_ring q [] (wholes xs) z ∙ value_at-nil ℚ_ring (wholes xs)))) in
      let same : r.rest ≡ xs = first_point_one r.rest xs (prefix_point r.rest r.count r.prefix) f in
      subst (λ ys. get_or ys k 0 ≤ get_or (degrees q) k 0) same (r.low k (omega arith))
