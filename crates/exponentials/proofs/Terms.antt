-- Sums of terms c n^a ρ^n: where all values lie in an ideal, so does the sum of the coefficients at each degree and number.
--   alike_refl, alike_true     the test holds exactly of numbers that are the same
use Rattle.std.proofs.Common.{◌≡◌, ◌≢◌, inl, inr, true, cond, ℕ, zero, suc, ◌+◌, List, [], ◌∷◌, refl, sym, ap, ◌∙◌, arith}
use Rattle.algebra.specs.Each.{Each}
use Rattle.algebra.specs.In.{In}
use Rattle.algebra.specs.Arithmetic.{power}
use Rattle.algebra.specs.Ring.{CommRing, operations, of_nat}
use Rattle.algebra.specs.Sum.{sum_over}
use Rattle.algebra.proofs.RingSolver.{ring_rules, ring, from}
use Rattle.algebra.proofs.Sums as Sums
use Rattle.algebra.proofs.In.{each_in, each_from}
use Rattle.exponentials.proofs.Lists.{Distinct, Test, each_map, sum_same, sum_alike, pick, once, once-distinct, once-in, once-out, same_false}
use Rattle.exponentials.proofs.Flat.{IsIdeal, Cancels, Within, Flat, Apart, step, total}
use Rattle.exponentials.proofs.Flat as F
use Rattle.exponentials.specs.Table.{alike}

pub alike_true : (m n : ℕ) → alike m n ≡ true → m ≡ n
alike_true zero zero e = refl
alike_true zero (suc n) e = cc
alike_true (suc m) zero e = cc
alike_true (suc m) (suc n) e = ap suc (alike_true m n e)

pub alike_refl : (n : ℕ) → alike n n ≡ true
unfolding power
alike_refl zero = refl
alike_refl (suc n) = alike_refl n

abbrev pub below : ℕ → ℕ
below zero = zero
below (suc n) = n

-- above the degree of each term
abbrev pub bound : {X : Type 0} → (X → ℕ) → List X → ℕ
bound deg [] = 0
bound deg (t ∷ ts) = suc (deg t) + bound deg ts

module _ {A : Type 0} (R : CommRing A) where
  open R use {zero as 𝟘, one as 𝟙, add, mul, neg}

  -- c at the degree 0, and else nothing; and the other way round
  abbrev lowest : ℕ → A → A
  lowest zero c = c
  lowest (suc d) c = 𝟘

  abbrev rest : ℕ → A → A
  rest zero c = 𝟘
  rest (suc d) c = c

  part : (d : ℕ) (c x : A) → mul c (power (operations R) x d) ≡ add (lowest d c)
      (mul x (mul (rest d c) (power (operations R) x (below d))))
  unfolding power
  part zero c x = ring R (c ∷ x ∷ []) (search ring_rules depth 40) refl
  part (suc d) c x = ring R (c ∷ x ∷ power (operations R) x d ∷ []) (search ring_rules depth 40)
      refl

  power-zero : (d : ℕ) (c : A) → mul c (power (operations R) 𝟘 d) ≡ lowest d c
  unfolding power
  power-zero zero c = ring R (c ∷ []) (search ring_rules depth 40) refl
  power-zero (suc d) c = ring R (c ∷ power (operations R) 𝟘 d ∷ []) (search ring_rules depth 40)
      refl

  lowest-is : (d : ℕ) (c : A) → lowest d c ≡ cond (alike d 0) c 𝟘
  lowest-is zero c = refl
  lowest-is (suc d) c = refl

  rest-is : (d a : ℕ) (c : A) → cond (alike (below d) a) (rest d c) 𝟘 ≡ cond (alike d (suc a)) c 𝟘
  rest-is zero zero c = refl
  rest-is zero (suc a) c = refl
  rest-is (suc d) a c = refl

module _ {A : Type 0} (R : CommRing A) (S : A → Type 0) (I : IsIdeal R S) where
  open R use {zero as 𝟘, one as 𝟙, add, mul, neg}

  -- ---- polynomials
  pub flat_times : (m : ℕ) (g : ℕ → A) → Flat R S m g
      → Flat R S (suc m) (λ n. mul (of_nat R n) (g n))
  unfolding power
  flat_times zero g p = F.flat_more R S I zero (λ n. mul (of_nat R n) (g n))
      (λ n. I.mul_in (of_nat R n) (g n) (p n))
  flat_times (suc m) g p =
      F.flat_same R S I (suc m) (λ n. add (mul (of_nat R n) (step R g n)) (g (suc n)))
      (step R (λ n. mul (of_nat R n) (g n)))
      (λ n. ring R (of_nat R n ∷ g n ∷ g (suc n) ∷ []) (search ring_rules depth 40) refl)
      (F.flat_add R S I (suc m) (λ n. mul (of_nat R n) (step R g n)) (λ n. g (suc n))
      (flat_times m (step R g) p) (F.flat_next R S I (suc m) g p))

  pub flat_power : (d : ℕ) (c : A)
      → Flat R S (suc d) (λ n. mul c (power (operations R) (of_nat R n) d))
  unfolding power
  flat_power zero c = λ n. F.moved R S I (ring R (c ∷ []) (search ring_rules depth 40) refl)
      I.zero_in
  flat_power (suc d) c =
      F.flat_same R S I (suc (suc d))
      (λ n. mul (of_nat R n) (mul c (power (operations R) (of_nat R n) d)))
      (λ n. mul c (power (operations R) (of_nat R n) (suc d)))
      (λ n. ring R (of_nat R n ∷ c ∷ power (operations R) (of_nat R n) d ∷ [])
      (search ring_rules depth 40) refl)
      (flat_times (suc d) (λ n. mul c (power (operations R) (of_nat R n) d)) (flat_power d c))

  -- the first value follows from the others
  first : (m : ℕ) (g : ℕ → A) → Flat R S m g → ((n : ℕ) → S (g (suc n))) → S (g 0)
  first zero g p q = p 0
  first (suc m) g p q =
      let d : S (step R g 0) = first m (step R g) p (λ n. F.flat_more R S I zero (λ n. g (suc n)) q
      n) in
      F.moved R S I (ring R (g 0 ∷ g 1 ∷ []) (search ring_rules depth 40) refl)
      (I.add_in (g 1) (neg (step R g 0)) (q 0) (F.neg_in R S I (step R g 0) d))

  module _ {W : Type 0} where
    abbrev pub polynomial : (W → ℕ) → (W → A) → List W → ℕ → A
    polynomial deg c ts n = sum_over (operations R)
        (λ t. mul (c t) (power (operations R) (of_nat R n) (deg t))) ts

    pub flat_polynomial : (deg : W → ℕ) (c : W → A) (ts : List W)
        → Flat R S (bound deg ts) (polynomial deg c ts)
    unfolding sum_over
    flat_polynomial deg c [] = λ n. I.zero_in
    flat_polynomial deg c (t ∷ ts) =
        F.flat_add R S I (bound deg (t ∷ ts))
        (λ n. mul (c t) (power (operations R) (of_nat R n) (deg t))) (polynomial deg c ts)
        (F.flat_le R S I (suc (deg t)) (bound deg (t ∷ ts))
        (λ n. mul (c t) (power (operations R) (of_nat R n) (deg t))) (omega arith)
        (flat_power (deg t) (c t)))
        (F.flat_le R S I (bound deg ts) (bound deg (t ∷ ts)) (polynomial deg c ts) (omega arith)
        (flat_polynomial deg c ts))

    -- a polynomial whose values lie in S has its coefficients in S
    pub coefficients_in : ((n : ℕ) → Cancels R S (of_nat R (suc n))) → (a : ℕ) (deg : W → ℕ) (c : W
        → A) (ts : List W)
        → Within S (polynomial deg c ts)
        → S (sum_over (operations R) (λ t. cond (alike (deg t) a) (c t) 𝟘) ts)
    coefficients_in whole zero deg c ts h =
        F.moved R S I (sum_alike R _ _ ts (λ t. power-zero R (deg t) (c t)
        ∙ lowest-is R (deg t) (c t))) (h 0)
    coefficients_in whole (suc a) deg c ts h =
        let deg' = λ (t : W). below (deg t) in
        let c' = λ (t : W). rest R (deg t) (c t) in
        let g = polynomial deg' c' ts in
        let bottom : S (sum_over (operations R) (λ t. lowest R (deg t) (c t)) ts) =
        F.moved R S I (sum_alike R _ _ ts (λ t. power-zero R (deg t) (c t))) (h 0) in
        let split : (n : ℕ)
        → polynomial deg c ts n ≡ add (sum_over (operations R) (λ t. lowest R (deg t) (c t)) ts)
        (mul (of_nat R n) (g n)) =
        λ n. sum_alike R _ _ ts (λ t. part R (deg t) (c t) (of_nat R n))
        ∙ Sums.sum-add R (λ t. lowest R (deg t) (c t))
        (λ t. mul (of_nat R n) (mul (c' t) (power (operations R) (of_nat R n) (deg' t)))) ts
        ∙ ap (add (sum_over (operations R) (λ t. lowest R (deg t) (c t)) ts))
        (Sums.sum-mul R (of_nat R n)
        (λ t. mul (c' t) (power (operations R) (of_nat R n) (deg' t))) ts) in
        let later : (n : ℕ) → S (g (suc n)) =
        λ n. (whole n).out (g (suc n))
        (F.moved R S I
        (from R (split (suc n)) (ring R (polynomial deg c ts (suc n) ∷ sum_over (operations R)
        (λ t. lowest R (deg t) (c t)) ts ∷ of_nat R n ∷ g (suc n) ∷ [])
        (search ring_rules depth 40) refl))
        (I.add_in (polynomial deg c ts (suc n))
        (neg (sum_over (operations R) (λ t. lowest R (deg t) (c t)) ts)) (h (suc n))
        (F.neg_in R S I (sum_over (operations R) (λ t. lowest R (deg t) (c t)) ts) bottom)))
        in
        let all : Within S g = every g (first (bound deg' ts) g (flat_polynomial deg' c' ts) later)
        later in
        F.moved R S I (sum_alike R _ _ ts (λ t. rest-is R (deg t) a (c t)))
        (coefficients_in whole a deg' c' ts all)
      where
        every : (g : ℕ → A) → S (g 0) → ((n : ℕ) → S (g (suc n))) → Within S g
        every g p q zero = p
        every g p q (suc n) = q n

  -- ---- terms at several numbers
  module _ {W X : Type 0} (E : Test X) (ρ : X → A) (deg : W → ℕ) (key : W → X) (c : W → A) where
    -- the coefficient at x alone
    abbrev pub at : X → W → A
    at x t = cond (E.same x (key t)) (c t) 𝟘

    abbrev pub expo : List W → ℕ → A
    expo ts n = sum_over (operations R)
        (λ t. mul (c t) (mul (power (operations R) (of_nat R n) (deg t))
        (power (operations R) (ρ (key t)) n))) ts

    at_other : (x : X) (t : W) → x ≢ key t → at x t ≡ 𝟘
    at_other x t n = ap (λ b. cond b (c t) 𝟘) (same_false E x (key t) n)

    at_own : (t : W) → at (key t) t ≡ c t
    at_own t = ap (λ b. cond b (c t) 𝟘) (E.same_refl (key t))

    -- the sum by numbers
    grouped : (xs : List X) → Distinct (λ (x : X). x) xs → (ts : List W)
        → Each (λ t. In (key t) xs) ts → (n : ℕ)
        → total R ρ (λ x. polynomial deg (at x) ts) xs n ≡ expo ts n
    grouped xs d ts i n =
        sum_alike R (λ x. mul (power (operations R) (ρ x) n) (polynomial deg (at x) ts n))
        (λ x. sum_over (operations R) (λ t. value x t) ts) xs
        (λ x. sym (Sums.sum-mul R (power (operations R) (ρ x) n)
        (λ t. mul (at x t) (power (operations R) (of_nat R n) (deg t))) ts))
        ∙ Sums.sum_swap R value xs ts
        ∙ sum_same R (λ t. sum_over (operations R) (λ x. value x t) xs)
        (λ t. mul (c t) (mul (power (operations R) (of_nat R n) (deg t))
        (power (operations R) (ρ (key t)) n))) ts
        (each_map ts (λ t j. pick R (λ (x : X). x) (λ x. value x t) xs (key t) d j (λ y ne.
        none y t (at_other y t ne)) ∙ own t) i)
      where
        value : X → W → A
        value x t = mul (power (operations R) (ρ x) n)
            (mul (at x t) (power (operations R) (of_nat R n) (deg t)))

        none : (x : X) (t : W) → at x t ≡ 𝟘 → value x t ≡ 𝟘
        none x t e =
            ap (λ z. mul (power (operations R) (ρ x) n)
            (mul z (power (operations R) (of_nat R n) (deg t)))) e
            ∙ ring R (power (operations R) (ρ x) n ∷ power (operations R) (of_nat R n) (deg t) ∷ [])
            (search ring_rules depth 40) refl

        own : (t : W) → value (key t) t ≡ mul (c t) (mul (power (operations R) (of_nat R n) (deg t))
            (power (operations R) (ρ (key t)) n))
        own t = ap (λ z. mul (power (operations R) (ρ (key t)) n)
            (mul z (power (operations R) (of_nat R n) (deg t)))) (at_own t)
            ∙ ring R (power (operations R) (ρ (key t)) n ∷ power (operations R) (of_nat R n) (deg t)
            ∷ c t ∷ []) (search ring_rules depth 40) refl

    apart_from : (xs : List X) → Distinct (λ (x : X). x) xs → ((x y : X) → In x xs → In y xs → x ≢ y
        → Cancels R S (add (ρ x) (neg (ρ y)))) → Apart R S ρ xs
    apart_from [] d h = tt
    apart_from (x ∷ xs) d h = (
      each_from xs (λ y i. h y x (inr i) (inl refl) (each_in (λ y. y ≢ x) xs y d.0 i)),
      apart_from xs d.1 (λ y z i j. h y z (inr i) (inr j)),
    )

    -- where all values lie in S, so does the sum of the coefficients at each number and degree
    pub expo_in : (keys : List X) (ts : List W) → Each (λ t. In (key t) keys) ts
        → ((n : ℕ) → Cancels R S (of_nat R (suc n)))
        → ((x : X) → Cancels R S (ρ x))
        → ((x y : X) → In x keys → In y keys → x ≢ y → Cancels R S (add (ρ x) (neg (ρ y))))
        → Within S (expo ts)
        → (x : X) → In x keys → (a : ℕ)
        → S (sum_over (operations R) (λ t. cond (alike (deg t) a) (at x t) 𝟘) ts)
    expo_in keys ts k whole unit apart h x i a =
        let xs = once E keys in
        let d : Distinct (λ (x : X). x) xs = once-distinct E keys in
        let parts : Each (λ x. Within S (polynomial deg (at x) ts)) xs =
        F.independent R S I ρ unit (bound deg ts) xs
        (apart_from xs d (λ y z j k. apart y z (once-out E keys y j) (once-out E keys z k)))
        (λ x. polynomial deg (at x) ts) (λ x. flat_polynomial deg (at x) ts)
        (λ n. F.moved R S I (sym (grouped xs d ts (each_map ts (λ t j. once-in E keys (key t) j) k)
        n)) (h n)) in
        coefficients_in whole a deg (at x) ts (each_in (λ x. Within S (polynomial deg (at x) ts)) xs
        x parts (once-in E keys x i))
