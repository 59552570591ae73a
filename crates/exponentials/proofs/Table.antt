-- The recurrence y(n+1) = λ y(n) + n^a σ^n with y(0) = 0, solved by a triangular system of equations.
--   choose_same, choose_next     the binomial coefficients of n and n, and of n + 1 and n
--   each_number      what holds of the n numbers from lo on holds of each in their list
--   table_other, table_equal     the table's numbers give the solution, where σ is not λ and where it is
use Rattle.std.proofs.Common.{◌≡◌, ◌≢◌, Bool, true, false, cond, ℕ, zero, suc, ◌+◌, ◌-◌, ◌<◌, ◌≤◌, [], ◌∷◌, refl, sym, ap, ap₂, ◌∙◌, arith}
use Rattle.algebra.specs.Each.{Each}
use native.Mathlib.Nat as N
use Rattle.algebra.specs.Arithmetic.{power}
use Rattle.algebra.specs.Ring.{CommRing, Field, operations, of_nat}
use Rattle.algebra.specs.Sum.{sum_over}
use Rattle.algebra.proofs.RingLaws as L
use Rattle.algebra.proofs.OfInt.{of_nat-add}
use Rattle.algebra.proofs.RingSolver.{ring_rules, ring, from_one, from_two}
use Rattle.algebra.proofs.Sums as Sums
use Rattle.exponentials.proofs.Lists.{sum_same, sum_alike, sum_none}
use Rattle.exponentials.proofs.Terms.{alike_true, alike_refl}
use Rattle.exponentials.proofs.Expo.{IsChar0}
use Rattle.exponentials.specs.Table as T
use Rattle.exponentials.specs.Table.{alike, choose, numbers}

pub choose_none : (n k : ℕ) → n < k → choose n k ≡ 0
choose_none n zero h = absurd (omega arith)
choose_none zero (suc k) h = refl
choose_none (suc n) (suc k) h = let p : choose n k ≡ 0 = choose_none n k (omega arith) in
    let q : choose n (suc k) ≡ 0 = choose_none n (suc k) (omega arith) in omega arith

pub choose_same : (n : ℕ) → choose n n ≡ 1
choose_same zero = refl
choose_same (suc n) = let p : choose n n ≡ 1 = choose_same n in let q : choose n (suc n) ≡ 0 =
    choose_none n (suc n) (omega arith) in omega arith

pub choose_next : (n : ℕ) → choose (suc n) n ≡ suc n
unfolding Each
choose_next zero = refl
choose_next (suc n) = let p : choose (suc n) n ≡ suc n = choose_next n in
    let q : choose (suc n) (suc n) ≡ 1 = choose_same (suc n) in omega arith

pub each_number : (P : ℕ → Type 0) (lo n : ℕ) → ((i : ℕ) → lo ≤ i → i < lo + n → P i)
    → Each P (numbers lo n)
unfolding Each
each_number P lo zero h = tt
each_number P lo (suc n) h = (
  h lo (omega arith) (omega arith),
  each_number P (suc lo) n (λ i l g.
      h i (omega arith) (omega arith)),
)

module _ {A : Type 0} (R : CommRing A) where
  open R use {zero as 𝟘, one as 𝟙, add, mul, neg}

  abbrev sum_numbers : (ℕ → A) → ℕ → ℕ → A
  sum_numbers = T.sum_numbers R

  abbrev delta : ℕ → ℕ → A
  delta = T.delta R

  abbrev value : ℕ → (ℕ → A) → A → A
  value = T.value R

  abbrev weighed : (ℕ → A) → ℕ → ℕ → A
  weighed = T.binomial_term R

  abbrev above : ℕ → (ℕ → A) → ℕ → A
  above = T.above R

  abbrev other_form : A → A → ℕ → (ℕ → A) → ℕ → A
  other_form = T.other_form R

  abbrev equal_form : A → ℕ → (ℕ → A) → ℕ → A
  equal_form = T.equal_form R

  pub sum_later : (f : ℕ → A) (lo n : ℕ) → sum_numbers f (suc lo) n ≡ sum_numbers (λ i. f (suc i))
      lo n
  unfolding sum_over
  sum_later f lo zero = refl
  sum_later f lo (suc n) = ap (add (f (suc lo))) (sum_later f (suc lo) n)

  pub sum_last : (f : ℕ → A) (lo n : ℕ) → sum_numbers f lo (suc n) ≡ add (sum_numbers f lo n)
      (f (lo + n))
  unfolding sum_over
  sum_last f lo zero = R.add_comm (f lo) 𝟘 ∙ ap (λ i. add 𝟘 (f i)) (sym (N.add-zero lo))
  sum_last f lo (suc n) =
      ap (add (f lo)) (sum_last f (suc lo) n)
      ∙ sym (R.add_assoc (f lo) (sum_numbers f (suc lo) n) (f (suc lo + n)))
      ∙ ap (λ i. add (add (f lo) (sum_numbers f (suc lo) n)) (f i)) (let e : suc lo + n ≡ lo
      + suc n = omega arith in e)

  -- what comes before is zero
  pub sum_skip : (f : ℕ → A) (k lo n m : ℕ) → m ≡ k + n → ((i : ℕ) → i < lo + k → f i ≡ 𝟘)
      → sum_numbers f lo m ≡ sum_numbers f (lo + k) n
  unfolding sum_over
  sum_skip f zero lo n m e h = ap₂ (sum_numbers f) (sym (N.add-zero lo)) (e ∙ N.zero-add n)
  sum_skip f (suc k) lo n zero e h = absurd (omega arith)
  sum_skip f (suc k) lo n (suc m) e h =
      ap₂ add (h lo (omega arith)) (sum_skip f k (suc lo) n m (omega arith) (λ i l.
      h i (omega arith))) ∙ L.zero-add R (sum_numbers f (suc lo + k) n)
      ∙ ap (λ i. sum_numbers f i n) (let e : suc lo + k ≡ lo + suc k = omega arith in e)

  delta_none : (i a : ℕ) → i < a → delta i a ≡ 𝟘
  delta_none i a h = go (alike i a) refl
    where
      go : (b : Bool) → alike i a ≡ b → cond b 𝟙 𝟘 ≡ 𝟘
      go true e = let p : i ≡ a = alike_true i a e in absurd (omega arith)
      go false e = refl

  delta_own : (a : ℕ) → delta a a ≡ 𝟙
  delta_own a = ap (λ b. cond b 𝟙 𝟘) (alike_refl a)

  only : (a : ℕ) (c x : A) → sum_numbers (λ i. mul (mul (delta i a) c) (power (operations R) x i)) 0
      (suc a) ≡ mul c (power (operations R) x a)
  only a c x =
      sum_last (λ i. mul (mul (delta i a) c) (power (operations R) x i)) 0 a
      ∙ ap₂ add
      (sum_none R (λ i. mul (mul (delta i a) c) (power (operations R) x i)) (numbers 0 a)
      (each_number _ 0 a (λ i l h. ap (λ z. mul (mul z c) (power (operations R) x i))
      (delta_none i a (omega arith)) ∙ ring R (c ∷ power (operations R) x i ∷ [])
      (search ring_rules depth 40) refl)))
      (ap (λ i. mul (mul (delta i a) c) (power (operations R) x i)) (N.zero-add a)
      ∙ ap (λ z. mul (mul z c) (power (operations R) x a)) (delta_own a))
      ∙ ring R (c ∷ power (operations R) x a ∷ []) (search ring_rules depth 40) refl

  -- ---- the binomial theorem
  abbrev row : A → ℕ → ℕ → A
  row x j i = mul (of_nat R (choose j i)) (power (operations R) x i)

  pub binomial : (x : A) (j d : ℕ) → j ≤ d → power (operations R) (add 𝟙 x) j
      ≡ sum_numbers (row x j) 0 (suc d)
  unfolding power sum_over
  binomial x zero d h =
      sym (ap (add (mul (add 𝟙 𝟘) 𝟙)) (sum_none R (row x 0) (numbers 1 d)
      (each_number _ 1 d (λ i l g. zero_row i l))) ∙ ring R [] (search ring_rules depth 40)
      refl)
    where
      zero_row : (i : ℕ) → 1 ≤ i → row x 0 i ≡ 𝟘
      zero_row zero l = absurd (omega arith)
      zero_row (suc i) l = L.zero-mul R (power (operations R) x (suc i))
  binomial x (suc j) zero h = absurd (omega arith)
  binomial x (suc j) (suc d) h =
      let below = sum_numbers (row x j) 0 (suc d) in
      let b : power (operations R) (add 𝟙 x) j ≡ below = binomial x j d (omega arith) in
      let c : power (operations R) (add 𝟙 x) j ≡ sum_numbers (row x j) 0 (suc (suc d)) =
      binomial x j (suc d) (omega arith) in
      let shifted : sum_numbers (row x (suc j)) 1 (suc d) ≡ add (mul x below)
      (sum_numbers (row x j) 1 (suc d)) =
      sum_later (row x (suc j)) 0 (suc d)
      ∙ sum_alike R (λ i. row x (suc j) (suc i)) (λ i. add (mul x (row x j i)) (row x j (suc i)))
      (numbers 0 (suc d))
      (λ i. ap (λ z. mul z (power (operations R) x (suc i)))
      (of_nat-add R (choose j i) (choose j (suc i)))
      ∙ ring R (of_nat R (choose j i) ∷ of_nat R (choose j (suc i)) ∷ x ∷ power (operations R) x i
      ∷ []) (search ring_rules depth 40) refl)
      ∙ Sums.sum-add R (λ i. mul x (row x j i)) (λ i. row x j (suc i)) (numbers 0 (suc d))
      ∙ ap₂ add (Sums.sum-mul R x (row x j) (numbers 0 (suc d)))
      (sym (sum_later (row x j) 0 (suc d))) in
      finish x (power (operations R) (add 𝟙 x) j) below (sum_numbers (row x j) 1 (suc d))
      (mul (add 𝟙 𝟘) 𝟙) (sum_numbers (row x (suc j)) 1 (suc d)) b c shifted
    where
      finish : (x p b t r s : A) → p ≡ b → p ≡ add r t → s ≡ add (mul x b) t
          → mul (add 𝟙 x) p ≡ add r s
      finish x p b t r s h g k =
          from_two R 𝟙 g x h (ring R (x ∷ p ∷ b ∷ t ∷ r ∷ []) (search ring_rules depth 40) refl)
          ∙ ap (add r) (sym k)

  -- ---- a polynomial at one more
  -- the coefficients at one more, and their parts from higher degrees
  abbrev pub mixed : ℕ → (ℕ → A) → ℕ → A
  mixed d q i = sum_numbers (weighed q i) 0 (suc d)

  pub value-next : (d : ℕ) (q : ℕ → A) (x : A) → value d q (add 𝟙 x) ≡ sum_numbers
      (λ i. mul (mixed d q i) (power (operations R) x i)) 0 (suc d)
  value-next d q x =
      sum_same R (λ j. mul (q j) (power (operations R) (add 𝟙 x) j)) (λ j. sum_over (operations R)
      (λ i. cell j i) (numbers 0 (suc d))) (numbers 0 (suc d))
      (each_number _ 0 (suc d) (λ j l h. ap (mul (q j)) (binomial x j d (omega arith))
      ∙ sym (Sums.sum-mul R (q j) (row x j) (numbers 0 (suc d)))))
      ∙ Sums.sum_swap R cell (numbers 0 (suc d)) (numbers 0 (suc d))
      ∙ sum_alike R (λ i. sum_over (operations R) (λ j. cell j i) (numbers 0 (suc d)))
      (λ i. mul (mixed d q i) (power (operations R) x i)) (numbers 0 (suc d))
      (λ i. sum_alike R (λ j. cell j i) (λ j. mul (power (operations R) x i) (weighed q i j))
      (numbers 0 (suc d)) (λ j. iteration (q j) (of_nat R (choose j i)) (power (operations R) x i))
      ∙ Sums.sum-mul R (power (operations R) x i) (weighed q i) (numbers 0 (suc d))
      ∙ R.mul_comm (power (operations R) x i) (mixed d q i))
    where
      cell : ℕ → ℕ → A
      cell j i = mul (q j) (row x j i)

      iteration : (a b c : A) → mul a (mul b c) ≡ mul c (mul b a)
      iteration a b c = ring R (a ∷ b ∷ c ∷ []) (search ring_rules depth 40) refl

  one-times : (a : A) → mul (add 𝟙 𝟘) a ≡ a
  one-times a = ring R (a ∷ []) (search ring_rules depth 40) refl

  pub mixed-is : (d : ℕ) (q : ℕ → A) (i : ℕ) → i ≤ d → mixed d q i ≡ add (q i) (above d q i)
  unfolding sum_over
  mixed-is d q i h =
      sum_skip (weighed q i) i 0 (suc (d - i)) (suc d) (omega arith) (λ j l.
      ap (λ z. mul (of_nat R z) (q j)) (choose_none j i (omega arith)) ∙ L.zero-mul R (q j))
      ∙ ap (λ z. sum_numbers (weighed q i) z (suc (d - i))) (N.zero-add i)
      ∙ ap (λ z. add z (above d q i)) (ap (λ z. mul (of_nat R z) (q i)) (choose_same i)
      ∙ one-times (q i))

  power-zero : (q : ℕ → A) (i : ℕ) → 1 ≤ i → mul (q i) (power (operations R) 𝟘 i) ≡ 𝟘
  unfolding power
  power-zero q zero h = absurd (omega arith)
  power-zero q (suc i) h = ring R (q (suc i) ∷ power (operations R) 𝟘 i ∷ [])
      (search ring_rules depth 40) refl

  pub value-zero : (d : ℕ) (q : ℕ → A) → value d q 𝟘 ≡ q 0
  unfolding power sum_over
  value-zero d q = ap (add (mul (q 0) 𝟙)) (sum_none R (λ i. mul (q i) (power (operations R) 𝟘 i))
      (numbers 1 d) (each_number _ 1 d (λ i l h. power-zero q i l)))
      ∙ ring R (q 0 ∷ []) (search ring_rules depth 40) refl

  -- ---- the numbers σ and λ are different
  abbrev pub Other : A → A → ℕ → (ℕ → A) → Type 0
  Other σ l a q = (i : ℕ) → i ≤ a → mul (add σ (neg l)) (q i) ≡ add (delta i a)
      (neg (mul σ (above a q i)))

  pub other-value : (σ l : A) (a : ℕ) (q : ℕ → A) → Other σ l a q → (x : A)
      → add (mul σ (value a q (add 𝟙 x))) (neg (mul l (value a q x))) ≡ power (operations R) x a
  other-value σ l a q h x =
      ap₂ add (ap (mul σ) (value-next a q x)
      ∙ sym (Sums.sum-mul R σ (λ i. mul (mixed a q i) (power (operations R) x i))
      (numbers 0 (suc a))))
      (sym (L.neg-mul R l (value a q x))
      ∙ sym (Sums.sum-mul R (neg l) (λ i. mul (q i) (power (operations R) x i))
      (numbers 0 (suc a))))
      ∙ sym (Sums.sum-add R (λ i. mul σ (mul (mixed a q i) (power (operations R) x i)))
      (λ i. mul (neg l) (mul (q i) (power (operations R) x i))) (numbers 0 (suc a)))
      ∙ sum_same R (λ i. add (mul σ (mul (mixed a q i) (power (operations R) x i)))
      (mul (neg l) (mul (q i) (power (operations R) x i))))
      (λ i. mul (mul (delta i a) 𝟙) (power (operations R) x i)) (numbers 0 (suc a))
      (each_number _ 0 (suc a) (λ i k g. here (mixed a q i) (q i) (above a q i) (delta i a)
      (power (operations R) x i) (mixed-is a q i (omega arith)) (h i (omega arith))))
      ∙ only a 𝟙 x ∙ L.one-mul R (power (operations R) x a)
    where
      here : (m c u d p : A) → m ≡ add c u → mul (add σ (neg l)) c ≡ add d (neg (mul σ u))
          → add (mul σ (mul m p)) (mul (neg l) (mul c p)) ≡ mul (mul d 𝟙) p
      here m c u d p e f = from_two R (mul σ p) e p f (ring R (σ ∷ l ∷ m ∷ c ∷ u ∷ d ∷ p ∷ [])
          (search ring_rules depth 40) refl)

  pub other-zero : (σ l : A) (a : ℕ) (q : ℕ → A) → other_form σ l a q 0 ≡ 𝟘
  unfolding power
  other-zero σ l a q = ap (λ z. add (mul z 𝟙) (neg (mul (q 0) 𝟙))) (value-zero a q)
      ∙ ring R (q 0 ∷ []) (search ring_rules depth 40) refl

  pub other-next : (σ l : A) (a : ℕ) (q : ℕ → A) → Other σ l a q → (n : ℕ)
      → other_form σ l a q (suc n) ≡ add (mul l (other_form σ l a q n))
      (mul (power (operations R) (of_nat R n) a) (power (operations R) σ n))
  unfolding power
  other-next σ l a q h n = step (value a q (add 𝟙 (of_nat R n))) (value a q (of_nat R n))
      (power (operations R) (of_nat R n) a) (power (operations R) σ n) (power (operations R) l n)
      (q 0) (other-value σ l a q h (of_nat R n))
    where
      step : (v w p s t c : A) → add (mul σ v) (neg (mul l w)) ≡ p
          → add (mul v (mul σ s)) (neg (mul c (mul l t)))
          ≡ add (mul l (add (mul w s) (neg (mul c t)))) (mul p s)
      step v w p s t c e = from_one R s e (ring R (σ ∷ l ∷ v ∷ w ∷ p ∷ s ∷ t ∷ c ∷ [])
          (search ring_rules depth 40) refl)

  -- ---- the same number; k is one over it
  abbrev pub Equal : A → ℕ → (ℕ → A) → Type 0
  Equal k a q = (i : ℕ) → i ≤ a → mul (of_nat R (suc i)) (q (suc i)) ≡ add (mul (delta i a) k)
      (neg (sum_numbers (weighed q i) (suc (suc i)) (a - i)))

  equal-above : (k : A) (a : ℕ) (q : ℕ → A) → Equal k a q → (i : ℕ) → i ≤ a
      → above (suc a) q i ≡ mul (delta i a) k
  unfolding sum_over
  equal-above k a q h i l =
      ap (sum_numbers (weighed q i) (suc i)) (let e : suc a - i ≡ suc (a - i) = omega arith in e)
      ∙ ap (λ z. add z (sum_numbers (weighed q i) (suc (suc i)) (a - i)))
      (ap (λ z. mul (of_nat R z) (q (suc i))) (choose_next i) ∙ h i l)
      ∙ undo (mul (delta i a) k) (sum_numbers (weighed q i) (suc (suc i)) (a - i))
    where
      undo : (x y : A) → add (add x (neg y)) y ≡ x
      undo x y = ring R (x ∷ y ∷ []) (search ring_rules depth 40) refl

  equal-top : (k : A) (a : ℕ) (q : ℕ → A) → above (suc a) q (suc a) ≡ 𝟘
  unfolding sum_over
  equal-top k a q = ap (sum_numbers (weighed q (suc a)) (suc (suc a))) (let e : suc a - suc a ≡ 0 =
      omega arith in e)

  pub equal-value : (k : A) (a : ℕ) (q : ℕ → A) → Equal k a q → (x : A)
      → add (value (suc a) q (add 𝟙 x)) (neg (value (suc a) q x)) ≡ mul k (power (operations R) x a)
  equal-value k a q h x =
      ap₂ add (value-next (suc a) q x) (minus (value (suc a) q x)
      ∙ sym (Sums.sum-mul R (neg 𝟙) (λ i. mul (q i) (power (operations R) x i))
      (numbers 0 (suc (suc a)))))
      ∙ sym (Sums.sum-add R (λ i. mul (mixed (suc a) q i) (power (operations R) x i))
      (λ i. mul (neg 𝟙) (mul (q i) (power (operations R) x i))) (numbers 0 (suc (suc a))))
      ∙ sum_same R (λ i. add (mul (mixed (suc a) q i) (power (operations R) x i))
      (mul (neg 𝟙) (mul (q i) (power (operations R) x i))))
      (λ i. mul (above (suc a) q i) (power (operations R) x i)) (numbers 0 (suc (suc a)))
      (each_number _ 0 (suc (suc a)) (λ i l g. here (mixed (suc a) q i) (q i) (above (suc a) q i)
      (power (operations R) x i) (mixed-is (suc a) q i (omega arith))))
      ∙ sum_last (λ i. mul (above (suc a) q i) (power (operations R) x i)) 0 (suc a)
      ∙ ap₂ add
      (sum_same R (λ i. mul (above (suc a) q i) (power (operations R) x i))
      (λ i. mul (mul (delta i a) k) (power (operations R) x i)) (numbers 0 (suc a))
      (each_number _ 0 (suc a) (λ i l g. ap (λ z. mul z (power (operations R) x i))
      (equal-above k a q h i (omega arith)))) ∙ only a k x)
      (ap (λ i. mul (above (suc a) q i) (power (operations R) x i)) (N.zero-add (suc a))
      ∙ ap (λ z. mul z (power (operations R) x (suc a))) (equal-top k a q)
      ∙ L.zero-mul R (power (operations R) x (suc a)))
      ∙ R.add-zero (mul k (power (operations R) x a))
    where
      minus : (v : A) → neg v ≡ mul (neg 𝟙) v
      minus v = ring R (v ∷ []) (search ring_rules depth 40) refl

      here : (m c u p : A) → m ≡ add c u → add (mul m p) (mul (neg 𝟙) (mul c p)) ≡ mul u p
      here m c u p e = from_one R p e (ring R (m ∷ c ∷ u ∷ p ∷ []) (search ring_rules depth 40)
          refl)

  pub equal-zero : (l : A) (a : ℕ) (q : ℕ → A) → q 0 ≡ 𝟘 → equal_form l a q 0 ≡ 𝟘
  unfolding power
  equal-zero l a q e = ap (λ z. mul z 𝟙) (value-zero (suc a) q ∙ e) ∙ L.zero-mul R 𝟙

  pub equal-next : (l k : A) → mul l k ≡ 𝟙 → (a : ℕ) (q : ℕ → A) → Equal k a q → (n : ℕ)
      → equal_form l a q (suc n) ≡ add (mul l (equal_form l a q n))
      (mul (power (operations R) (of_nat R n) a) (power (operations R) l n))
  unfolding power
  equal-next l k e a q h n = step (value (suc a) q (add 𝟙 (of_nat R n)))
      (value (suc a) q (of_nat R n)) (power (operations R) (of_nat R n) a)
      (power (operations R) l n) (equal-value k a q h (of_nat R n))
    where
      step : (v w p s : A) → add v (neg w) ≡ mul k p → mul v (mul l s) ≡ add (mul l (mul w s))
          (mul p s)
      step v w p s f = from_two R (mul l s) f (mul p s) e (ring R (l ∷ k ∷ v ∷ w ∷ p ∷ s ∷ [])
          (search ring_rules depth 40) refl)

-- ---- the table over a field of characteristic 0
module _ {K : Type 0} (F : Field K) (char : IsChar0 F) where
  abbrev R : CommRing K
  R = F.ring

  undivide : (d c r : K) → d ≢ F.zero → c ≡ F.mul r (F.inverse d) → F.mul d c ≡ r
  undivide d c r ne e = from_two R d e r (F.mul-inverse d ne) (ring R (d ∷ c ∷ r ∷ F.inverse d ∷ [])
      (search ring_rules depth 40) refl)

  pub table_other : (σ l : K) → σ ≢ l → (a : ℕ) (q : ℕ → K) → T.IsOther F σ l a q
      → T.Solves F σ l a (T.other_form R σ l a q)
  table_other σ l ne a q h = record {
    start = other-zero R σ l a q;
    next = other-next R σ l a q (λ i k. undivide (F.add σ (F.neg l)) (q i)
        (F.add (T.delta R i a) (F.neg (F.mul σ (T.above R a q i))))
        (λ e. ne (L.eq_of_sub F.ring σ l e)) (h i k));
  }

  pub table_equal : (l : K) → l ≢ F.zero → (a : ℕ) (q : ℕ → K) → T.IsEqual F l a q
      → T.Solves F l l a (T.equal_form R l a q)
  table_equal l ne a q h = record {
    start = equal-zero R l a q h.first;
    next = equal-next R l (F.inverse l) (F.mul-inverse l ne) a q
        (λ i k. undivide (of_nat R (suc i)) (q (suc i)) (F.add (F.mul (T.delta R i a) (F.inverse l))
        (F.neg (T.sum_numbers R (T.binomial_term R q i) (suc (suc i)) (a - i)))) (char.whole i)
        (h.next i k));
  }
