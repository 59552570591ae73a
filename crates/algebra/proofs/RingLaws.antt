-- What follows from the laws of a commutative ring: laws on the other side, cancellation, opposites, powers.
--   zero-add, one-mul, add-mul     zero and one in front, and products of sums
--   zero-mul, mul-zero     a product with zero
--   add_cancel        a term cancels: b = c where a + b = a + c
--   neg-add_self      -a + a = 0
--   neg-zero, neg-neg, neg-add, neg-mul, mul-neg     the opposites of zero, of an opposite, of a sum, and of a product by either factor
--   minus_squared     (-1) (-1) = 1
--   eq_of_sub         two numbers whose difference is zero are the same
--   left_of_sum       one part of a sum is the sum less the other
--   add_left_comm       a + (b + c) = b + (a + c); mul_left_comm likewise
--   mul_right_comm    (a b) c = (a c) b
--   add_rotate          (a + b) + c = (c + a) + b; mul_rotate likewise
--   add_swap          (a + b) + (c + d) = (a + c) + (b + d); mul_swap likewise
--   mul_sub           t x - t y = t (x - y)
--   swap_multiple     k x + v = (k y + v) + k (x - y)
--   power-zero, power-suc     the powers by 0 and by one more
--   power-add         the power of a sum of exponents
use Rattle.std.proofs.Common.{◌≡◌, ℕ, zero, suc, ◌+◌, zero-add as zero-add_ℕ, suc-add, refl, sym, ap, ◌∙◌}
use Rattle.algebra.specs.Ring.{operations, CommRing}
use Rattle.algebra.specs.Arithmetic.{power}

module _ {A : Type 0} (R : CommRing A) where
  open R use {zero as 𝟘, one as 𝟙, add as ◌⊕◌, mul as ◌⊗◌, neg}

  infixl 60 ◌⊕◌
  infixl 70 ◌⊗◌
  pub zero-add : (a : A) → 𝟘 ⊕ a ≡ a
  zero-add a = R.add_comm _ _ ∙ R.add-zero a

  pub one-mul : (a : A) → 𝟙 ⊗ a ≡ a
  one-mul a = R.mul_comm _ _ ∙ R.mul-one a

  pub add_left_comm : (a b c : A) → a ⊕ (b ⊕ c) ≡ b ⊕ (a ⊕ c)
  add_left_comm a b c = sym (R.add_assoc a b c) ∙ ap (λ x. x ⊕ c) (R.add_comm a b)
      ∙ R.add_assoc b a c

  pub mul_left_comm : (a b c : A) → a ⊗ (b ⊗ c) ≡ b ⊗ (a ⊗ c)
  mul_left_comm a b c = sym (R.mul_assoc a b c) ∙ ap (λ x. x ⊗ c) (R.mul_comm a b)
      ∙ R.mul_assoc b a c

  pub mul_right_comm : (a b c : A) → (a ⊗ b) ⊗ c ≡ (a ⊗ c) ⊗ b
  mul_right_comm a b c = R.mul_assoc a b c ∙ ap (λ x. a ⊗ x) (R.mul_comm b c)
      ∙ sym (R.mul_assoc a c b)

  pub add_rotate : (a b c : A) → a ⊕ b ⊕ c ≡ c ⊕ a ⊕ b
  add_rotate a b c = R.add_comm (a ⊕ b) c ∙ sym (R.add_assoc c a b)

  pub mul_rotate : (a b c : A) → a ⊗ b ⊗ c ≡ c ⊗ a ⊗ b
  mul_rotate a b c = R.mul_comm (a ⊗ b) c ∙ sym (R.mul_assoc c a b)

  pub add-mul : (a b c : A) → (a ⊕ b) ⊗ c ≡ a ⊗ c ⊕ b ⊗ c
  add-mul a b c = R.mul_comm _ _ ∙ R.mul-add c a b ∙ simp (R.mul_comm c)

  pub neg-add_self : (a : A) → neg a ⊕ a ≡ 𝟘
  neg-add_self a = R.add_comm _ _ ∙ R.add-neg a

  pub add_cancel : (a b c : A) → a ⊕ b ≡ a ⊕ c → b ≡ c
  add_cancel a b c e =
      sym (zero-add b) ∙ ap (λ x. x ⊕ b) (sym (neg-add_self a)) ∙ R.add_assoc _ _ _
      ∙ ap (λ x. neg a ⊕ x) e
      ∙ sym (R.add_assoc _ _ _) ∙ ap (λ x. x ⊕ c) (neg-add_self a) ∙ zero-add c

  pub mul-zero : (a : A) → a ⊗ 𝟘 ≡ 𝟘
  mul-zero a = add_cancel (a ⊗ 𝟘) _ _ (sym (R.mul-add a 𝟘 𝟘) ∙ simp R.add-zero)

  pub zero-mul : (a : A) → 𝟘 ⊗ a ≡ 𝟘
  zero-mul a = R.mul_comm _ _ ∙ mul-zero a

  -- b is a's negation
  pub neg_unique : (a b : A) → a ⊕ b ≡ 𝟘 → b ≡ neg a
  neg_unique a b e = add_cancel a b (neg a) (e ∙ sym (R.add-neg a))

  pub neg-zero : neg 𝟘 ≡ 𝟘
  neg-zero = sym (neg_unique 𝟘 𝟘 (R.add-zero 𝟘))

  pub neg-neg : (a : A) → neg (neg a) ≡ a
  neg-neg a = sym (neg_unique (neg a) a (neg-add_self a))

  pub neg-add : (a b : A) → neg (a ⊕ b) ≡ neg a ⊕ neg b
  neg-add a b =
      sym (neg_unique (a ⊕ b) (neg a ⊕ neg b) (simp (
        R.add_assoc,
        add_left_comm b (neg a),
        R.add-neg,
        R.add-zero,
      )))

  pub mul-neg : (a b : A) → a ⊗ neg b ≡ neg (a ⊗ b)
  mul-neg a b = neg_unique (a ⊗ b) (a ⊗ neg b) (sym (R.mul-add a b (neg b))
      ∙ simp (R.add-neg, mul-zero))

  pub neg-mul : (a b : A) → neg a ⊗ b ≡ neg (a ⊗ b)
  neg-mul a b = R.mul_comm _ _ ∙ mul-neg b a ∙ ap neg (R.mul_comm b a)

  pub minus_squared : neg 𝟙 ⊗ neg 𝟙 ≡ 𝟙
  minus_squared = neg-mul 𝟙 (neg 𝟙) ∙ ap neg (one-mul (neg 𝟙)) ∙ neg-neg 𝟙

  -- two numbers whose difference is zero
  pub eq_of_sub : (a b : A) → a ⊕ neg b ≡ 𝟘 → a ≡ b
  eq_of_sub a b e = add_cancel (neg b) a b (R.add_comm _ _ ∙ e ∙ sym (neg-add_self b))

  -- one part of a sum is the sum less the other
  pub left_of_sum : (a b c : A) → a ≡ b ⊕ c → c ≡ a ⊕ neg b
  left_of_sum a b c e = sym (ap (λ x. x ⊕ neg b) (e ∙ R.add_comm b c) ∙ R.add_assoc c b (neg b)
      ∙ ap (λ x. c ⊕ x) (R.add-neg b) ∙ R.add-zero c)

  -- (a + b) + (c + d) = (a + c) + (b + d), and the same for products
  pub add_swap : (a b c d : A) → (a ⊕ b) ⊕ (c ⊕ d) ≡ (a ⊕ c) ⊕ (b ⊕ d)
  add_swap a b c d = simp (R.add_assoc, add_left_comm b c)

  pub mul_swap : (a b c d : A) → (a ⊗ b) ⊗ (c ⊗ d) ≡ (a ⊗ c) ⊗ (b ⊗ d)
  mul_swap a b c d = simp (R.mul_assoc, mul_left_comm b c)

module _ {A : Type 0} (R : CommRing A) where
  open R use {one as 𝟙, mul as ◌⊗◌}

  infixl 70 ◌⊗◌
  pub power-zero : (x : A) → power (operations R) x zero ≡ 𝟙
  unfolding power
  power-zero x = refl

  pub power-suc : (x : A) (n : ℕ) → power (operations R) x (suc n) ≡ x ⊗ power (operations R) x n
  unfolding power
  power-suc x n = refl

  pub power-add : (x : A) (m n : ℕ) → power (operations R) x (m + n) ≡ power (operations R) x m ⊗
      power (operations R) x n
  power-add x zero n = simp (zero-add_ℕ, power-zero, one-mul R)
  power-add x (suc m) n = simp (suc-add, power-suc, power-add x m n, R.mul_assoc)

module _ {A : Type 0} (R : CommRing A) where
  open R use {zero as 𝟘, one as 𝟙, add as ◌⊕◌, mul as ◌⊗◌, neg}

  infixl 60 ◌⊕◌
  infixl 70 ◌⊗◌
  pub mul_sub : (t x y : A) → t ⊗ x ⊕ neg (t ⊗ y) ≡ t ⊗ (x ⊕ neg y)
  mul_sub t x y = ap (λ z. t ⊗ x ⊕ z) (sym (mul-neg R t y)) ∙ sym (R.mul-add t x (neg y))

  pub swap_multiple : (k x y v : A) → k ⊗ x ⊕ v ≡ (k ⊗ y ⊕ v) ⊕ k ⊗ (x ⊕ neg y)
  swap_multiple k x y v = sym (
      ap (λ r. (k ⊗ y ⊕ v) ⊕ r) (R.mul-add k x (neg y) ∙ R.add_comm _ _) ∙ add_swap R _ _ _ _
      ∙ ap (λ r. (k ⊗ y ⊕ r) ⊕ (v ⊕ k ⊗ x)) (mul-neg R k y)
      ∙ simp (R.add-neg, zero-add R) (R.add_comm _ _))
