-- The rows of the table: sums with binomial coefficients, which the code adds up place by place, and what is past in them.
--   numbers-push             one place more
--   sum_first, sum_next      the sum so far
--   product_past, sum_past_at    what is past in one step
--   other_row_is, equal_row_is   a row has no more than the numbers above it
--   delta_same, delta_less   where the power of n stands
use Rattle.std.proofs.Common.{◌≡◌, ℕ, zero, suc, ◌+◌, ◌-◌, ◌<◌, ◌≤◌, pos, Bool, true, false, cond, List, [], ◌∷◌, ◌++◌, refl, sym, ap, ap₂, subst, ◌∙◌, arith}
use Rattle.algebra.specs.Ring.{CommRing, operations, of_nat}
use Rattle.algebra.specs.Sum.{sum_over}
use Rattle.algebra.proofs.Sums as Sums
use Rattle.algebra.specs.Fraction.{Fraction, ℚ, fraction_size, whole, inverse}
use Rattle.algebra.specs.Size.{Size, size, sizes, sum_size, product_size, IsPast, IsUnder}
use Rattle.algebra.proofs.Fractions.{ℚ_ring}
use Rattle.algebra.proofs.LcmLaws.{lcm-pos}
use Rattle.algebra.proofs.SizeLaws.{fractions_bounded, under_refl, under_trans, under-sum, sum-left, sum_size_assoc, zero-sum_size, past_under}
use Rattle.algebra.proofs.ProductSizes.{product_within, product_den-pos}
use Rattle.algebra.proofs.Wholes.{of_nat-whole}
use Rattle.exponentials.specs.Table.{alike, choose, numbers, sum_numbers, delta, binomial_term}
use Rattle.exponentials.proofs.Lists.{sum_same, sum_alike}
use Rattle.exponentials.proofs.Table.{each_number}
use Rattle.exponentials.proofs.Terms.{alike_true, alike_refl}
use Rattle.expo.specs.Rows.{binomial, other_number, equal_number, IsPastSum, sum}

abbrev R : CommRing Fraction
R = ℚ_ring

pub numbers-push : (lo n : ℕ) → numbers lo (suc n) ≡ numbers lo n ++ (lo + n) ∷ []
numbers-push lo zero = ap (λ k. k ∷ []) (let e : lo ≡ lo + 0 = omega arith in e)
numbers-push lo (suc n) = ap (λ l. lo ∷ l) (numbers-push (suc lo) n
    ∙ ap (λ k. numbers (suc lo) n ++ k ∷ []) (let e : suc lo + n ≡ lo + suc n = omega arith in e))

numbers-append : (lo m n : ℕ) → numbers lo (m + n) ≡ numbers lo m ++ numbers (lo + m) n
numbers-append lo zero n = ap₂ numbers (let e : lo ≡ lo + 0 = omega arith in e) (let e : 0 + n ≡ n =
    omega arith in e)
numbers-append lo (suc m) n =
    ap (numbers lo) (let e : suc m + n ≡ suc (m + n) = omega arith in e)
    ∙ ap (λ l. lo ∷ l) (numbers-append (suc lo) m n ∙ ap (λ k. numbers (suc lo) m ++ numbers k n)
    (let e : suc lo + m ≡ lo + suc m = omega arith in e))

-- ---- one place more of a sum
pub weighed_is : (q : ℕ → Fraction) (i j : ℕ) → binomial_term R q i j ≡ ℚ.mul (binomial j i) (q j)
weighed_is q i j = ap (λ c. ℚ.mul c (q j)) (of_nat-whole (choose j i))

pub sum_first : (q : ℕ → Fraction) (i lo : ℕ) → sum_numbers R (binomial_term R q i) lo 0 ≡ ℚ.zero
unfolding sum_over
sum_first q i lo = refl

pub sum_next : (q : ℕ → Fraction) (i lo n : ℕ) → sum_numbers R (binomial_term R q i) lo (suc n)
    ≡ ℚ.add (sum_numbers R (binomial_term R q i) lo n) (ℚ.mul (binomial (lo + n) i) (q (lo + n)))
unfolding sum_over
sum_next q i lo n =
    ap (sum_over (operations R) (binomial_term R q i)) (numbers-push lo n)
    ∙ Sums.sum-append R (binomial_term R q i) (numbers lo n) ((lo + n) ∷ [])
    ∙ ap (ℚ.add (sum_numbers R (binomial_term R q i) lo n)) (last (lo + n))
  where
    last : (j : ℕ) → sum_over (operations R) (binomial_term R q i) (j ∷ []) ≡ ℚ.mul (binomial j i)
        (q j)
    last j = R.add-zero _ ∙ weighed_is q i j

-- ---- what is past
pub product_past : (x y : Fraction) → IsPast (fraction_size (ℚ.mul x y))
    → IsPast (product_size (fraction_size x) (fraction_size y))
product_past x y = past_under (fraction_size (ℚ.mul x y)) (product_size (fraction_size x)
    (fraction_size y))
    (product_den-pos (fraction_size x) (fraction_size y) (fractions_bounded.den_pos x)
    (fractions_bounded.den_pos y))
    (product_within ℚ fraction_size fractions_bounded x y)

module _ (f : ℕ → Fraction) where
  abbrev weights : List ℕ → Size
  weights xs = sum_over sizes (λ j. fraction_size (f j)) xs

  weights-pos : (xs : List ℕ) → 0 < (weights xs).den
  unfolding sum_over
  weights-pos [] = omega arith
  weights-pos (x ∷ xs) = lcm-pos (fraction_size (f x)).den (weights xs).den
      (fractions_bounded.den_pos (f x)) (weights-pos xs)

  weights-append : (xs ys : List ℕ) → weights (xs ++ ys) ≡ sum_size (weights xs) (weights ys)
  unfolding sum_over
  weights-append [] ys = sym (zero-sum_size (weights ys) (weights-pos ys))
  weights-append (x ∷ xs) ys = ap (sum_size (fraction_size (f x))) (weights-append xs ys)
      ∙ sym (sum_size_assoc (fraction_size (f x)) (weights xs) (weights ys)
      (fractions_bounded.den_pos (f x)) (weights-pos xs) (weights-pos ys))

  total_within : (xs : List ℕ) → IsUnder (fraction_size (sum_over ℚ f xs)) (weights xs)
  unfolding sum_over
  total_within [] = subst (λ s. IsUnder s (size 0 1)) (sym fractions_bounded.zero_size)
      (under_refl (size 0 1) (omega arith))
  total_within (x ∷ xs) =
      let s = sum_over ℚ f xs in
      under_trans (fraction_size (ℚ.add (f x) s)) (sum_size (fraction_size (f x)) (fraction_size s))
      (weights (x ∷ xs))
      (fractions_bounded.den_pos (ℚ.add (f x) s)) (weights-pos (x ∷ xs))
      (fractions_bounded.add_size (f x) s)
      (under-sum (fraction_size (f x)) (fraction_size s) (fraction_size (f x)) (weights xs)
      (fractions_bounded.den_pos (f x)) (fractions_bounded.den_pos s)
      (fractions_bounded.den_pos (f x)) (weights-pos xs)
      (under_refl (fraction_size (f x)) (fractions_bounded.den_pos (f x))) (total_within xs))

  -- where adding one to the sum so far is past, so is the whole sum
  part_past : (xs : List ℕ) (j : ℕ) (ys : List ℕ)
      → IsPast (sum_size (fraction_size (sum_over ℚ f xs)) (fraction_size (f j)))
      → IsPast (weights (xs ++ j ∷ ys))
  unfolding sum_over
  part_past xs j ys past =
      let s = sum_over ℚ f xs in
      subst IsPast (sym (weights-append xs (j ∷ ys)))
      (past_under (sum_size (fraction_size s) (fraction_size (f j)))
      (sum_size (weights xs) (weights (j ∷ ys)))
      (lcm-pos (weights xs).den (weights (j ∷ ys)).den (weights-pos xs) (weights-pos (j ∷ ys)))
      (under-sum (fraction_size s) (fraction_size (f j)) (weights xs) (weights (j ∷ ys))
      (fractions_bounded.den_pos s) (fractions_bounded.den_pos (f j)) (weights-pos xs)
      (weights-pos (j ∷ ys)) (total_within xs) (first j ys))
      past)
    where
      first : (j : ℕ) (ys : List ℕ) → IsUnder (fraction_size (f j)) (weights (j ∷ ys))
      first j ys = sum-left (fraction_size (f j)) (weights ys) (fractions_bounded.den_pos (f j))
          (weights-pos ys)

pub sum_past_at : (q : ℕ → Fraction) (i lo k n : ℕ) → k < n
    → IsPast (sum_size (fraction_size (sum_numbers R (binomial_term R q i) lo k))
    (fraction_size (ℚ.mul (binomial (lo + k) i) (q (lo + k)))))
    → IsPastSum q i lo n
sum_past_at q i lo k n h past =
    let f : ℕ → Fraction = λ j. ℚ.mul (binomial j i) (q j) in
    let e : k + suc (n - suc k) ≡ n = omega arith in
    sum (subst (λ xs. IsPast (sum_over sizes (λ j. fraction_size (f j)) xs))
    (sym (numbers-append lo k (suc (n - suc k))) ∙ ap (numbers lo) e)
    (part_past f (numbers lo k) (lo + k) (numbers (suc (lo + k)) (n - suc k))
    (subst (λ s. IsPast (sum_size (fraction_size s) (fraction_size (f (lo + k)))))
    (sum_alike R (binomial_term R q i) f (numbers lo k) (weighed_is q i)) past)))

-- ---- rows
sums_agree : (q r : ℕ → Fraction) (i lo n : ℕ) → ((j : ℕ) → lo ≤ j → q j ≡ r j)
    → sum_numbers R (binomial_term R q i) lo n ≡ sum_numbers R (binomial_term R r i) lo n
sums_agree q r i lo n h = sum_same R (binomial_term R q i) (binomial_term R r i) (numbers lo n)
    (each_number (λ j. binomial_term R q i j ≡ binomial_term R r i j) lo n (λ j l g.
    ap (ℚ.mul (of_nat R (choose j i))) (h j l)))

pub other_row_is : (σ l : Fraction) (a : ℕ) (q r : ℕ → Fraction) (i : ℕ)
    → ((j : ℕ) → i < j → q j ≡ r j) → other_number σ l a q i ≡ other_number σ l a r i
other_row_is σ l a q r i h =
    ap (λ s. ℚ.mul (ℚ.add (delta R i a) (ℚ.neg (ℚ.mul σ s))) (inverse (ℚ.add σ (ℚ.neg l))))
    (sums_agree q r i (suc i) (a - i) (λ j g. h j (omega arith)))

pub equal_row_is : (l : Fraction) (a : ℕ) (q r : ℕ → Fraction) (i : ℕ)
    → ((j : ℕ) → suc i < j → q j ≡ r j) → equal_number l a q i ≡ equal_number l a r i
equal_row_is l a q r i h = ap (λ s. ℚ.mul (ℚ.add (ℚ.mul (delta R i a) (inverse l)) (ℚ.neg s))
    (inverse (whole (pos (suc i))))) (sums_agree q r i (suc (suc i)) (a - i) (λ j g.
    h j (omega arith)))

pub delta_same : (a : ℕ) → delta R a a ≡ ℚ.one
delta_same a = ap (λ b. cond b ℚ.one ℚ.zero) (alike_refl a)

pub delta_less : (i a : ℕ) → i < a → delta R i a ≡ ℚ.zero
delta_less i a h = go (alike i a) refl
  where
    go : (b : Bool) → alike i a ≡ b → cond b ℚ.one ℚ.zero ≡ ℚ.zero
    go true e = let p : i ≡ a = alike_true i a e in absurd (omega arith)
    go false e = refl
