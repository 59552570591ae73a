-- The loops over a table: what is known when the rows from one on are made.
--   Summed q i before place c total      the coefficient at the place, and the sum of those behind `before` up to it
--   OtherFrom, EqualFrom                 the rows from one on;  other_done, equal_done: all rows
--   given_equal                          what is given to a sum where σ is l
--   other_sum_past .. equal_quotient_past     what is past in a row, as the code makes it
--   other_step, equal_step               one row more
use Rattle.std.proofs.Common.{◌≡◌, ◌≢◌, ◌⊎◌, inl, inr, ℕ, zero, suc, ◌+◌, ◌-◌, ◌<◌, ◌≤◌, pos, List, map, get_or, length, replicate, set, refl, sym, ap, ap₂, subst, ◌∙◌, arith}
use Rattle.std.proofs.lemmas.List.{get_or-map, get_or-set_same, get_or-set_other, length-set, map-set}
use Rattle.algebra.specs.Fraction.{Fraction, ℚ, fraction_size, whole, inverse}
use Rattle.algebra.proofs.Fractions.{ℚ_ring, ℚ_field}
use Rattle.algebra.proofs.Wholes.{of_nat-whole}
use Rattle.algebra.proofs.RingLaws.{one-mul, zero-mul, eq_of_sub}
use Rattle.exponentials.specs.Table.{sum_numbers, binomial_term, above, delta, IsOther, IsEqual}
use Rattle.exponentials.proofs.Table.{choose_same, choose_next}
use Rattle.algebra.specs.Size.{IsPast, sum_size, quotient_size}
use Rattle.frac128.specs.declared.fraction.Frac.{Frac}
use Rattle.frac128.specs.FracMeaning.{fraction_of}
use Rattle.frac128.specs.Sums.{SumIsPast}
use Rattle.frac128.proofs.FracResults.{sum_past, difference_past, quotient_past}
use Rattle.expo.specs.Numbers.{number_at}
use Rattle.expo.specs.Rows.{binomial, other_rest, other_number, equal_sum, equal_rest, equal_number, sum_behind, IsPastSum, IsPastBehind, product, IsPastOtherRow, IsPastEqualRow, IsPastOther, IsPastEqual, divisor}
use Rattle.expo.specs.Rows as rows
use Rattle.expo.proofs.Rows.{product_past, sum_past_at, sum_first, sum_next, other_row_is, equal_row_is, delta_same, delta_less}

pub record Summed (q : ℕ → Fraction) (i before place : ℕ) (c total : Fraction) : Type 0 where
  pub after : before < place
  pub given : c ≡ binomial (place - 1) i
  pub total_is : total ≡ sum_numbers ℚ_ring (binomial_term ℚ_ring q i) (suc before)
      (place - suc before)

pub summed_first : (q : ℕ → Fraction) (i before place : ℕ) (c total : Fraction) → place ≡ before + 1
    → c ≡ binomial before i → total ≡ ℚ.zero → Summed q i before place c total
summed_first q i before place c total e g t = record {
  after = omega arith;
  given = g ∙ ap (λ j. binomial j i) (let o : before ≡ place - 1 = omega arith in o);
  total_is = t ∙ sym (sum_first q i (suc before))
      ∙ ap (sum_numbers ℚ_ring (binomial_term ℚ_ring q i) (suc before)) (let o : 0 ≡ place
      - suc before =
      omega arith in o);
}

pub summed_next : (q : ℕ → Fraction) (i before place : ℕ) (c total c' x total' : Fraction)
    → c' ≡ binomial place i → x ≡ ℚ.mul c' (q place) → total' ≡ ℚ.add total x
    → Summed q i before place c total → Summed q i before (place + 1) c' total'
summed_next q i before place c total c' x total' g m t s =
    let k = place - suc before in
    let at : suc before + k ≡ place = (let o = s.after in omega arith) in
    let more : suc k ≡ (place + 1) - suc before = (let o = s.after in omega arith) in
    record {
      after = (let o = s.after in omega arith);
      given = g ∙ ap (λ j. binomial j i) (let o : place ≡ (place + 1) - 1 = omega arith in o);
      total_is =
          t ∙ ap₂ ℚ.add s.total_is (m ∙ ap₂ ℚ.mul (g ∙ ap (λ j. binomial j i) (sym at))
          (ap q (sym at)))
          ∙ sym (sum_next q i (suc before) k)
          ∙ ap (sum_numbers ℚ_ring (binomial_term ℚ_ring q i) (suc before)) more;
    }

-- ---- rows
cases_eq : (i j : ℕ) → i ≤ j → (i ≡ j) ⊎ (i < j)
cases_eq zero zero h = inl refl
cases_eq zero (suc j) h = inr (omega arith)
cases_eq (suc i) zero h = absurd (omega arith)
cases_eq (suc i) (suc j) h = elim (cases_eq i j (omega arith)) [
  | inl e ↦ inl (ap suc e)
  | inr l
      ↦ inr (omega arith)
]

pub record OtherFrom (σ l : Fraction) (a row : ℕ) (q : ℕ → Fraction) (start : Fraction) : Type
    0 where
  pub within : row ≤ suc a
  pub start_is : (i : ℕ) → suc i ≡ row → start ≡ delta ℚ_ring i a
  pub rows : (j : ℕ) → row ≤ j → j ≤ a → q j ≡ other_number σ l a q j

pub other_first : (σ l : Fraction) (a row : ℕ) (q : ℕ → Fraction) (start : Fraction) → row ≡ a + 1
    → start ≡ ℚ.one → OtherFrom σ l a row q start
other_first σ l a row q start e s = record {
  within = omega arith;
  start_is = λ i h. s ∙ sym (delta_same a) ∙ ap (λ k. delta ℚ_ring k a) (let o : a ≡ i =
      omega arith in o);
  rows = λ j h k. absurd (omega arith);
}

pub other_next : (σ l : Fraction) (a row i : ℕ) (q r : ℕ → Fraction) (start start' : Fraction)
    → suc i ≡ row
    → ((j : ℕ) → i < j → q j ≡ r j) → r i ≡ other_number σ l a q i → start' ≡ ℚ.zero
    → OtherFrom σ l a row q start → OtherFrom σ l a i r start'
other_next σ l a row i q r start start' e above is z s = record {
  within = (let o = s.within in omega arith);
  start_is = λ k h. z ∙ sym (delta_less k a (let o = s.within in omega arith));
  rows = λ j h k. go j h k (cases_eq i j h);
}
  where
    go : (j : ℕ) → i ≤ j → j ≤ a → (i ≡ j) ⊎ (i < j) → r j ≡ other_number σ l a r j
    go j h k (inl x) = subst (λ j. r j ≡ other_number σ l a r j) x (is
        ∙ other_row_is σ l a q r i above)
    go j h k (inr x) = sym (above j x) ∙ s.rows j (omega arith) k
        ∙ other_row_is σ l a q r j (λ m g. above m (omega arith))

pub record EqualFrom (l : Fraction) (a row : ℕ) (q : ℕ → Fraction) (start : Fraction) : Type 0 where
  pub within : row ≤ suc a
  pub first : q 0 ≡ ℚ.zero
  pub start_is : (i : ℕ) → suc i ≡ row → start ≡ ℚ.mul (delta ℚ_ring i a) (inverse l)
  pub rows : (j : ℕ) → row ≤ j → j ≤ a → q (suc j) ≡ equal_number l a q j

pub equal_first : (l : Fraction) (a row : ℕ) (q : ℕ → Fraction) (start : Fraction) → row ≡ a + 1
    → q 0 ≡ ℚ.zero → start ≡ inverse l → EqualFrom l a row q start
equal_first l a row q start e f s = record {
  within = omega arith;
  first = f;
  start_is = λ i h. s ∙ sym (ap (λ d. ℚ.mul d (inverse l)) (delta_same a)
      ∙ one-mul ℚ_ring (inverse l)) ∙ ap (λ k. ℚ.mul (delta ℚ_ring k a) (inverse l))
      (let o : a ≡ i = omega arith in o);
  rows = λ j h k. absurd (omega arith);
}

pub equal_next : (l : Fraction) (a row i : ℕ) (q r : ℕ → Fraction) (start start' : Fraction)
    → suc i ≡ row
    → r 0 ≡ q 0 → ((j : ℕ) → suc i < j → q j ≡ r j) → r (suc i) ≡ equal_number l a q i
    → start' ≡ ℚ.zero → EqualFrom l a row q start → EqualFrom l a i r start'
equal_next l a row i q r start start' e f above is z s = record {
  within = (let o = s.within in omega arith);
  first = f ∙ s.first;
  start_is = λ k h. z
      ∙ sym (ap (λ d. ℚ.mul d (inverse l)) (delta_less k a (let o = s.within in omega arith))
      ∙ zero-mul ℚ_ring (inverse l));
  rows = λ j h k. go j h k (cases_eq i j h);
}
  where
    go : (j : ℕ) → i ≤ j → j ≤ a → (i ≡ j) ⊎ (i < j) → r (suc j) ≡ equal_number l a r j
    go j h k (inl x) = subst (λ j. r (suc j) ≡ equal_number l a r j) x (is
        ∙ equal_row_is l a q r i above)
    go j h k (inr x) = sym (above (suc j) (omega arith)) ∙ s.rows j (omega arith) k
        ∙ equal_row_is l a q r j (λ m g. above m (omega arith))

-- ---- one place of a sum, as the code has it
pub number_here : (xs : List Frac) (i : ℕ) (x : Frac) → i < length xs → x ≡ get_or xs i x
    → fraction_of x ≡ number_at xs i
number_here xs i x h is = ap fraction_of is ∙ sym (get_or-map fraction_of xs i x ℚ.zero h)

pub past_product : (q : ℕ → Fraction) (i lo n place : ℕ) (c x : Fraction) → lo ≤ place
    → place < lo + n → c ≡ binomial place i → x ≡ q place → IsPast (fraction_size (ℚ.mul c x))
    → IsPastSum q i lo n
past_product q i lo n place c x l h e f past =
    product place l h (product_past (binomial place i) (q place)
    (subst (λ z. IsPast (fraction_size z)) (ap₂ ℚ.mul e f) past))

pub past_total : (q : ℕ → Fraction) (i before place n : ℕ) (c total c' x : Fraction)
    → Summed q i before place c total → place < suc before + n → c' ≡ binomial place i
    → x ≡ ℚ.mul c' (q place)
    → SumIsPast total x → IsPastSum q i (suc before) n
past_total q i before place n c total c' x s h g m past =
    let k = place - suc before in
    let at : suc before + k ≡ place = (let o = s.after in omega arith) in
    sum_past_at q i (suc before) k n (let o = s.after in omega arith)
    (subst (λ z.
    IsPast (sum_size (fraction_size (sum_numbers ℚ_ring (binomial_term ℚ_ring q i) (suc before)
    k)) (fraction_size z)))
    (m ∙ ap₂ ℚ.mul (g ∙ ap (λ j. binomial j i) (sym at)) (ap q (sym at)))
    (subst (λ t. IsPast (sum_size (fraction_size t) (fraction_size x))) s.total_is
    (sum_past total x past)))

pub first_zero : (xs : List Frac) (n : ℕ) (z : Frac) → xs ≡ replicate n z → fraction_of z ≡ ℚ.zero
    → number_at xs 0 ≡ ℚ.zero
first_zero xs zero z e h = ap (λ l. number_at l 0) e
first_zero xs (suc n) z e h = ap (λ l. number_at l 0) e ∙ h

-- ---- rows, as the code has them
pub first_binomial : (i : ℕ) → whole (pos 1) ≡ binomial i i
first_binomial i = ap (λ n. whole (pos n)) (sym (choose_same i))

pub next_binomial : (i : ℕ) → whole (pos (suc i)) ≡ binomial (suc i) i
next_binomial i = ap (λ n. whole (pos n)) (sym (choose_next i))

pub placed_here : (xs : List Frac) (i : ℕ) (x : Frac) → i < length xs → number_at (set xs i x) i
    ≡ fraction_of x
placed_here xs i x h = get_or-map fraction_of (set xs i x) i x ℚ.zero
    (subst (λ n. i < n) (sym (length-set xs i x)) h) ∙ ap fraction_of (get_or-set_same xs i x x h)

pub placed_beside : (xs : List Frac) (i j : ℕ) (x : Frac) → j ≢ i → number_at (set xs i x) j
    ≡ number_at xs j
placed_beside xs i j x ne = ap (λ l. get_or l j ℚ.zero) (map-set fraction_of xs i x)
    ∙ get_or-set_other (map fraction_of xs) i j (fraction_of x) ℚ.zero ne

pub other_done : (σ l : Fraction) (a r : ℕ) (q : ℕ → Fraction) (start : Fraction) → r ≡ 0
    → OtherFrom σ l a r q start → IsOther ℚ_field σ l a q
other_done σ l a r q start e s = λ i h. s.rows i (omega arith) h

pub equal_done : (l : Fraction) (a r : ℕ) (q : ℕ → Fraction) (start : Fraction) → r ≡ 0
    → EqualFrom l a r q start → IsEqual ℚ_field l a q
equal_done l a r q start e s = record {
  first = s.first;
  next = λ i h. s.rows i (omega arith) h
      ∙ ap (λ x. ℚ.mul (ℚ.add (ℚ.mul (delta ℚ_ring i a) (inverse l)) (ℚ.neg (equal_sum a q i)))
      (inverse x)) (sym (of_nat-whole (suc i)));
}

-- ---- what is past in a row, as the code has it
pub nonzero_difference : (σ l d : Fraction) → d ≡ ℚ.add σ (ℚ.neg l) → σ ≢ l → d ≢ ℚ.zero
nonzero_difference σ l d e ne z = ne (eq_of_sub ℚ_ring σ l (sym e ∙ z))

pub divisor_past : (σ l : Fraction) (a : ℕ) → SumIsPast σ (ℚ.neg l) → IsPastOther σ l a
divisor_past σ l a s = divisor (difference_past σ l s)

-- the coefficient that is given
pub given_equal : (row : ℕ) (x : Fraction) → 0 < row → x ≡ whole (pos row)
    → x ≡ binomial (row - 1 + 1) (row - 1)
given_equal zero x h e = absurd (omega arith)
given_equal (suc i) x h e =
    e ∙ next_binomial i ∙ ap₂ binomial (let o : suc i ≡ suc i - 1 + 1 = omega arith in o)
    (let o : i ≡ suc i - 1 = omega arith in o)

-- ---- a row as the code makes it, from the numbers as it reads them: what is past, and one row
-- more
module _ (σ l : Fraction) (a r : ℕ) (xs ys : List Frac) (start : Fraction) (read : ys ≡ xs)
    (s : OtherFrom σ l a r (number_at xs) start) (count : length xs ≡ a + 1) (some : 0 < r) where
  start_other : start ≡ delta ℚ_ring (r - 1) a
  start_other = s.start_is (r - 1) (omega (arith, some))

  other_past : IsPastOtherRow σ l a (number_at xs) (r - 1) → IsPastOther σ l a
  other_past p = rows.row (number_at xs) (r - 1) (let w = s.within in omega (arith, w)) (λ j g k.
      s.rows j (omega (arith, some, g)) k) p

  places_other : length xs - suc (r - 1) ≡ a - (r - 1)
  places_other = omega (arith, count)

  pub other_sum_past : IsPastBehind (number_at ys) (r - 1) (r - 1) (length ys) → IsPastOther σ l a
  other_sum_past h =
      other_past (inl (subst (IsPastSum (number_at xs) (r - 1) (suc (r - 1))) places_other
      (subst (λ zs. IsPastBehind (number_at zs) (r - 1) (r - 1) (length zs)) read h)))

  module _ (total : Fraction) (sum : total ≡ sum_behind (number_at ys) (r - 1) (r - 1)
      (length ys)) where
    total_other : total ≡ above ℚ_ring a (number_at xs) (r - 1)
    total_other = subst (λ zs. total ≡ sum_behind (number_at zs) (r - 1) (r - 1) (length zs)) read
        sum ∙ ap (sum_numbers ℚ_ring (binomial_term ℚ_ring (number_at xs) (r - 1)) (suc (r - 1)))
        places_other

    pub other_product_past : IsPast (fraction_size (ℚ.mul σ total)) → IsPastOther σ l a
    other_product_past h =
        other_past
        (inr (inl (product_past σ (above ℚ_ring a (number_at xs) (r - 1))
        (subst (λ x. IsPast (fraction_size (ℚ.mul σ x))) total_other h))))

    module _ (part : Fraction) (p : part ≡ ℚ.mul σ total) where
      pub other_difference_past : SumIsPast start (ℚ.neg part) → IsPastOther σ l a
      other_difference_past h = other_past (inr (inr (inl
          (subst (λ (x : Fraction × Fraction).
          IsPast (sum_size (fraction_size x.0) (fraction_size x.1)))
          (λ j. (start_other j, (p ∙ ap (ℚ.mul σ) total_other) j))
          (difference_past start part h)))))

      module _ (rest d : Fraction) (m : rest ≡ ℚ.add start (ℚ.neg part))
          (f : d ≡ ℚ.add σ (ℚ.neg l)) where
        rest_other : rest ≡ other_rest σ a (number_at xs) (r - 1)
        rest_other = m ∙ ap₂ (λ y k. ℚ.add y (ℚ.neg k)) start_other (p ∙ ap (ℚ.mul σ) total_other)

        pub other_quotient_past : d ≢ ℚ.zero → IsPast (fraction_size (ℚ.mul rest (inverse d)))
            → IsPastOther σ l a
        other_quotient_past ne h = other_past (inr (inr (inr
            (subst (λ (x : Fraction × Fraction).
            IsPast (quotient_size (fraction_size x.0) (fraction_size x.1)))
            (λ j. (rest_other j, f j)) (quotient_past rest d ne h)))))

        pub other_step : (x : Frac) (start' : Fraction) → fraction_of x ≡ ℚ.mul rest (inverse d)
            → start' ≡ ℚ.zero → OtherFrom σ l a (r - 1) (number_at (set xs (r - 1) x)) start'
        other_step x start' n z =
            let w = s.within in
            other_next σ l a r (r - 1) (number_at xs) (number_at (set xs (r - 1) x)) start start'
            (omega (arith, some)) (λ j h.
            sym (placed_beside xs (r - 1) j x (λ q. absurd (omega (arith, h, q)))))
            (placed_here xs (r - 1) x (omega (arith, w, count, some)) ∙ n
            ∙ ap₂ (λ y k. ℚ.mul y (inverse k)) rest_other f) z s

module _ (l : Fraction) (a r : ℕ) (xs ys : List Frac) (start : Fraction) (read : ys ≡ xs)
    (s : EqualFrom l a r (number_at xs) start) (count : length xs ≡ a + 2) (some : 0 < r) where
  start_equal : start ≡ ℚ.mul (delta ℚ_ring (r - 1) a) (inverse l)
  start_equal = s.start_is (r - 1) (omega (arith, some))

  equal_past : IsPastEqualRow l a (number_at xs) (r - 1) → IsPastEqual l a
  equal_past p = rows.row (number_at xs) (r - 1) (let w = s.within in omega (arith, w)) (λ j g k.
      s.rows j (omega (arith, some, g)) k) p

  next_place : suc (r - 1 + 1) ≡ suc (suc (r - 1))
  next_place = omega arith

  places_equal : length xs - suc (r - 1 + 1) ≡ a - (r - 1)
  places_equal = omega (arith, count)

  pub equal_sum_past : IsPastBehind (number_at ys) (r - 1) (r - 1 + 1) (length ys) → IsPastEqual l a
  equal_sum_past h =
      equal_past (inl (subst (λ (x : ℕ × ℕ). IsPastSum (number_at xs) (r - 1) x.0 x.1)
      (λ j. (next_place j, places_equal j))
      (subst (λ zs. IsPastBehind (number_at zs) (r - 1) (r - 1 + 1) (length zs)) read h)))

  module _ (total : Fraction) (sum : total ≡ sum_behind (number_at ys) (r - 1) (r - 1 + 1)
      (length ys)) where
    total_equal : total ≡ equal_sum a (number_at xs) (r - 1)
    total_equal = subst (λ zs. total ≡ sum_behind (number_at zs) (r - 1) (r - 1 + 1) (length zs))
        read sum ∙ ap₂ (sum_numbers ℚ_ring (binomial_term ℚ_ring (number_at xs) (r - 1))) next_place
        places_equal

    pub equal_difference_past : SumIsPast start (ℚ.neg total) → IsPastEqual l a
    equal_difference_past h = equal_past (inr (inl
        (subst (λ (x : Fraction × Fraction).
        IsPast (sum_size (fraction_size x.0) (fraction_size x.1)))
        (λ j. (start_equal j, total_equal j)) (difference_past start total h))))

    module _ (rest d : Fraction) (m : rest ≡ ℚ.add start (ℚ.neg total))
        (f : d ≡ whole (pos r)) where
      rest_equal : rest ≡ equal_rest l a (number_at xs) (r - 1)
      rest_equal = m ∙ ap₂ (λ y k. ℚ.add y (ℚ.neg k)) start_equal total_equal

      divisor_is : d ≡ whole (pos (suc (r - 1)))
      divisor_is = f ∙ ap (λ n. whole (pos n)) (let o : r ≡ suc (r - 1) = omega (arith, some) in o)

      pub equal_quotient_past : d ≢ ℚ.zero → IsPast (fraction_size (ℚ.mul rest (inverse d)))
          → IsPastEqual l a
      equal_quotient_past ne h = equal_past (inr (inr
          (subst (λ (x : Fraction × Fraction).
          IsPast (quotient_size (fraction_size x.0) (fraction_size x.1)))
          (λ j. (rest_equal j, divisor_is j)) (quotient_past rest d ne h))))

      pub equal_step : (x : Frac) (start' : Fraction) → fraction_of x ≡ ℚ.mul rest (inverse d)
          → start' ≡ ℚ.zero → EqualFrom l a (r - 1) (number_at (set xs (r - 1 + 1) x)) start'
      equal_step x start' n z =
          let w = s.within in
          let b : r - 1 + 1 ≡ suc (r - 1) = omega arith in
          equal_next l a r (r - 1) (number_at xs) (number_at (set xs (r - 1 + 1) x)) start start'
          (omega (arith, some))
          (placed_beside xs (r - 1 + 1) 0 x (λ q. absurd (omega (arith, q)))) (λ j h.
          sym (placed_beside xs (r - 1 + 1) j x (λ q. absurd (omega (arith, h, q)))))
          (subst (λ k. number_at (set xs (r - 1 + 1) x) k ≡ fraction_of x) b
          (placed_here xs (r - 1 + 1) x (omega (arith, w, count, some))) ∙ n
          ∙ ap₂ (λ y k. ℚ.mul y (inverse k)) rest_equal divisor_is) z s
