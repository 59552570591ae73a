-- What solves y(n+1) = y(n) + n^a with y(0) = 0, over no base and three variables, where a is 0 or 1; and that nothing of it is past.
--   IsOwn a z               z is the normal solution;  linear, quadratic: n, and n^2/2 - n/2, which are those of 0 and 1
--   equal_fits              no row of the table is past
--   Solves t p              p is what solves a term t, and its product fits;  SolveAll q ys: of each term of q, one after another
--   term_holds, solved_is, among_holds     nothing of it is past, and there is no other
--   scaled_holds, mix_holds     no product with 1 is past, by a test
use Rattle.std.proofs.Common.{◌≡◌, inl, inr, ℕ, zero, suc, ◌<◌, ◌≤◌, ℤ, pos, negsuc, Bool, true, false, List, [], ◌∷◌, ◌++◌, length, refl, sym, ap, ap₂, subst, ◌∙◌, arith}
use Rattle.std.specs.Prelude.{◌&&◌}
use Rattle.algebra.specs.Arithmetic.{power}
use Rattle.algebra.specs.Each.{Each}
use Rattle.algebra.specs.In.{In}
use Rattle.algebra.specs.Ring.{CommRing, of_nat}
use Rattle.algebra.specs.Sum.{sum_over}
use Rattle.algebra.specs.Gcd.{gcd, lcm}
use Rattle.algebra.specs.Ratio.{is_lowest, reduce}
use Rattle.algebra.specs.Size.{size, sum_size, product_size, quotient_size, IsPast}
use Rattle.algebra.specs.Fraction as Fraction
use Rattle.algebra.specs.Fraction.{Fraction, fraction, fraction_size, fractions, over, whole, ℚ}
use Rattle.algebra.proofs.Fractions.{ℚ_ring, ℚ_field}
use Rattle.algebra.proofs.RingSolver.{ring_rules, ring}
use Rattle.algebra.proofs.Wholes.{whole_injective, whole-suc}
use Rattle.polynomials.specs.Order.{compare, grevlex}
use Rattle.polynomials.specs.Polynomial.{Falls}
use Rattle.polynomials.specs.Terms.{Terms, evaluate, monomial_at, value_at, times}
use Rattle.polynomials.specs.Weight.{weight, IsPastProduct}
use Rattle.polynomials.proofs.Orders.{grevlex_order}
use Rattle.exponentials.specs.Keys.{Key, key_of, rest, top}
use Rattle.exponentials.specs.Powers.{number, negate_if}
use Rattle.exponentials.specs.Table.{delta}
use Rattle.solvable_maps.specs.Expo.{power_key, IsSolution}
use Rattle.solvable_maps.specs.Iterations.{point, IsNormalForm}
use Rattle.solvable_maps.proofs.Numbers.{one_form}
use Rattle.expo.specs.Rows.{binomial, equal_number, equal_rest, equal_sum, IsPastSum, coefficient, product, sum, IsPastEqualRow, IsPastEqual, row}
use Rattle.closed_forms.specs.Inhomogeneities.{collect_terms}
use Rattle.closed_forms.specs.Solved.{steady, IsKeySolution, IsSolvedTerm, AreSolved, IsPastSolving, inhomogeneity_past, own_past, other, equal, IsPastTerm, degree, solving, product as product_past}
use Rattle.closed_forms.specs.Sums.{mix, IsPastMix}
use Rattle.analysis_commands.proofs.Fitting.{first_holds, second_holds, each_fits, size_fits, size_holds, both_hold, product_fits}
use Rattle.analysis_commands.proofs.ScaledMap.{one}
use Rattle.analysis_commands.proofs.ScaledNumbers.{minus, ones}

-- ---- lists of three
pub three_long : {X : Type 0} (P : List X → Type 0) → ((a b c : X) → P (a ∷ b ∷ c ∷ []))
    → (s : List X) → length s ≡ 3 → P s
three_long P h [] l = absurd (omega (arith, l))
three_long P h (a ∷ []) l = absurd (omega (arith, l))
three_long P h (a ∷ b ∷ []) l = absurd (omega (arith, l))
three_long P h (a ∷ b ∷ c ∷ []) l = h a b c
three_long P h (a ∷ b ∷ c ∷ d ∷ s) l = absurd (omega (arith, l))

-- ---- numbers
abbrev half : Fraction
half = over (pos 1) 2

abbrev less_half : Fraction
less_half = over (negsuc 0) 2

half_twice : ℚ.add half half ≡ one
unfolding fraction Fraction.sum is_lowest reduce gcd
half_twice = refl

less_twice : ℚ.add less_half less_half ≡ minus
unfolding fraction Fraction.sum is_lowest reduce gcd
less_twice = refl

opposite_half : less_half ≡ ℚ.neg half
unfolding fraction Fraction.opposite is_lowest reduce gcd
opposite_half = refl

half_some : half ≡ ℚ.zero → ⊥
half_some e =
    ℚ_field.one-ne-zero (sym half_twice ∙ ap (λ x. ℚ.add x x) e ∙ ℚ_ring.add-zero ℚ.zero)

less_some : less_half ≡ ℚ.zero → ⊥
less_some e =
    let z : negsuc 0 ≡ pos 0 = whole_injective (negsuc 0) (pos 0)
    (sym less_twice ∙ ap (λ x. ℚ.add x x) e ∙ ℚ_ring.add-zero ℚ.zero) in
    cc

opposite_one : ℚ.neg one ≡ minus
unfolding fraction Fraction.opposite is_lowest gcd
opposite_one = refl

-- ---- the powers of no base
plain_number : (negative : Bool) (e : List ℤ) (t : List ℕ) → top (rest t) ≡ 0
    → key_of 0 t ≡ power_key negative e → negate_if negative (number [] e) ≡ one
plain_number true e t z k =
    absurd (let f : top (rest t) ≡ 1 = ap (λ (x : Key). x.0) k in omega (arith, z, f))
plain_number false e t z k = refl

pub plain_key : (negative : Bool) (e : List ℤ) → length e ≡ 0
    → negate_if negative (number [] e) ≡ one → power_key negative e ≡ (0, [], [])
plain_key true e l is =
    absurd (let z : negsuc 0 ≡ pos 1 = whole_injective (negsuc 0) (pos 1) (sym opposite_one ∙ is)
    in cc)
plain_key false [] l is = refl
plain_key false (z ∷ e) l is = absurd (omega (arith, l))

-- ---- the solutions
pub record IsOwn (a : ℕ) (z : Terms Fraction) : Type 0 where
  pub normal : IsNormalForm [] grevlex 3 z
  pub solution : IsSolution [] 3 a one one z

abbrev pub linear : Terms Fraction
linear = (1 ∷ 0 ∷ 0 ∷ 0 ∷ 0 ∷ [], one) ∷ []

abbrev pub quadratic : Terms Fraction
quadratic = (2 ∷ 0 ∷ 0 ∷ 0 ∷ 0 ∷ [], half) ∷ (1 ∷ 0 ∷ 0 ∷ 0 ∷ 0 ∷ [], less_half) ∷ []

module _ {A : Type 0} (R : CommRing A) where
  open R use {one as 𝟙, zero as 𝟘, add as ◌⊕◌, mul as ◌⊗◌, neg as opposite}

  infixl 60 ◌⊕◌
  infixl 70 ◌⊗◌
  linear_at : (n : A) → 𝟙 ⊗ ((n ⊗ 𝟙) ⊗ (𝟙 ⊗ (𝟙 ⊗ (𝟙 ⊗ (𝟙 ⊗ 𝟙))))) ⊕ 𝟘 ≡ n
  linear_at n = ring R (n ∷ []) (search ring_rules depth 40) refl

  linear_next : (n : A) → 𝟙 ⊕ n ≡ 𝟙 ⊗ n ⊕ 𝟙 ⊗ 𝟙
  linear_next n = ring R (n ∷ []) (search ring_rules depth 40) refl

  quadratic_at : (h k n : A) → h ⊗ ((n ⊗ (n ⊗ 𝟙)) ⊗ (𝟙 ⊗ (𝟙 ⊗ (𝟙 ⊗ (𝟙 ⊗ 𝟙))))) ⊕
      (k ⊗ ((n ⊗ 𝟙) ⊗ (𝟙 ⊗ (𝟙 ⊗ (𝟙 ⊗ (𝟙 ⊗ 𝟙))))) ⊕ 𝟘)
      ≡ h ⊗ (n ⊗ n) ⊕ k ⊗ n
  quadratic_at h k n = ring R (h ∷ k ∷ n ∷ []) (search ring_rules depth 40) refl

  quadratic_first : (h k : A) → h ⊗ (𝟘 ⊗ 𝟘) ⊕ k ⊗ 𝟘 ≡ 𝟘
  quadratic_first h k = ring R (h ∷ k ∷ []) (search ring_rules depth 40) refl

  quadratic_next : (h n : A) → h ⊗ ((𝟙 ⊕ n) ⊗ (𝟙 ⊕ n)) ⊕ opposite h ⊗ (𝟙 ⊕ n)
      ≡ 𝟙 ⊗ (h ⊗ (n ⊗ n) ⊕ opposite h ⊗ n) ⊕ ((h ⊕ h) ⊗ n ⊗ 𝟙) ⊗ 𝟙
  quadratic_next h n = ring R (h ∷ n ∷ []) (search ring_rules depth 40) refl

  once : (n : A) → 𝟙 ⊗ n ⊗ 𝟙 ≡ n ⊗ 𝟙
  once n = ring R (n ∷ []) (search ring_rules depth 40) refl

linear_value : (n : ℕ) (s : List Fraction) → length s ≡ 3
    → value_at ℚ linear (point [] n s) ≡ whole (pos n)
unfolding evaluate sum_over monomial_at power
linear_value n = three_long (λ s. value_at ℚ linear (point [] n s) ≡ whole (pos n))
    (λ a b c. linear_at ℚ_ring (whole (pos n)))

abbrev triangle : Fraction → Fraction
triangle n = ℚ.add (ℚ.mul half (ℚ.mul n n)) (ℚ.mul less_half n)

quadratic_value : (n : ℕ) (s : List Fraction) → length s ≡ 3
    → value_at ℚ quadratic (point [] n s) ≡ triangle (whole (pos n))
unfolding evaluate sum_over monomial_at power
quadratic_value n =
    three_long (λ s. value_at ℚ quadratic (point [] n s) ≡ triangle (whole (pos n)))
    (λ a b c. quadratic_at ℚ_ring half less_half (whole (pos n)))

triangle_next : (n : Fraction) → triangle (ℚ.add one n)
    ≡ ℚ.add (ℚ.mul one (triangle n)) (ℚ.mul (ℚ.mul n one) one)
triangle_next n =
    ap (λ k. ℚ.add (ℚ.mul half (ℚ.mul (ℚ.add one n) (ℚ.add one n))) (ℚ.mul k (ℚ.add one n)))
    opposite_half
    ∙ quadratic_next ℚ_ring half n
    ∙ ap₂ (λ k x. ℚ.add (ℚ.mul one (ℚ.add (ℚ.mul half (ℚ.mul n n)) (ℚ.mul k n))) (ℚ.mul x one))
    (sym opposite_half)
    (ap (λ x. ℚ.mul (ℚ.mul x n) one) half_twice ∙ once ℚ_ring n)

linear_solution : IsSolution [] 3 0 one one linear
unfolding power
linear_solution = record {
  start = λ s l. linear_value 0 s l;
  next = λ n s l. linear_value (suc n) s l ∙ whole-suc n ∙ linear_next ℚ_ring (whole (pos n))
      ∙ sym (ap₂ (λ v p. ℚ.add (ℚ.mul one v) (ℚ.mul one p)) (linear_value n s l) (ones n));
}

quadratic_solution : IsSolution [] 3 1 one one quadratic
unfolding power
quadratic_solution = record {
  start = λ s l. quadratic_value 0 s l ∙ quadratic_first ℚ_ring half less_half;
  next = λ n s l. quadratic_value (suc n) s l ∙ ap triangle (whole-suc n)
      ∙ triangle_next (whole (pos n))
      ∙ sym (ap₂ (λ v p. ℚ.add (ℚ.mul one v) (ℚ.mul (ℚ.mul (whole (pos n)) one) p))
      (quadratic_value n s l) (ones n));
}

pub linear_own : IsOwn 0 linear
unfolding Each Falls
linear_own = record {
  normal = record {
    polynomial = record {
      nonzero = (ℚ_field.one-ne-zero, tt);
      arity = (refl, tt);
      falls = (tt, tt);
    };
    normal = ((omega arith, tt, tt, tt), tt);
  };
  solution = linear_solution;
}

pub quadratic_own : IsOwn 1 quadratic
unfolding Each Falls compare grevlex
quadratic_own = record {
  normal = record {
    polynomial = record {
      nonzero = (half_some, (less_some, tt));
      arity = (refl, (refl, tt));
      falls = ((refl, tt), (tt, tt));
    };
    normal = ((omega arith, tt, tt, tt), ((omega arith, tt, tt, tt), tt));
  };
  solution = quadratic_solution;
}

-- there is no other
same_values : (a : ℕ) (y z : Terms Fraction) → IsSolution [] 3 a one one y
    → IsSolution [] 3 a one one z → (n : ℕ) (s : List Fraction) → length s ≡ 3
    → value_at ℚ y (point [] n s) ≡ value_at ℚ z (point [] n s)
same_values a y z p q zero s l = p.start s l ∙ sym (q.start s l)
same_values a y z p q (suc n) s l =
    p.next n s l
    ∙ ap (λ v. ℚ.add (ℚ.mul one v) (ℚ.mul (power ℚ (whole (pos n)) a) (power ℚ one n)))
    (same_values a y z p q n s l)
    ∙ sym (q.next n s l)

own_is : (a : ℕ) (y z : Terms Fraction) → IsOwn a y → IsOwn a z → y ≡ z
own_is a y z p q =
    one_form [] tt grevlex grevlex_order 3 y z p.normal.polynomial q.normal.polynomial
    p.normal.normal q.normal.normal (same_values a y z p.solution q.solution)

-- ---- the table
number_fits : IsPast (fraction_size one) → ⊥
unfolding size_fits fraction is_lowest gcd
number_fits p = size_holds (fraction_size one) refl p

none_behind : (q : ℕ → Fraction) (i lo : ℕ) → IsPastSum q i lo 0 → ⊥
unfolding size_fits sum_over
none_behind q i lo (coefficient j l m p) = omega (arith, l, m)
none_behind q i lo (product j l m p) = omega (arith, l, m)
none_behind q i lo (sum p) = size_holds (size 0 1) refl p

-- the row of the power 0, and of the power 1 with the number of n^2
abbrev row_sum : Fraction → Fraction
row_sum x = ℚ.add (ℚ.mul (whole (pos 1)) x) ℚ.zero

first_row : (q : ℕ → Fraction) → IsPastEqualRow one 0 q 0 → ⊥
unfolding size_fits sum_over fraction Fraction.sum Fraction.product Fraction.opposite
    Fraction.inverse is_lowest reduce gcd lcm
first_row q (inl s) = none_behind q 0 2 s
first_row q (inr (inl p)) =
    size_holds (sum_size (fraction_size (ℚ.mul (delta ℚ_ring 0 0) (Fraction.inverse one)))
    (fraction_size (equal_sum 0 q 0))) refl p
first_row q (inr (inr p)) =
    size_holds (quotient_size (fraction_size (equal_rest one 0 q 0))
    (fraction_size (whole (pos 1)))) refl p

second_row : (q : ℕ → Fraction) → IsPastEqualRow one 1 q 1 → ⊥
unfolding size_fits sum_over fraction Fraction.sum Fraction.product Fraction.opposite
    Fraction.inverse is_lowest reduce gcd lcm
second_row q (inl s) = none_behind q 1 3 s
second_row q (inr (inl p)) =
    size_holds (sum_size (fraction_size (ℚ.mul (delta ℚ_ring 1 1) (Fraction.inverse one)))
    (fraction_size (equal_sum 1 q 1))) refl p
second_row q (inr (inr p)) =
    size_holds (quotient_size (fraction_size (equal_rest one 1 q 1))
    (fraction_size (whole (pos 2)))) refl p

half_is : (q : ℕ → Fraction) → equal_number one 1 q 1 ≡ half
unfolding sum_over fraction Fraction.sum Fraction.product Fraction.opposite
    Fraction.inverse is_lowest reduce gcd
half_is q = refl

one_behind : (q : ℕ → Fraction) → q 2 ≡ half → IsPastSum q 0 2 1 → ⊥
unfolding size_fits sum_over fraction Fraction.product is_lowest reduce gcd lcm
one_behind q e (coefficient j l m p) =
    let same : j ≡ 2 = omega (arith, l, m) in
    number_fits (subst (λ j. IsPast (fraction_size (binomial j 0))) same p)
one_behind q e (product j l m p) =
    let same : j ≡ 2 = omega (arith, l, m) in
    size_holds (product_size (fraction_size (binomial 2 0)) (fraction_size half)) refl
    (subst (λ x. IsPast (product_size (fraction_size (binomial 2 0)) (fraction_size x))) e
    (subst (λ j. IsPast (product_size (fraction_size (binomial j 0)) (fraction_size (q j)))) same
    p))
one_behind q e (sum p) =
    size_holds (sum_size (fraction_size (ℚ.mul (binomial 2 0) half)) (size 0 1)) refl
    (subst (λ x. IsPast (sum_size (fraction_size (ℚ.mul (binomial 2 0) x)) (size 0 1))) e p)

equal_sum_is : (q : ℕ → Fraction) → q 2 ≡ half → equal_sum 1 q 0 ≡ half
unfolding sum_over fraction Fraction.sum Fraction.product is_lowest reduce gcd
equal_sum_is q e = ap (λ x. ℚ.add (ℚ.mul (of_nat ℚ_ring 1) x) ℚ.zero) e

last_row : (q : ℕ → Fraction) → q 2 ≡ half → IsPastEqualRow one 1 q 0 → ⊥
unfolding size_fits fraction Fraction.sum Fraction.product Fraction.opposite
    Fraction.inverse is_lowest reduce gcd lcm
last_row q e (inl s) = one_behind q e s
last_row q e (inr (inl p)) =
    size_holds (sum_size (fraction_size (ℚ.mul (delta ℚ_ring 0 1) (Fraction.inverse one)))
    (fraction_size half)) refl
    (subst (λ x. IsPast (sum_size
    (fraction_size (ℚ.mul (delta ℚ_ring 0 1) (Fraction.inverse one))) (fraction_size x)))
    (equal_sum_is q e) p)
last_row q e (inr (inr p)) =
    size_holds (quotient_size (fraction_size (ℚ.add (ℚ.mul (delta ℚ_ring 0 1)
    (Fraction.inverse one)) (ℚ.neg half))) (fraction_size (whole (pos 1)))) refl
    (subst (λ x. IsPast (quotient_size (fraction_size (ℚ.add (ℚ.mul (delta ℚ_ring 0 1)
    (Fraction.inverse one)) (ℚ.neg x))) (fraction_size (whole (pos 1))))) (equal_sum_is q e) p)

equal_fits : (a : ℕ) → a ≤ 1 → IsPastEqual one a → ⊥
equal_fits zero low (row q zero within known p) = first_row q p
equal_fits zero low (row q (suc i) within known p) = omega (arith, within)
equal_fits (suc zero) low (row q zero within known p) =
    last_row q (known 1 (omega arith) (omega arith) ∙ half_is q) p
equal_fits (suc zero) low (row q (suc zero) within known p) = second_row q p
equal_fits (suc zero) low (row q (suc (suc i)) within known p) = omega (arith, within)
equal_fits (suc (suc a)) low p = omega (arith, low)

solving_fits : (a : ℕ) → a ≤ 1 → IsPastSolving one one a → ⊥
solving_fits a low (inhomogeneity_past p) = number_fits p
solving_fits a low (own_past p) = number_fits p
solving_fits a low (other differs p) = differs refl
solving_fits a low (equal e p) = equal_fits a low p

-- ---- a term
pub record Solves (t : List ℕ × Fraction) (p : Terms Fraction) : Type 0 where
  pub own : Terms Fraction
  pub is : IsOwn (top t.0) own
  pub plain : top (rest t.0) ≡ 0
  pub low : top t.0 ≤ 1
  pub fits : product_fits own (steady 0 t) ≡ true
  pub made : collect_terms (times ℚ own (steady 0 t)) ≡ p

module _ (t : List ℕ × Fraction) (p : Terms Fraction) (h : Solves t p) where
  solution_is : (y : Terms Fraction) → IsKeySolution [] 3 one t y → y ≡ h.own
  solution_is y k =
      own_is (top t.0) y h.own (record {
        normal = k.normal;
        solution = subst (λ σ. IsSolution [] 3 (top t.0) σ one y)
            (plain_number k.negative k.exponents t.0 h.plain k.key) k.solution;
      }) h.is

  term_is : (x : Terms Fraction) → IsSolvedTerm [] 3 one t x → x ≡ p
  term_is x s = s.terms ∙ ap (λ y. collect_terms (times ℚ y (steady 0 t))) (solution_is s.y s.is)
      ∙ h.made

  term_holds : IsPastTerm [] 3 one t → ⊥
  term_holds (degree l) =
      let low = h.low in let high : 65534 < top t.0 = l in omega (arith, high, low)
  term_holds (solving negative e key past) =
      solving_fits (top t.0) h.low (subst (λ σ. IsPastSolving σ one (top t.0))
      (plain_number negative e t.0 h.plain key) past)
  term_holds (product_past y is past) =
      both_hold _ _ h.fits (subst (λ y. IsPastProduct fractions y (steady 0 t))
      (solution_is y is) past)

-- ---- all terms, one after another
abbrev pub SolveAll : Terms Fraction → Terms Fraction → Type 0
SolveAll [] ys = ys ≡ []
SolveAll (t ∷ q) ys = (p : Terms Fraction) × (zs : Terms Fraction) × Solves t p × SolveAll q zs
    × (ys ≡ p ++ zs)

pub solved_is : (q ys xs : Terms Fraction) → SolveAll q ys → AreSolved [] 3 one q xs → xs ≡ ys
solved_is [] ys xs h a = a ∙ sym h
solved_is (t ∷ q) ys xs (p, zs, here, later, e) (x, us, is, are, made) =
    made ∙ ap₂ ◌++◌ (term_is t p here x is) (solved_is q zs us later are) ∙ sym e

pub among_holds : (q ys : Terms Fraction) → SolveAll q ys → (t : List ℕ × Fraction) → In t q
    → IsPastTerm [] 3 one t → ⊥
among_holds [] ys h t i past = i
among_holds (u ∷ q) ys (p, zs, here, later, e) t (inl same) past =
    term_holds u p here (subst (IsPastTerm [] 3 one) same past)
among_holds (u ∷ q) ys (p, zs, here, later, e) t (inr i) past = among_holds q zs later t i past

-- ---- products with 1
abbrev times_one_fits : List ℕ × Fraction → Bool
times_one_fits t = size_fits (fraction_size (ℚ.mul one t.1))

scaled_holds : (p : Terms Fraction) → each_fits times_one_fits p ≡ true
    → (t : List ℕ × Fraction) → In t p → IsPast (fraction_size (ℚ.mul one t.1)) → ⊥
unfolding each_fits
scaled_holds [] e t i past = i
scaled_holds (u ∷ p) e t (inl same) past =
    size_holds (fraction_size (ℚ.mul one u.1)) (first_holds (times_one_fits u)
    (each_fits times_one_fits p) e)
    (subst (λ (x : List ℕ × Fraction). IsPast (fraction_size (ℚ.mul one x.1))) same past)
scaled_holds (u ∷ p) e t (inr i) past =
    scaled_holds p (second_holds (times_one_fits u) (each_fits times_one_fits p) e) t i past

abbrev pub mix_fits : Terms Fraction → Bool
mix_fits p =
    each_fits times_one_fits p && size_fits (weight fraction_size (mix (one ∷ []) (p ∷ [])))

pub mix_holds : (p : Terms Fraction) → mix_fits p ≡ true → IsPastMix (one ∷ []) (p ∷ []) → ⊥
mix_holds p e (inl (inl s)) =
    scaled_holds p (first_holds (each_fits times_one_fits p) _ e) (s.exponents, s.number) s.within
    s.past
mix_holds p e (inl (inr n)) = n
mix_holds p e (inr past) =
    size_holds (weight fraction_size (mix (one ∷ []) (p ∷ [])))
    (second_holds (each_fits times_one_fits p) _ e) past
