-- The fifth power of the sixteenth power of a variable passes the limit of degrees.
--   one_power k               x^k;  one_product: x^a times x^b is x^(a + b)
--   low_product               a product that is x^k, k being at most 64, passes no limit
--   total a n                 the degree of the nth power of x^a
--   high_power                (x^16)^5, by the operators at the offsets u and t
--   high_loop                 the loop of one variable whose one branch takes x to it
--   high_question             whether it is zero
--   high_stops, high_loop_stops     the first operation that passes a limit is at t: of the
--                                   question, and of the maps of the loop
use Rattle.std.proofs.Common.{◌≡◌, inl, inr, ℕ, zero, suc, ◌+◌, ◌<◌, ◌≤◌, pos, List, [], ◌∷◌, ◌++◌, length, refl, sym, ap, subst, ◌∙◌, arith, append_assoc, append-nil, get_or, sum}
use Rattle.std.proofs.lemmas.List.Elements.{All-nil, All-cons, All-append}
use Rattle.algebra.specs.Arithmetic.{power as times_itself}
use Rattle.algebra.specs.Each.{Each}
use Rattle.algebra.specs.Gcd.{gcd}
use Rattle.algebra.specs.Ratio.{is_lowest, reduce}
use Rattle.algebra.specs.Fraction as Fraction
use Rattle.algebra.specs.Fraction.{Fraction, fraction, ℚ}
use Rattle.algebra.proofs.Fractions.{ℚ_field}
use Rattle.polynomials.specs.Algebra as Algebra
use Rattle.polynomials.specs.Exponent.{plus, unit_exponents}
use Rattle.polynomials.specs.Order.{grevlex}
use Rattle.polynomials.specs.Polynomial.{Falls, IsPolynomial}
use Rattle.polynomials.specs.Terms.{Terms, Same, constant, times, variables}
use Rattle.polynomials.proofs.Same.{Same-refl}
use Rattle.loops.specs.Effect.{value_of}
use Rattle.loops.specs.Program.{Expr, Program, sub, variable, number, power}
use Rattle.loop_model.specs.Operations.{Operation, product_at, difference_at, partial_powers, power_of, operations, operations_all, value, most_terms, PassesLimit, IsFree, IsLimit, IsHigh, HasHighDegree}
use Rattle.loop_model.proofs.OperatorLaws.{only}
use Rattle.loop_model.specs.Maps.{maps_operations, statements_operations}
use Rattle.analysis_commands.proofs.ScaledMap.{one}
use Rattle.analysis_commands.proofs.IdleRuns.{x_loop}

abbrev pub high_power : ℕ → ℕ → Expr ℕ
high_power u t = power t (power u (variable 0) 16) 5

abbrev pub high_loop : ℕ → ℕ → Program (Expr ℕ)
high_loop u t = x_loop ((record { targets = 0 ∷ []; values = high_power u t ∷ [] } ∷ []) ∷ [])

-- ---- powers of x are one term
abbrev pub one_power : ℕ → Terms Fraction
one_power k = (k ∷ [], one) ∷ []

abbrev total : ℕ → ℕ → ℕ
total a zero = 0
total a (suc n) = a + total a n

pub one_product : (a b : ℕ) → times ℚ (one_power a) (one_power b) ≡ one_power (a + b)
unfolding Algebra.times Algebra.shift plus fraction Fraction.product is_lowest reduce gcd
one_product a b = refl

nth_power : (a n : ℕ) → power_of 1 (one_power a) n ≡ one_power (total a n)
unfolding times_itself constant
nth_power a zero = refl
nth_power a (suc n) = ap (times ℚ (one_power a)) (nth_power a n) ∙ one_product a (total a n)

one_polynomial : (k : ℕ) → IsPolynomial ℚ grevlex 1 (one_power k)
unfolding Each Falls
one_polynomial k = record {
  nonzero = (ℚ_field.one-ne-zero, tt);
  arity = (refl, tt);
  falls = (tt, tt);
}

-- ---- how high a product may be
high_degree : (k : ℕ) → IsHigh (one_power k) → 64 < k
high_degree k h = go h.is.reached.0 h.is.reached.1 h.is.reached.2 h.is.reached.3 h.is.reached.4
  where
    go : (place : ℕ) (t : List ℕ × Fraction) → place < 1 → get_or (one_power k) place t ≡ t
        → sum t.0 ≡ h.degree → 64 < k
    go zero t l is s =
        let same : sum (k ∷ []) ≡ sum t.0 = ap (λ (u : List ℕ × Fraction). sum u.0) is in
        let high = h.high in omega (arith, same, s, high)
    go (suc place) t l is s = absurd (omega (arith, l))

pub low_product : (at : ℕ) (p q : Terms Fraction) (k : ℕ) → times ℚ p q ≡ one_power k → k ≤ 64
    → PassesLimit 1 (product_at at p q) → ⊥
low_product at p q k is low (inl h) =
    let high = high_degree k (only 1 IsHigh (one_power k) (one_power k) (one_polynomial k)
    (Same-refl ℚ (one_power k)) (subst (HasHighDegree 1) is h)) in
    omega (arith, low, high)
low_product at p q k is low (inr c) =
    let more = only 1 (λ r. most_terms < length r) (one_power k) (times ℚ p q) (one_polynomial k)
    (subst (Same ℚ (one_power k)) (sym is) (Same-refl ℚ (one_power k))) c in
    omega (arith, more)

low_powers : (at a n : ℕ) → total a n ≤ 64 → IsFree 1 (partial_powers 1 at (one_power a) n)
unfolding partial_powers Algebra.times times_itself
low_powers at a zero low = All-nil (λ o. ¬ (PassesLimit 1 o))
low_powers at a (suc n) low =
    All-append (λ o. ¬ (PassesLimit 1 o)) (partial_powers 1 at (one_power a) n)
    (product_at at (one_power a) (power_of 1 (one_power a) n) ∷ [])
    (low_powers at a n (omega (arith, low)))
    (All-cons (λ o. ¬ (PassesLimit 1 o))
    (product_at at (one_power a) (power_of 1 (one_power a) n)) []
    (low_product at (one_power a) (power_of 1 (one_power a) n) (total a (suc n))
    (nth_power a (suc n)) low)
    (All-nil (λ o. ¬ (PassesLimit 1 o))))

-- ---- it is too high
abbrev last_product : ℕ → Operation
last_product t = product_at t (one_power 16) (power_of 1 (one_power 16) 4)

passes : (t : ℕ) → PassesLimit 1 (last_product t)
unfolding times_itself
passes t = inl (record {
  terms = one_power 80;
  is = one_polynomial 80;
  same = subst (Same ℚ (one_power 80)) (sym (nth_power 16 5)) (Same-refl ℚ (one_power 80));
  holds = record {
    degree = 80;
    is = record {
      at_most = All-cons (λ u. sum u.0 ≤ 80) (80 ∷ [], one) [] (omega arith)
          (All-nil (λ u. sum u.0 ≤ 80));
      reached = (0, (80 ∷ [], one), omega arith, refl, refl);
    };
    high = omega arith;
  };
})

module _ (u t : ℕ) where
  abbrev before : List Operation
  before = partial_powers 1 u (one_power 1) 16 ++ partial_powers 1 t (one_power 16) 4

  free_before : IsFree 1 before
  free_before =
      All-append (λ o. ¬ (PassesLimit 1 o)) (partial_powers 1 u (one_power 1) 16)
      (partial_powers 1 t (one_power 16) 4)
      (low_powers u 1 16 (omega arith)) (low_powers t 16 4 (omega arith))

  high_operations : operations 1 (variables ℚ 1) (high_power u t) ≡ before ++ last_product t ∷ []
  unfolding operations value_of variables unit_exponents partial_powers
  high_operations =
      ap (λ q. partial_powers 1 u (one_power 1) 16 ++ partial_powers 1 t q 5) (nth_power 1 16)
      ∙ sym (append_assoc (partial_powers 1 u (one_power 1) 16)
      (partial_powers 1 t (one_power 16) 4) (last_product t ∷ []))

  stops : (os behind : List Operation) → os ≡ before ++ last_product t ∷ behind → IsLimit 1 os t
  stops os behind is = record {
    before = before;
    operation = last_product t;
    behind = behind;
    order = is;
    free = free_before;
    offset = refl;
    holds = passes t;
  }

  abbrev ops : List Operation
  ops = operations 1 (variables ℚ 1) (high_power u t)

  same_operations : maps_operations (high_loop u t) ≡ ((ops ++ []) ++ []) ++ []
  unfolding operations_all statements_operations variables unit_exponents
  same_operations = refl

  pub high_loop_stops : IsLimit 1 (maps_operations (high_loop u t)) t
  high_loop_stops = stops (maps_operations (high_loop u t)) []
      (same_operations
      ∙ (append-nil ((ops ++ []) ++ []) ∙ (append-nil (ops ++ []) ∙ append-nil ops))
      ∙ high_operations)

  abbrev pub high_question : ℕ → Expr ℕ
  high_question at = sub at (high_power u t) (number (pos 0))

  pub high_stops : (at : ℕ) → IsLimit 1 (operations 1 (variables ℚ 1) (high_question at)) t
  unfolding operations partial_powers
  high_stops at =
      let p = value 1 (variables ℚ 1) (high_power u t) in
      let q = value 1 (variables ℚ 1) (number (pos 0)) in
      stops (operations 1 (variables ℚ 1) (high_question at)) (difference_at at p q ∷ [])
      (ap (λ os. os ++ difference_at at p q ∷ []) high_operations
      ∙ append_assoc before (last_product t ∷ []) (difference_at at p q ∷ []))
