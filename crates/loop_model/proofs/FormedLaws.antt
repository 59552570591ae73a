-- The polynomial of an expression, operator by operator.
--   StandsIn m s e p        p stands for the value of e at the state s, and no operation that forms it passes a limit
--   formed_number, formed_variable     with no operation
--   formed_neg, formed_add, ..         with the operator's answer
--   stopped_neg, stopped_binary, stops_left, ..      a stop in an operand
--   same_operations, same_operations_all     the operations at states of the same polynomials
--   operations_all-append, operations_all-push     those of more expressions
--   formed_as, stopped_as   the clauses of a result, and of an error that is handed on
use Rattle.std.proofs.Common.{◌≡◌, ℕ, zero, suc, ℤ, List, [], ◌∷◌, ◌++◌, get_or, refl, sym, subst, Result, Ok, Err, IfOk, ap, ◌∙◌, append_assoc, append-nil}
use Rattle.std.specs.Prelude.{IfErr}
use Rattle.std.specs.Result.{IsErrAnd}
use Rattle.std.proofs.lemmas.List.Elements.{All-append}
use Rattle.algebra.specs.Arithmetic.{power}
use Rattle.algebra.specs.Fraction.{Fraction, ℚ, whole, inverse}
use Rattle.algebra.proofs.Fractions.{ℚ_ring}
use Rattle.polynomials.specs.Terms.{Terms, Same, AllSame, constant}
use Rattle.polynomials.proofs.Same.{Same-refl, same_append, same_times, same_negate}
use Rattle.loops.specs.Program as program
use Rattle.loops.specs.Program.{Expr}
use Rattle.loops.specs.Effect.{value_of}
use Rattle.loops.proofs.Alike.{same_value}
use Rattle.poly.specs.Seen.{terms_in}
use Rattle.poly.specs.Standing.{StandsFor}
use Rattle.loop_model.specs.FracPoly.{FracPoly}
use Rattle.loop_model.specs.Operations.{operations_all, Operation, opposite_at, sum_at, difference_at, product_at, quotient_at, value, power_of, partial_powers, operations, IsFree, PassesLimit}
use Rattle.loop_model.specs.Stops.{Stops, Forms, Does}
use Rattle.loop_model.specs.ExpressionView.{binary_of}
use Rattle.loop_model.specs.declared.expr.BinaryOperator.TheVariants as pairs
use Rattle.loop_model.specs.declared.expr.BinaryOperator.{BinaryOperator}
use Rattle.loop_model.specs.declared.map_error.MapError.{MapError}
use Rattle.loop_model.proofs.OperationLaws.{SameOperation, AllSameOperations, same_operations-append, same_forms, stops_front, stops_behind, forms_behind, does_last, handed_on}

-- ---- the same operands
module _ (p p' q q' : Terms Fraction) (s : Same ℚ p p') (t : Same ℚ q q') (at : ℕ) where
  same_sum : SameOperation (sum_at at p q) (sum_at at p' q')
  same_sum = record { at = refl; kind = refl; left = s; right = t; result = same_append ℚ_ring s t }

  same_difference : SameOperation (difference_at at p q) (difference_at at p' q')
  same_difference = record {
    at = refl;
    kind = refl;
    left = s;
    right = t;
    result = same_append ℚ_ring s (same_negate ℚ_ring t);
  }

  same_product : SameOperation (product_at at p q) (product_at at p' q')
  same_product = record {
    at = refl;
    kind = refl;
    left = s;
    right = t;
    result = same_times ℚ_ring s t;
  }

module _ (m : ℕ) (p p' : Terms Fraction) (s : Same ℚ p p') (at : ℕ) where
  same_opposite : SameOperation (opposite_at at p) (opposite_at at p')
  same_opposite = record {
    at = refl;
    kind = refl;
    left = Same-refl ℚ [];
    right = s;
    result = same_negate ℚ_ring s;
  }

  same_quotient : (n : ℤ) → SameOperation (quotient_at m at p n) (quotient_at m at p' n)
  same_quotient n =
      let by : Terms Fraction = constant m (inverse (whole n)) in
      record {
        at = refl;
        kind = refl;
        left = s;
        right = Same-refl ℚ by;
        result = same_times ℚ_ring s (Same-refl ℚ by);
      }

  same_power : (n : ℕ) → Same ℚ (power_of m p n) (power_of m p' n)
  unfolding power
  same_power zero = Same-refl ℚ (constant m ℚ.one)
  same_power (suc n) = same_times ℚ_ring s (same_power n)

  same_partial_powers : (n : ℕ) → AllSameOperations (partial_powers m at p n)
      (partial_powers m at p' n)
  unfolding partial_powers
  same_partial_powers zero = tt
  same_partial_powers (suc n) =
      same_operations-append (partial_powers m at p n) (partial_powers m at p' n) _ _
      (same_partial_powers n)
      (same_product p p' (power_of m p n) (power_of m p' n) s (same_power n) at, tt)

-- ---- operators
module _ (m : ℕ) (s : List (Terms Fraction)) where
  abbrev at_state : Expr ℕ → Terms Fraction
  at_state e = value m s e

  abbrev ops : Expr ℕ → List Operation
  ops e = operations m s e

  abbrev pub StandsIn : Expr ℕ → FracPoly → Type 0
  StandsIn e p = Forms m (ops e) (at_state e) (Ok p)

  abbrev Formed : Expr ℕ → Result FracPoly MapError → Type 0
  Formed e r = Forms m (ops e) (at_state e) r

  pub formed_number : (n : ℤ) (r : Result FracPoly MapError) → Forms m [] (constant m (whole n)) r
      → Formed (program.number n) r
  unfolding operations value_of
  formed_number n r h = h

  pub formed_variable : (i : ℕ) (r : Result FracPoly MapError) → Forms m [] (get_or s i []) r
      → Formed (program.variable i) r
  unfolding operations value_of
  formed_variable i r h = h

  module _ (at : ℕ) (e : Expr ℕ) (p : FracPoly) (h : StandsIn e p)
      (r : Result FracPoly MapError) where
    pub formed_neg : Does m (opposite_at at (terms_in p)) r → Formed (program.neg at e) r
    unfolding operations value_of
    formed_neg d = does_last m (ops e) (opposite_at at (terms_in p)) (opposite_at at (at_state e)) r
        h.1 (same_opposite m (terms_in p) (at_state e) h.0.same at) d

    pub formed_divide : (n : ℤ) → Does m (quotient_at m at (terms_in p) n) r
        → Formed (program.divide at e n) r
    unfolding operations value_of
    formed_divide n d = does_last m (ops e) (quotient_at m at (terms_in p) n)
        (quotient_at m at (at_state e) n) r h.1 (same_quotient m (terms_in p) (at_state e) h.0.same
        at n) d

    pub formed_power : (n : ℕ) → Forms m (partial_powers m at (terms_in p) n)
        (power_of m (terms_in p) n) r → Formed (program.power at e n) r
    unfolding operations value_of
    formed_power n d = forms_behind m (ops e) (partial_powers m at (at_state e) n)
        (power_of m (at_state e) n) r h.1
        (same_forms m (partial_powers m at (terms_in p) n) (partial_powers m at (at_state e) n)
        (power_of m (terms_in p) n) (power_of m (at_state e) n) r
        (same_partial_powers m (terms_in p) (at_state e) h.0.same at n)
        (same_power m (terms_in p) (at_state e) h.0.same at n) d)

  module _ (at : ℕ) (e f : Expr ℕ) (p q : FracPoly) (h : StandsIn e p) (k : StandsIn f q)
      (r : Result FracPoly MapError) where
    both_free : IsFree m (ops e ++ ops f)
    both_free = All-append (λ o. ¬ (PassesLimit m o)) (ops e) (ops f) h.1 k.1

    pub formed_add : Does m (sum_at at (terms_in p) (terms_in q)) r → Formed (program.add at e f) r
    unfolding operations value_of
    formed_add d = does_last m (ops e ++ ops f) (sum_at at (terms_in p) (terms_in q))
        (sum_at at (at_state e) (at_state f)) r both_free
        (same_sum (terms_in p) (at_state e) (terms_in q) (at_state f) h.0.same k.0.same at) d

    pub formed_sub : Does m (difference_at at (terms_in p) (terms_in q)) r
        → Formed (program.sub at e f) r
    unfolding operations value_of
    formed_sub d = does_last m (ops e ++ ops f) (difference_at at (terms_in p) (terms_in q))
        (difference_at at (at_state e) (at_state f)) r both_free
        (same_difference (terms_in p) (at_state e) (terms_in q) (at_state f) h.0.same k.0.same at) d

    pub formed_mul : Does m (product_at at (terms_in p) (terms_in q)) r
        → Formed (program.mul at e f) r
    unfolding operations value_of
    formed_mul d = does_last m (ops e ++ ops f) (product_at at (terms_in p) (terms_in q))
        (product_at at (at_state e) (at_state f)) r both_free
        (same_product (terms_in p) (at_state e) (terms_in q) (at_state f) h.0.same k.0.same at) d

  -- ---- stops in operands
  module _ (at : ℕ) (e : Expr ℕ) (x : MapError) (h : Stops m (ops e) x) where
    pub stopped_neg : Stops m (ops (program.neg at e)) x
    unfolding operations
    stopped_neg = stops_front m (ops e) _ x h

    pub stopped_divide : (n : ℤ) → Stops m (ops (program.divide at e n)) x
    unfolding operations
    stopped_divide n = stops_front m (ops e) _ x h

    pub stopped_power : (n : ℕ) → Stops m (ops (program.power at e n)) x
    unfolding operations
    stopped_power n = stops_front m (ops e) _ x h

  -- a stop in the left operand, or in the right one behind a left one
  abbrev pub StopsInOne : Expr ℕ → Expr ℕ → MapError → Type 0
  StopsInOne e f x = Stops m (ops e ++ ops f) x

  pub stops_left : (e f : Expr ℕ) (x : MapError) → Stops m (ops e) x → StopsInOne e f x
  stops_left e f x h = stops_front m (ops e) (ops f) x h

  pub stops_right : (e f : Expr ℕ) (p : FracPoly) (x : MapError) → StandsIn e p → Stops m (ops f) x
      → StopsInOne e f x
  stops_right e f p x h k = stops_behind m (ops e) (ops f) x h.1 k

  module _ (at : ℕ) (e f : Expr ℕ) (x : MapError) (h : StopsInOne e f x) where
    pub stopped_add : Stops m (ops (program.add at e f)) x
    unfolding operations
    stopped_add = stops_front m (ops e ++ ops f) _ x h

    pub stopped_sub : Stops m (ops (program.sub at e f)) x
    unfolding operations
    stopped_sub = stops_front m (ops e ++ ops f) _ x h

    pub stopped_mul : Stops m (ops (program.mul at e f)) x
    unfolding operations
    stopped_mul = stops_front m (ops e ++ ops f) _ x h

  pub stopped_binary : (o : BinaryOperator) (at : ℕ) (e f : Expr ℕ) (x : MapError)
      → StopsInOne e f x → Stops m (ops (binary_of o at e f)) x
  stopped_binary pairs.Add at e f x h = stopped_add at e f x h
  stopped_binary pairs.Sub at e f x h = stopped_sub at e f x h
  stopped_binary pairs.Mul at e f x h = stopped_mul at e f x h

-- ---- the same states
module _ (m : ℕ) (s t : List (Terms Fraction)) (h : AllSame ℚ s t) where
  at_both : (e : Expr ℕ) → Same ℚ (value m s e) (value m t e)
  at_both e = same_value m s t h e

  two_operands : (e f : Expr ℕ) → AllSameOperations (operations m s e) (operations m t e)
      → AllSameOperations (operations m s f) (operations m t f)
      → AllSameOperations (operations m s e ++ operations m s f) (operations m t e ++ operations m t
      f)
  two_operands e f a b = same_operations-append (operations m s e) (operations m t e) _ _ a b

  pub same_operations : (e : Expr ℕ) → AllSameOperations (operations m s e) (operations m t e)
  unfolding operations value_of
  same_operations (program.number n) = tt
  same_operations (program.variable i) = tt
  same_operations (program.neg at e) = same_operations-append (operations m s e) (operations m t e)
      _ _ (same_operations e) (same_opposite m (value m s e) (value m t e) (at_both e) at, tt)
  same_operations (program.add at e f) =
      same_operations-append (operations m s e ++ operations m s f) (operations m t e
      ++ operations m t f) _ _ (two_operands e f (same_operations e) (same_operations f)) (
        same_sum (value m s e) (value m t e) (value m s f) (value m t f) (at_both e) (at_both f) at,
        tt,
      )
  same_operations (program.sub at e f) =
      same_operations-append (operations m s e ++ operations m s f) (operations m t e
      ++ operations m t f) _ _ (two_operands e f (same_operations e) (same_operations f)) (
        same_difference (value m s e) (value m t e) (value m s f) (value m t f) (at_both e)
            (at_both f) at,
        tt,
      )
  same_operations (program.mul at e f) =
      same_operations-append (operations m s e ++ operations m s f) (operations m t e
      ++ operations m t f) _ _ (two_operands e f (same_operations e) (same_operations f)) (
        same_product (value m s e) (value m t e) (value m s f) (value m t f) (at_both e) (at_both f)
            at,
        tt,
      )
  same_operations (program.divide at e n) = same_operations-append (operations m s e)
      (operations m t e) _ _ (same_operations e) (
        same_quotient m (value m s e) (value m t e)
            (at_both e) at n,
        tt,
      )
  same_operations (program.power at e n) = same_operations-append (operations m s e)
      (operations m t e) _ _ (same_operations e) (same_partial_powers m (value m s e) (value m t e)
      (at_both e) at n)

  pub same_operations_all : (es : List (Expr ℕ)) → AllSameOperations (operations_all m s es)
      (operations_all m t es)
  unfolding operations_all
  same_operations_all [] = tt
  same_operations_all (e ∷ es) = same_operations-append (operations m s e) (operations m t e) _ _
      (same_operations e) (same_operations_all es)

pub operations_all-append : (m : ℕ) (s : List (Terms Fraction)) (es fs : List (Expr ℕ))
    → operations_all m s (es ++ fs) ≡ operations_all m s es ++ operations_all m s fs
unfolding operations_all
operations_all-append m s [] fs = refl
operations_all-append m s (e ∷ es) fs = ap (λ os. operations m s e ++ os)
    (operations_all-append m s es fs)
    ∙ sym (append_assoc (operations m s e) (operations_all m s es) (operations_all m s fs))

-- one expression more
pub operations_all-push : (m : ℕ) (s : List (Terms Fraction)) (es : List (Expr ℕ)) (e : Expr ℕ)
    → operations_all m s (es ++ e ∷ []) ≡ operations_all m s es ++ operations m s e
unfolding operations_all
operations_all-push m s es e = operations_all-append m s es (e ∷ [])
    ∙ ap (λ os. operations_all m s es ++ os) (append-nil (operations m s e))

-- ---- the clauses of a result
pub record Clauses (m : ℕ) (os : List Operation) (q : Terms Fraction)
    (r : Result FracPoly MapError) : Type 0 where
  pub value : IfOk r (λ p. StandsFor m p q)
  pub free : IfOk r (λ p. IsFree m os)
  pub stops : IfErr r (λ e. Stops m os e)

pub clauses_of : (m : ℕ) (os : List Operation) (q : Terms Fraction) (r : Result FracPoly MapError)
    → Forms m os q r → Clauses m os q r
clauses_of m os q (Ok p) h = record { value = h.0; free = h.1; stops = tt }
clauses_of m os q (Err e) h = record { value = tt; free = tt; stops = h }

-- of an expression x, which is y
pub formed_as : (m : ℕ) (s : List (Terms Fraction)) (x y : Expr ℕ) (r : Result FracPoly MapError)
    → x ≡ y → Forms m (operations m s y) (value m s y) r
    → Clauses m (operations m s x) (value m s x) r
formed_as m s x y r is h = clauses_of m (operations m s x) (value m s x) r
    (subst (λ z. Forms m (operations m s z) (value m s z) r) (sym is) h)

-- the error that `?` hands on
pub stopped_as : (m : ℕ) (s : List (Terms Fraction)) (x y : Expr ℕ) (e : MapError)
    (r : Result FracPoly MapError) → x ≡ y → IsErrAnd r (λ d. d ≡ e) → Stops m (operations m s y) e
    → IfErr r (λ d. Stops m (operations m s x) d)
stopped_as m s x y e r is h k =
    (formed_as m s x y r is (handed_on m (operations m s y) (value m s y) e r h k)).stops
