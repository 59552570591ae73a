-- A loop is well formed and within the limits. The type keeps the truncated facts; each has one proof at most.
--   formed lp, limited lp      the facts themselves
use Rattle.std.proofs.Common.{◌≢◌, ℕ, ◌<◌, ◌≤◌, false, ◌≡◌, List, [], ◌∷◌, length, All}
use native.Mathlib.Nat.{ℕ_set}
use mathlib.Core.Bool.{Bool-set}
use Rattle.std.specs.Coded.{×_prop, Unit-prop, le_prop}
use Rattle.std.proofs.Math.Logic.{∥∥₁_elim}
use Rattle.loops.specs.Program.{Expr, number, variable, neg, add, sub, mul, divide, power, Statement, Equation, Program}
use Rattle.loops.specs.Limits.{IsSmall, IsWithinLimits}
use Rattle.loops.specs.WellFormed.{Uses, AreDistinct, IsStatement, is_among, still_unset, SetsFirst, IsWellFormed}
use Rattle.loop_model.specs.View.{program_of}
use Rattle.loop_model.specs.declared.loop_.Loop.{Loop}

all_prop : {X : Type 0} (P : X → Type 0) → ((x : X) → IsProp (P x)) → (xs : List X)
    → IsProp (All P xs)
all_prop P h xs = hlevel h

uses_prop : (P : ℕ → Type 0) → ((i : ℕ) → IsProp (P i)) → (e : Expr ℕ) → IsProp (Uses P e)
unfolding Uses
uses_prop P h (number n) = Unit-prop
uses_prop P h (variable i) = h i
uses_prop P h (neg at e) = uses_prop P h e
uses_prop P h (add at e f) = ×_prop (uses_prop P h e) (uses_prop P h f)
uses_prop P h (sub at e f) = ×_prop (uses_prop P h e) (uses_prop P h f)
uses_prop P h (mul at e f) = ×_prop (uses_prop P h e) (uses_prop P h f)
uses_prop P h (divide at e n) = ×_prop (uses_prop P h e) hlevel
uses_prop P h (power at e n) = uses_prop P h e

distinct_prop : (xs : List ℕ) → IsProp (AreDistinct xs)
unfolding AreDistinct
distinct_prop [] = Unit-prop
distinct_prop (x ∷ xs) = ×_prop (all_prop (λ y. y ≢ x) (λ y. hlevel) xs) (distinct_prop xs)

below_prop : (i m : ℕ) → IsProp (i < m)
below_prop i m = le_prop

statement_prop : (m : ℕ) (c : Statement (Expr ℕ)) → IsProp (IsStatement m c)
statement_prop m c = hlevel (
  ℕ_set,
  below_prop,
  distinct_prop,
  uses_prop (λ i. i < m)
      (λ i. below_prop i m),
)

set_prop : (unset : List ℕ) (i : ℕ) → IsProp (is_among unset i ≡ false)
set_prop unset i = Bool-set (is_among unset i) false

sets_first_prop : (unset : List ℕ) (cs : List (Statement (Expr ℕ))) → IsProp (SetsFirst unset cs)
unfolding SetsFirst
sets_first_prop unset [] = Unit-prop
sets_first_prop unset (c ∷ cs) =
    ×_prop (all_prop (Uses (λ i. is_among unset i ≡ false))
    (uses_prop (λ i. is_among unset i ≡ false) (set_prop unset)) c.values)
    (sets_first_prop (still_unset c.targets unset) cs)

well_formed_prop : (program : Program (Expr ℕ)) → IsProp (IsWellFormed program)
well_formed_prop program = hlevel (
  ℕ_set,
  below_prop,
  distinct_prop,
  statement_prop,
  sets_first_prop,
  uses_prop (λ i. (i < length program.names)
      × All (λ (f : Equation (Expr ℕ)). i ≢ f.name) program.init) (λ i. hlevel below_prop),
)

pub formed : (lp : Loop) → IsWellFormed (program_of lp)
formed lp = ∥∥₁_elim lp.well_formed (well_formed_prop (program_of lp)) (λ x. x)

at_most_prop : (i m : ℕ) → IsProp (i ≤ m)
at_most_prop i m = le_prop

small_prop : (e : Expr ℕ) → IsProp (IsSmall e)
small_prop e = hlevel at_most_prop

limits_prop : (program : Program (Expr ℕ)) → IsProp (IsWithinLimits program)
limits_prop program = hlevel (at_most_prop, small_prop)

pub limited : (lp : Loop) → IsWithinLimits (program_of lp)
limited lp = ∥∥₁_elim lp.limited (limits_prop (program_of lp)) (λ x. x)
