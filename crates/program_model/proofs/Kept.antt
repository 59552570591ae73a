-- A program keeps that its statements are well formed. The type keeps the truncated fact; it has one proof at most.
--   kept_block p      the fact itself
use Rattle.std.proofs.Common.{◌≢◌, ℕ, ◌<◌, ◌+◌, true, List, [], ◌∷◌, length, get_or, All}
use native.Mathlib.Nat.{ℕ_set}
use mathlib.Core.Bool.{Bool-set}
use Rattle.std.specs.Coded.{×_prop, Unit-prop, le_prop}
use Rattle.std.proofs.Math.Logic.{∥∥₁_elim}
use Rattle.loops.specs.Program as loops
use Rattle.loops.specs.Program.{number, variable, neg, add, sub, mul, divide, power}
use Rattle.loops.specs.WellFormed.{Uses, AreDistinct, IsStatement}
use Rattle.program_model.specs.Program.{Comparison, Divisor, Assignment, Step, assign, choose, assume, Statement, step, assert, branch, loop, Block, empty, behind}
use Rattle.program_model.specs.WellFormed.{IsComparison, IsAssignment, IsStep, IsGuarded, IsBlock}
use Rattle.program_model.specs.PathEvents.{E}
use Rattle.program_model.specs.StatementView.{block_of}
use Rattle.program_model.specs.declared.program.Program.{Program}

all_prop : {X : Type 0} (P : X → Type 0) → ((x : X) → IsProp (P x)) → (xs : List X)
    → IsProp (All P xs)
all_prop P h xs = hlevel h

three_prop : {A B C : Type 0} → IsProp A → IsProp B → IsProp C → IsProp (A × B × C)
three_prop a b c = hlevel (a, b, c)

below_prop : (i m : ℕ) → IsProp (i < m)
below_prop i m = le_prop

uses_prop : (m : ℕ) (e : E) → IsProp (Uses (λ i. i < m) e)
unfolding Uses
uses_prop m (number n) = Unit-prop
uses_prop m (variable i) = below_prop i m
uses_prop m (neg at e) = uses_prop m e
uses_prop m (add at e f) = ×_prop (uses_prop m e) (uses_prop m f)
uses_prop m (sub at e f) = ×_prop (uses_prop m e) (uses_prop m f)
uses_prop m (mul at e f) = ×_prop (uses_prop m e) (uses_prop m f)
uses_prop m (divide at e n) = ×_prop (uses_prop m e) hlevel
uses_prop m (power at e n) = uses_prop m e

distinct_prop : (xs : List ℕ) → IsProp (AreDistinct xs)
unfolding AreDistinct
distinct_prop [] = Unit-prop
distinct_prop (x ∷ xs) = ×_prop (all_prop (λ y. y ≢ x) (λ y. hlevel) xs) (distinct_prop xs)

statement_prop : (m : ℕ) (c : loops.Statement E) → IsProp (IsStatement m c)
statement_prop m c = hlevel (ℕ_set, below_prop, distinct_prop, uses_prop m)

module _ (n : ℕ) where
  comparison_prop : (k : Comparison E) → IsProp (IsComparison n k)
  comparison_prop k = hlevel (uses_prop n)

  divisor_prop : (ds : List (Divisor E)) (i : ℕ) (d : Divisor E)
      → IsProp (Uses (λ k. k < n + i) (get_or ds i d).value)
  divisor_prop ds i d = uses_prop (n + i) (get_or ds i d).value

  divisors_prop : (ds : List (Divisor E)) → IsProp ((i : ℕ) (d : Divisor E) → i < length ds
      → Uses (λ k. k < n + i) (get_or ds i d).value)
  divisors_prop ds = hlevel (divisor_prop ds)

  assignment_prop : (a : Assignment E) → IsProp (IsAssignment n a)
  assignment_prop a = hlevel (below_prop, statement_prop, divisors_prop)

  step_prop : (c : Step E) → IsProp (IsStep n c)
  unfolding IsStep
  step_prop (assign a) = assignment_prop a
  step_prop (choose at i) = below_prop i n
  step_prop (assume k) = comparison_prop k

  mutual
    unfolding IsGuarded IsBlock

    guarded_prop : (s : Statement E) → IsProp (IsGuarded n s)
    guarded_prop (step c) = step_prop c
    guarded_prop (assert at k) = ×_prop (Bool-set k.equal true) (comparison_prop k)
    guarded_prop (branch at g a b) =
        three_prop (all_prop (IsComparison n) comparison_prop g.says) (block_prop a)
        (block_prop b)
    guarded_prop (loop at g a) =
        ×_prop (all_prop (IsComparison n) comparison_prop g.says) (block_prop a)

    block_prop : (b : Block E) → IsProp (IsBlock n b)
    block_prop empty = Unit-prop
    block_prop (behind b s) = ×_prop (block_prop b) (guarded_prop s)

pub kept_block : (p : Program) → IsBlock (length p.names) (block_of p.statements.items)
kept_block p = ∥∥₁_elim p.well_formed
    (block_prop (length p.names) (block_of p.statements.items)) (λ x. x)
