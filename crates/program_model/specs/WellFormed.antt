-- What the reader of texts keeps of a program of n variables.
--   IsComparison n k     what stands in a comparison are names
--   IsAssignment n a     divisors and values use the names and the inverses before them, the targets are names, none of them twice, with a value for each
--   IsStep n c           a step
--   IsGuarded n s, IsBlock n b     a statement, and a block; an assertion is an equation
use Rattle.std.specs.Prelude.{◌≡◌, ℕ, ◌+◌, ◌<◌, true, length, get_or, ⊤}
use Rattle.std.specs.List.{All}
use Rattle.loops.specs.Program.{Expr}
use Rattle.loops.specs.WellFormed.{Uses, IsStatement}
use Rattle.program_model.specs.Program.{Comparison, Divisor, Assignment, Step, assign, choose, assume, Statement, step, assert, branch, loop, Block, empty, behind}

module _ {At : Type 0} (n : ℕ) where
  pub record IsComparison (k : Comparison (Expr At)) : Type 0 where
    pub left : Uses (λ i. i < n) k.left
    pub right : Uses (λ i. i < n) k.right

  pub record IsAssignment (a : Assignment (Expr At)) : Type 0 where
    pub divisors : (i : ℕ) (d : Divisor (Expr At)) → i < length a.divisors
        → Uses (λ k. k < n + i) (get_or a.divisors i d).value
    pub targets : All (λ i. i < n) a.targets
    pub statement : IsStatement (n + length a.divisors)
        (record { targets = a.targets; values = a.values })

  unfoldable pub IsStep : Step (Expr At) → Type 0
  IsStep (assign a) = IsAssignment a
  IsStep (choose at target) = target < n
  IsStep (assume k) = IsComparison k

  unfoldable mutual
    pub IsGuarded : Statement (Expr At) → Type 0
    IsGuarded (step c) = IsStep c
    IsGuarded (assert at k) = (k.equal ≡ true) × IsComparison k
    IsGuarded (branch at g a b) = All IsComparison g.says × IsBlock a × IsBlock b
    IsGuarded (loop at g a) = All IsComparison g.says × IsBlock a

    pub IsBlock : Block (Expr At) → Type 0
    IsBlock empty = ⊤
    IsBlock (behind b s) = IsBlock b × IsGuarded s
