-- How sequences of given orders lie in their loop.
--   total rs           how many variables there are
--   starts i rs        the place of the first variable of each sequence, where the variables begin at i
--   iterations i rs es      what the variables become, where the recurrences are es
--   IsGiven e          a value that is given: it has no variable, and is within the limits
--   UsesBelow m e         a right side over m variables, within the limits
--   AreGiven rs vs     so many values of each sequence, one at least, and these are all of them
--   AreLaid ws rs vs es     sequences with these names, orders, values and recurrences
use Rattle.std.specs.Prelude.{◌≡◌, ℕ, suc, pred, ◌+◌, ◌<◌, ◌≤◌, List, [], ◌∷◌, ◌++◌, length}
use Rattle.algebra.specs.Each.{Each}
use Rattle.loops.specs.Limits.{most_names, IsSmall}
use Rattle.loops.specs.Program.{Expr}
use Rattle.loops.specs.WellFormed.{Uses}
use Rattle.loops.specs.Turning.{variables_from}

unfoldable pub total : List ℕ → ℕ
total [] = 0
total (r ∷ rs) = r + total rs

unfoldable pub starts : ℕ → List ℕ → List ℕ
starts i [] = []
starts i (r ∷ rs) = i ∷ starts (i + r) rs

unfoldable pub iterations : {At : Type 0} → ℕ → List ℕ → List (Expr At) → List (Expr At)
iterations i [] es = []
iterations i (r ∷ rs) [] = []
iterations i (r ∷ rs) (e ∷ es) = variables_from (suc i) (pred r) ++ e ∷ iterations (i + r) rs es

pub record IsGiven (e : Expr ℕ) : Type 0 where
  pub uses : Uses (λ i. ⊥) e
  pub small : IsSmall e

pub record UsesBelow (m : ℕ) (e : Expr ℕ) : Type 0 where
  pub uses : Uses (λ i. i < m) e
  pub small : IsSmall e

pub record AreGiven (rs : List ℕ) (vs : List (Expr ℕ)) : Type 0 where
  pub some : Each (λ r. 0 < r) rs
  pub count : total rs ≡ length vs
  pub few : length vs ≤ most_names
  pub given : Each IsGiven vs

pub record AreLaid (ws : List (List ℕ)) (rs : List ℕ) (vs es : List (Expr ℕ)) : Type 0 where
  pub some : 0 < length ws
  pub orders : length rs ≡ length ws
  pub nexts : length es ≡ length ws
  pub values : AreGiven rs vs
  pub over : Each (UsesBelow (length vs)) es
