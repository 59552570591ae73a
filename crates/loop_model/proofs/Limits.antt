-- What the limits say of the parts of a loop.
--   few_names, few_locals, few_branches     there are at most 12 variables, 12 local names and 6 branches
--   some_branch                 a well-formed loop has a branch
use Rattle.std.proofs.Common.{◌≡◌, ℕ, ◌<◌, ◌≤◌, List, length, map, arith}
use Rattle.std.specs.Global.{Vec}
use Rattle.std.proofs.lemmas.List.{length-map}
use Rattle.loops.specs.WellFormed.{IsWellFormed}
use Rattle.loops.specs.Limits.{most_names, most_branches, IsWithinLimits}
use Rattle.loop_model.specs.Parts.{parts, statement_of}
use Rattle.loop_model.specs.declared.statement.Init.{Init}
use Rattle.loop_model.specs.declared.statement.Statement.{Statement}

module _ (names locals : List (List ℕ)) (start : List Init) (branches : List (Vec Statement)) where
  branch_count : length (parts names locals start branches).branches ≡ length branches
  branch_count = length-map branches (λ b. map statement_of b.items)

  pub few_names : IsWithinLimits (parts names locals start branches) → length names ≤ 12
  unfolding most_names
  few_names h = h.few_names

  pub few_locals : IsWithinLimits (parts names locals start branches) → length locals ≤ 12
  unfolding most_names
  few_locals h = h.few_locals

  pub few_branches : IsWithinLimits (parts names locals start branches) → length branches ≤ 6
  unfolding most_branches
  few_branches h = omega (arith, h.few_branches, branch_count)

  pub some_branch : IsWellFormed (parts names locals start branches) → 0 < length branches
  some_branch h = omega (arith, h.some_branch, branch_count)
