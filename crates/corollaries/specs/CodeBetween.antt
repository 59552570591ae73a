-- Code between two loops: statements that are done once. What is known before it is told of what it leads to by the graph of its map, with a copy in front
-- for each variable that the code assigns. Variables count from 0.
--   is_assigned code i          the variable i stands on a left side of the code
--   assigned_variables m code             the variables, of m, that do, in declared order
--   copy_of code i              how many of those stand before the variable i
--   list_from i n f                f i, .., f (i + n - 1)
--   was m code                  for each variable what it was before the code: its copy, or itself
--   code_list program code gs   the gs of what was, and each assigned variable less the code's polynomial for it, of what was
--   LeadsOn program code gs p   p composed with the code is a member of the ideal of gs
use Rattle.std.specs.Prelude.{ℕ, zero, suc, ◌+◌, ◌==◌, Bool, cond, List, [], ◌∷◌, ◌++◌, map, get_or, length}
use Rattle.std.specs.List.{list_any}
use Rattle.algebra.specs.Fraction.{Fraction, ℚ}
use Rattle.polynomials.specs.Terms.{Terms, variables, negate, compose}
use Rattle.ideals.specs.Members.{IsMember}
use Rattle.loops.specs.Program.{Expr, Program, Statement}
use Rattle.loops.specs.Map.{branch_map, composition}

abbrev pub variable_of : ℕ → ℕ → Terms Fraction
variable_of w i = get_or (variables ℚ w) i []

abbrev pub list_from : {A : Type 0} → ℕ → ℕ → (ℕ → A) → List A
list_from i zero f = []
list_from i (suc n) f = f i ∷ list_from (suc i) n f

module _ {E : Type 0} (code : List (Statement E)) where
  abbrev pub is_assigned : ℕ → Bool
  is_assigned i = list_any (λ (c : Statement E). list_any (λ j. j == i) c.targets) code

  abbrev pub assigned_from : ℕ → ℕ → List ℕ
  assigned_from i zero = []
  assigned_from i (suc n) =
      cond (is_assigned i) (i ∷ assigned_from (suc i) n) (assigned_from (suc i) n)

abbrev pub assigned_variables : {E : Type 0} → ℕ → List (Statement E) → List ℕ
assigned_variables m code = assigned_from code 0 m

abbrev pub copy_of : {E : Type 0} → List (Statement E) → ℕ → ℕ
copy_of code i = length (assigned_variables i code)

module _ {E : Type 0} (m : ℕ) (code : List (Statement E)) where
  abbrev pub copies : ℕ
  copies = length (assigned_variables m code)

  abbrev pub was_at : ℕ → Terms Fraction
  was_at i =
      cond (is_assigned code i) (variable_of (copies + m) (copy_of code i))
      (variable_of (copies + m) (copies + i))

  abbrev pub was : List (Terms Fraction)
  was = list_from 0 m was_at

module _ {At : Type 0} (program : Program (Expr At)) (code : List (Statement (Expr At))) where
  abbrev pub of_what_was : Terms Fraction → Terms Fraction
  of_what_was p =
      let m = length program.names in
      compose ℚ (copies m code + m) p (was m code)

  abbrev pub code_list : List (Terms Fraction) → List (Terms Fraction)
  code_list gs =
      let m = length program.names in
      let t = copies m code in
      map of_what_was gs
      ++ map (λ y. variable_of (t + m) (t + y)
      ++ negate ℚ (of_what_was (get_or (branch_map program code) y [])))
      (assigned_variables m code)

  abbrev pub LeadsOn : List (Terms Fraction) → Terms Fraction → Type 0
  LeadsOn gs p =
      IsMember ℚ (length program.names) gs (composition program p (branch_map program code))
