-- The operations by which the maps of a program are formed, in order.
--   start_operations program      those of the right sides of init, where each variable stands for itself
--   entry program                 what the names stand for at the entry of a branch: the variables for themselves, the local names for 0
--   branch_operations program b   those of the branch b, where a name stands for its polynomial in the values at the branch's entry
--   branches_operations program   those of the branches in turn
--   maps_operations program       those of the start's map, and then these
--   AreFree program               none of them passes a limit
--   IsBranchMap program images b  the images stand for the polynomials of the map of the branch b
--   AreBranchMaps program maps bs the maps are those of the branches bs, one for each
--   FormsAll m os qs r            r is polynomials that stand for qs, and no operation passes a limit; or r stops at one
use Rattle.std.specs.Prelude.{ℕ, List, [], ◌∷◌, ◌++◌, map, replicate, length, Result, Ok, Err}
use Rattle.std.specs.Global.{Vec}
use Rattle.std.specs.List.{flat_map, AllZip}
use Rattle.algebra.specs.Fraction.{Fraction, ℚ}
use Rattle.polynomials.specs.Terms.{Terms, constant, variables, lists}
use Rattle.loops.specs.Program.{Expr, Equation, Statement, Program}
use Rattle.loops.specs.Effect.{after_statement}
use Rattle.loops.specs.Map.{branch_map}
use Rattle.poly.specs.Standing.{AllStandFor}
use Rattle.loop_model.specs.FracPoly.{FracPoly}
use Rattle.loop_model.specs.Operations.{Operation, operations_all, IsFree}
use Rattle.loop_model.specs.Stops.{Stops}
use Rattle.loop_model.specs.declared.map_error.MapError.{MapError}

module _ (m : ℕ) where
  unfoldable pub statements_operations : List (Statement (Expr ℕ)) → List (Terms Fraction)
      → List Operation
  statements_operations [] s = []
  statements_operations (c ∷ cs) s =
      operations_all m s c.values
      ++ statements_operations cs (after_statement (lists ℚ m) (constant m) c s)

abbrev pub start_operations : Program (Expr ℕ) → List Operation
start_operations program =
    let m = length program.names in operations_all m (variables ℚ m)
    (map (λ (e : Equation (Expr ℕ)). e.value) program.init)

abbrev pub entry : Program (Expr ℕ) → List (Terms Fraction)
entry program = variables ℚ (length program.names) ++ replicate (length program.locals) []

abbrev pub branch_operations : Program (Expr ℕ) → List (Statement (Expr ℕ)) → List Operation
branch_operations program branch =
    statements_operations (length program.names) branch (entry program)

abbrev pub branches_operations : Program (Expr ℕ) → List Operation
branches_operations program = flat_map (branch_operations program) program.branches

abbrev pub maps_operations : Program (Expr ℕ) → List Operation
maps_operations program = start_operations program ++ branches_operations program

abbrev pub AreFree : Program (Expr ℕ) → Type 0
AreFree program = IsFree (length program.names) (maps_operations program)

abbrev pub IsBranchMap : Program (Expr ℕ) → Vec FracPoly → List (Statement (Expr ℕ)) → Type 0
IsBranchMap program images branch =
    AllStandFor (length program.names) images.items (branch_map program branch)

abbrev pub AreBranchMaps : Program (Expr ℕ) → List (Vec FracPoly)
    → List (List (Statement (Expr ℕ))) → Type 0
AreBranchMaps program maps branches = AllZip (IsBranchMap program) maps branches

abbrev pub FormsAll : ℕ → List Operation → List (Terms Fraction) → Result (Vec FracPoly) MapError
    → Type 0
FormsAll m os qs (Ok ps) = AllStandFor m ps.items qs × IsFree m os
FormsAll m os qs (Err e) = Stops m os e
