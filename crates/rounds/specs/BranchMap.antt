-- The map of a branch as the analysis has it.
--   map_of program b           the polynomials of branch b, collected
use Rattle.std.specs.Prelude.{ℕ, List, map}
use Rattle.algebra.specs.Fraction.{Fraction, rationals}
use Rattle.polynomials.specs.Terms.{Terms}
use Rattle.polynomials.specs.Order.{grevlex}
use Rattle.machines.specs.Collect.{collect}
use Rattle.loops.specs.Program.{Expr, Program}
use Rattle.loops.specs.Map.{branch_map}
use Rattle.rounds.specs.Word.{branch_of}

unfoldable pub map_of : {At : Type 0} → Program (Expr At) → ℕ → List (Terms Fraction)
map_of program b = map (collect rationals grevlex) (branch_map program (branch_of program b))
