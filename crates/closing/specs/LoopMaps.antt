-- A loop with its maps, as the code has it.
--   program_in m, arity_in m             its program, and how many variables that has
--   IsBranchAt program letter images     the images are those of the map of the branch with this number
use Rattle.std.specs.Prelude.{ℕ, length}
use Rattle.std.specs.Global.{Vec}
use Rattle.loops.specs.Map.{branch_map}
use Rattle.loops.specs.Program.{Expr, Program}
use Rattle.rounds.specs.Word.{branch_of}
use Rattle.poly.specs.Standing.{AllStandFor}
use Rattle.loop_model.specs.FracPoly.{FracPoly}
use Rattle.loop_model.specs.View.{program_of}
use Rattle.closing.specs.declared.loop_maps.LoopMaps.{LoopMaps}

abbrev pub program_in : LoopMaps → Program (Expr ℕ)
program_in m = program_of m.lp.now

abbrev pub arity_in : LoopMaps → ℕ
arity_in m = length (program_in m).names

abbrev pub IsBranchAt : Program (Expr ℕ) → ℕ → Vec FracPoly → Type 0
IsBranchAt program letter images =
    AllStandFor (length program.names) images.items (branch_map program (branch_of program letter))
