use Rattle.std.proofs.Common.{◌≡◌, ℕ, length}
use Rattle.loops.specs.Program.{Expr, Program}
use Rattle.invariant_fix.specs.Setting.{AreMaps, AreBranchesTo}
use Rattle.invariant_fix.proofs.branches.branches.Given as goal

abbrev pub invariant-loop-images : goal.invariant-loop-images
invariant-loop-images l = record {
  count : length l.out.items ≡ length l.yielded;
  branches : (program : Program (Expr ℕ)) → AreMaps program l.fn.maps.items
      → AreBranchesTo program (length l.yielded) l.out.items;
}
