-- The maps of a loop that were formed.
--   AreMapsOf program maps     they are those of the program, and none of the operations by which they are formed passes a limit
use Rattle.std.specs.Prelude.{ℕ, length}
use Rattle.loops.specs.Map.{start_map}
use Rattle.loops.specs.Program.{Expr, Program}
use Rattle.poly.specs.Standing.{AllStandFor}
use Rattle.loop_model.specs.Maps.{AreBranchMaps, AreFree}
use Rattle.cert_checker.specs.declared.maps.Maps.{Maps}

pub record AreMapsOf (program : Program (Expr ℕ)) (maps : Maps) : Type 0 where
  pub start : AllStandFor (length program.names) maps.start.items (start_map program)
  pub branches : AreBranchMaps program maps.branches.items program.branches
  pub free : AreFree program
