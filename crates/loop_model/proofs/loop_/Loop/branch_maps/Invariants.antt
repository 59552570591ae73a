use Rattle.std.proofs.Common.{take}
use Rattle.loop_model.specs.View.{program_of}
use Rattle.loop_model.proofs.MapsFormed.{FormedTo}
use Rattle.loop_model.specs.Maps.{AreBranchMaps}
use Rattle.loop_model.proofs.loop_.Loop.branch_maps.Given as goal

abbrev pub invariant-loop-index : goal.invariant-loop-index
invariant-loop-index l = record {
  maps : AreBranchMaps (program_of l.self) l.maps.items (take l.index (program_of l.self).branches);
  free : FormedTo (program_of l.self) l.index;
}
