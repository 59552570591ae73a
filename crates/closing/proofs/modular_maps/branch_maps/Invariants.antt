use Rattle.std.proofs.Common.{take}
use Rattle.std.specs.List.{AllZip}
use Rattle.closing.specs.Maps.{IsMapModulo}
use Rattle.closing.proofs.modular_maps.branch_maps.Given as goal

abbrev pub invariant-loop-map : goal.invariant-loop-map
invariant-loop-map l = AllZip IsMapModulo (take l.map-index l.maps) l.residues.items
