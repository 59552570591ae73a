use Rattle.std.proofs.Common.{pos, take}
use Rattle.std.specs.List.{AllZip}
use Rattle.poly.specs.Seen.{terms_each}
use Rattle.residue_rows.specs.Modulus.{modulus}
use Rattle.closing.specs.Modulo.{AreTermsModulo}
use Rattle.closing.specs.Maps.{modular_terms_each}
use Rattle.closing.proofs.modular_maps.residue_map.Given as goal

abbrev pub invariant-loop-image : goal.invariant-loop-image
invariant-loop-image l =
    AllZip (AreTermsModulo (pos modulus)) (terms_each (take l.image-index l.map))
    (modular_terms_each l.residues.items)
