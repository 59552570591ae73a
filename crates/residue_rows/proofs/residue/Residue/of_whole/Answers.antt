use Rattle.std.proofs.Common.{pos, subst}
use mir.Syntax.{w128}
use Rattle.std.proofs.lemmas.Int.{to_z-of_z}
use Rattle.closures.specs.Modulo.{AreCongruent}
use Rattle.residue_rows.specs.Modulus.{modulus}
use Rattle.residue_rows.proofs.Products.{whole_is}
use Rattle.residue_rows.proofs.residue.Residue.of_whole.Goals as goal

pub returns : goal.returns
returns c =
    let r = c.with_sign.result.value in
    subst (AreCongruent (pos modulus) (pos r)) (to_z-of_z w128 _ c.ranges.number) (whole_is r _
    c.unsigned_abs.result _ c.with_sign.ensures c.short_rest.ensures c.unsigned_abs.ensures.value)
