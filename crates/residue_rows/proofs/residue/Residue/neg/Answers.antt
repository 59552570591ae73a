use Rattle.std.proofs.Common.{◌-◌, arith}
use Rattle.residue_rows.specs.Modulus.{modulus}
use Rattle.residue_rows.proofs.Products.{opposite_is}
use Rattle.residue_rows.proofs.residue.Residue.neg.Goals as goal

pub returns : goal.returns
returns c =
    let a = c.args.self.now in
    opposite_is _ a.value (modulus - a.value) c.short_rest.ensures (omega (arith, a.low))
