use Rattle.std.proofs.Common.{◌-◌, arith}
use Rattle.residue_rows.specs.Modulus.{modulus}
use Rattle.residue_rows.proofs.Products.{difference_is}
use Rattle.residue_rows.proofs.residue.Residue.sub.Goals as goal

pub returns : goal.returns
returns c =
    let b = c.args.other.now in
    difference_is _ c.args.self.now.value b.value (modulus - b.value)
    c.short_rest.ensures (omega (arith, b.low))
