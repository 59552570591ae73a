use Rattle.std.proofs.Common.{◌+◌, ◌*◌, pos, ap, ap₂, subst}
use Rattle.closures.specs.Modulo.{AreCongruent}
use Rattle.residue_rows.specs.Modulus.{modulus, half_limit}
use Rattle.residue_rows.proofs.Products.{product_is}
use Rattle.residue_rows.proofs.residue.Residue.mul.Goals as goal

pub returns : goal.returns
returns c =
    product_is c.add-2.result.value c.add.result.value _ _ _ c.halves-high.result.0
    c.halves-high.result.1 _ _ c.args.self.now.value c.args.other.now.value
    c.halves-high.ensures.number c.halves-other_high.ensures.number
    (ap (λ n. 2 * n) c.product.ensures) (subst (λ n. AreCongruent (pos modulus)
    (pos c.middle-middle.result.value) (pos (n * half_limit)))
    (ap₂ ◌+◌ c.product-2.ensures c.product-3.ensures) c.middle-middle.ensures) (subst (λ n.
    AreCongruent (pos modulus) (pos c.short_rest-bottom.result.value) (pos n)) c.product-4.ensures
    c.short_rest-bottom.ensures) c.add.ensures c.add-2.ensures
