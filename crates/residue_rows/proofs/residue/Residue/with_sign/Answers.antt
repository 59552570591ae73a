use Rattle.std.proofs.Common.{[], ◌∷◌, pos, sym, subst}
use Rattle.algebra.proofs.IntRing.{ℤ_ring}
use Rattle.ideals.proofs.Congruence.{congruent_refl}
use Rattle.frac128.specs.Sums.{negate_if}
use Rattle.closures.specs.Modulo.{AreCongruent}
use Rattle.residue_rows.specs.Modulus.{modulus}
use Rattle.residue_rows.proofs.residue.Residue.with_sign.Goals as goal

pub returns-else-negative : goal.returns-else-negative
returns-else-negative c =
    let a = pos c.args.self.now.value in
    subst (λ b. AreCongruent (pos modulus) a (negate_if b a)) (sym c.if-negative.false)
    (congruent_refl ℤ_ring (pos modulus ∷ []) a)
