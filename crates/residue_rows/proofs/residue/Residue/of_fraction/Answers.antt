use Rattle.std.proofs.Common.{[], ◌∷◌, pos, refl, subst, ◌∙◌}
use mir.Syntax.{w128}
use Rattle.std.proofs.lemmas.Int.{to_z-of_z}
use Rattle.algebra.proofs.IntRing.{ℤ_ring}
use Rattle.ideals.proofs.Congruence.{congruent_sym}
use Rattle.frac128.specs.FracMeaning.{fraction_of}
use Rattle.closures.specs.Modulo.{AreCongruent}
use Rattle.closures.proofs.Congruent.{pivot_same}
use Rattle.closures.proofs.Residues.{residue_quotient}
use Rattle.residue_rows.specs.Modulus.{modulus}
use Rattle.residue_rows.specs.Numbers.{number_of}
use Rattle.residue_rows.proofs.residue.Residue.of_fraction.Goals as goal

pub returns-in_err-inverse-clause-none : goal.returns-in_err-inverse-clause-none
returns-in_err-inverse-clause-none c _ p =
    let q = pos modulus in
    let d = number_of c.of_whole.result in
    let same : AreCongruent q d (pos (fraction_of c.args.fraction.now).den) =
    subst (AreCongruent q d) (to_z-of_z w128 _ (record { sfits = c.den.type_inv })
    ∙ c.den.ensures) c.of_whole.ensures in
    c.in_err-inverse.ensures.none refl (pivot_same q _ d (congruent_sym ℤ_ring (q ∷ []) same) p)

pub returns-clause-some : goal.returns-clause-some
returns-clause-some c =
    let q = pos modulus in
    let f = fraction_of c.args.fraction.now in
    let d = number_of c.of_whole.result in
    let n = number_of c.of_whole-2.result in
    residue_quotient q f d n (number_of c.in_ok-inverse.inverse) (number_of c.mul.result)
    (subst (AreCongruent q d) (to_z-of_z w128 _ (record { sfits = c.den.type_inv })
    ∙ c.den.ensures) c.of_whole.ensures)
    (subst (AreCongruent q n) (to_z-of_z w128 _ (record { sfits = c.num.type_inv }) ∙ c.num.ensures)
    c.of_whole-2.ensures) c.in_ok-inverse.ensures.some c.mul.ensures
