use Rattle.std.proofs.Common.{pos, not}
use Rattle.residue_rows.specs.Modulus.{modulus}
use Rattle.closures.proofs.Congruent.{congruent_trans}
use Rattle.residue_rows.proofs.Products.{signed_congruent}
use Rattle.residue_rows.proofs.EuclidRests.{inverse_of_rests, no_inverse_of_rests}
use Rattle.residue_rows.proofs.residue.Residue.inverse.Goals as goal

pub returns-then-rests-ne1-clause-none : goal.returns-then-rests-ne1-clause-none
returns-then-rests-ne1-clause-none c _ =
    let r = c.rests_within-rests.result in
    no_inverse_of_rests modulus c.args.self.now.value 0 r.high r.low r.high_factor r.low_factor
    r.negative c.rests_within-rests.ensures.rests c.rests_within-rests.ensures.low
    c.if-rests-ne1.true

pub returns-clause-some : goal.returns-clause-some
returns-clause-some c =
    let r = c.rests_within-rests.result in
    let q = pos modulus in
    inverse_of_rests modulus c.args.self.now.value 0 r.high r.low r.high_factor r.low_factor
    r.negative c.rests_within-rests.ensures.rests c.if-rests-ne1.false (congruent_trans q _ _ _
    c.with_sign.ensures (signed_congruent q (not r.negative) c.short_rest.ensures))
