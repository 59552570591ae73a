use Rattle.std.proofs.Common.{◌+◌, ◌*◌, ◌/◌, not, subst}
use native.Mathlib.Nat as N
use Rattle.residue_rows.specs.Modulus.{modulus}
use Rattle.residue_rows.specs.EuclidRests.{AreRests}
use Rattle.residue_rows.proofs.EuclidRests.{first_rests, next_rests}
use Rattle.residue_rows.proofs.euclid.rests_within.Goals as goal

pub loop-rests-init : goal.loop-rests-init
loop-rests-init c = (
  first_rests modulus _ _ c.requires.number c.requires.limit,
  c.requires.limit,
)

pub loop-rests-preserved : goal.loop-rests-preserved
loop-rests-preserved c =
    let s = c.loop-rests.rests in (
      subst (λ r. AreRests modulus c.args.number c.args.limit s.low r s.low_factor
          (s.high_factor + s.high / s.low * s.low_factor) (not s.negative))
          (N.mod-eq-sub-div-mul s.high s.low) (next_rests modulus _ _ s.high s.low s.high_factor
          s.low_factor s.negative c.loop-rests-test.true c.loop-rests.invariant.0),
      c.loop-rests-test.true,
    )
