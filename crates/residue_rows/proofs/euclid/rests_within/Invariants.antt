use Rattle.std.proofs.Common.{◌<◌}
use Rattle.residue_rows.specs.Modulus.{modulus}
use Rattle.residue_rows.specs.EuclidRests.{AreRests}
use Rattle.residue_rows.proofs.euclid.rests_within.Given as goal

abbrev pub invariant-loop-rests : goal.invariant-loop-rests
invariant-loop-rests l =
    AreRests modulus l.fn.number l.fn.limit l.rests.high l.rests.low l.rests.high_factor
    l.rests.low_factor l.rests.negative × (l.fn.limit < l.rests.high)

abbrev pub decreases-loop-rests : goal.decreases-loop-rests
decreases-loop-rests l = l.rests.low
