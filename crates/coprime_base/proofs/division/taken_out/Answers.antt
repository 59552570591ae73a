use Rattle.coprime_base.proofs.Dividing.{divided_first, divided_more}
use Rattle.coprime_base.proofs.division.taken_out.Goals as goal

pub loop-left-init : goal.loop-left-init
loop-left-init c = divided_first c.args.by c.args.number c.requires.number

pub loop-left-preserved : goal.loop-left-preserved
loop-left-preserved c = divided_more c.args.by c.loop-left.times c.loop-left.left c.args.number
    c.requires.by c.loop-left-test.true c.ranges.number.fits c.loop-left.invariant
