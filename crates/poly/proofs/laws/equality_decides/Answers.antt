use Rattle.poly.proofs.EqualityLaws.{equal_same}
use Rattle.poly.proofs.laws.equality_decides.Goals as goal

pub returns : goal.returns
returns g c = equal_same g.met.K.Ring.meaning_decides g.met.K.Ring.eq_is c.args.left.now
    c.args.right.now g.met.K.Ring.ring (g.met.O.Order.is_order c.args.left.now.order)
