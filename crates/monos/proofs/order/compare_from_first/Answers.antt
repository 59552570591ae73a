use Rattle.polynomials.proofs.Orders.{compare_lex}
use Rattle.monos.proofs.order.compare_from_first.Goals as goal

pub returns : goal.returns
returns c = let e = compare_lex c.args.left.now c.args.right.now in cc
