use Rattle.std.proofs.Common.{◌≤◌, ◌*◌, ◌^◌, arith}
use Rattle.expansion.proofs.Counting.{beyond}
use Rattle.expansion.proofs.product.Goals as goal

pub returns-in-None : goal.returns-in-None
returns-in-None c =
    let past : 2 ^ 64 ≤ c.args.left * c.args.right = grind (
      arith,
      c.in-None.ensures,
      c.in-None.is,
    ) in
    beyond (c.args.left * c.args.right) past
