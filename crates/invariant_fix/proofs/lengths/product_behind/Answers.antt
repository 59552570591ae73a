use Rattle.std.proofs.Common.{length, inr, ap, arith}
use Rattle.std.proofs.lemmas.List.{drop_all}
use Rattle.expansion.proofs.Counting.{of_first}
use Rattle.expansion.proofs.LengthLaws.{lengths_none}
use Rattle.invariant_fix.proofs.lengths.product_behind.Goals as goal

pub returns-in-None : goal.returns-in-None
returns-in-None c =
    let short = c.in-None.ensures.cases in
    let none = drop_all c.args.front c.args.exponents.now (omega (arith, short)) in
    of_first _ (lengths_none _ _ (inr (ap length none)))
