use Rattle.std.proofs.Common.{sym, ◌∙◌, arith}
use Rattle.monos.proofs.Words.{compare_all}
use Rattle.monos.proofs.Doubles.{compare_parts}
use Rattle.monos.proofs.double.DoubleMono.compare_by_blocks.Goals as goal

pub returns-then-first-count : goal.returns-then-first-count
returns-then-first-count c = c.compare.ensures
    ∙ sym (compare_all c.args.first c.args.self.now c.args.other.now c.requires
    (omega (arith, c.if-first-count.true, c.count.ensures.count)))

pub returns : goal.returns
returns c = let is = compare_parts c.args.first c.args.self.now c.args.other.now c.requires in cc
