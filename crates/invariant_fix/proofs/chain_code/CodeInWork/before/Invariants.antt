use Rattle.std.proofs.Common.{◌≡◌, length}
use Rattle.poly.specs.Seen.{terms_each}
use Rattle.ideal_ops.specs.Calls.{AreOver}
use Rattle.loop_runs.specs.Parts.{statements_in}
use Rattle.corollaries.specs.CodeBetween.{list_from, was_at}
use Rattle.invariant_fix.specs.Code.{all}
use Rattle.invariant_fix.proofs.chain_code.CodeInWork.before.Given as goal

abbrev pub invariant-loop-var : goal.invariant-loop-var
invariant-loop-var l = record {
  list : terms_each l.images.items
      ≡ list_from 0 l.var (was_at (length l.self.values.now) (statements_in l.self.code.now));
  over : AreOver (all (length l.self.values.now) l.self.code.now) l.images.items;
}
