use Rattle.std.proofs.Common.{sym, ◌∙◌, arith}
use Rattle.invariant_fix.proofs.Assigned.{counted, uncounted}
use Rattle.invariant_fix.proofs.chain_code.count_assigned.Goals.{then-is_assigned, else-is_assigned}
use Rattle.invariant_fix.proofs.chain_code.count_assigned.Goals as goal

pub loop-var-preserved : goal.loop-var-preserved
loop-var-preserved c =
    elim c.if-is_assigned.branch [
      | then-is_assigned w ↦ record {
        count = w.count-is ∙ counted c.args.code.now c.loop-var.var c.loop-var.count
            c.loop-var.invariant.count (sym c.is_assigned.ensures ∙ w.if-is_assigned.true);
        few = let f = c.loop-var.invariant.few in let e = w.count-is in omega (arith, f, e);
      }
      | else-is_assigned w ↦ record {
        count = w.count-is ∙ uncounted c.args.code.now c.loop-var.var c.loop-var.count
            c.loop-var.invariant.count (sym c.is_assigned.ensures ∙ w.if-is_assigned.false);
        few = let f = c.loop-var.invariant.few in let e = w.count-is in omega (arith, f, e);
      }
    ]
