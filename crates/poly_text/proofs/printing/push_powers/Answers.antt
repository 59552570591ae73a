use Rattle.std.proofs.Common.{rules, refl}
use Rattle.poly_text.proofs.PrintedPowers.{on_skip, on_more, on_end}
use Rattle.poly_text.proofs.printing.push_powers.Goals as goal
use Rattle.poly_text.proofs.printing.push_powers.Goals.{then-exponent-ne0+in_ok-push_factor, else-exponent-ne0}

pub loop-index-preserved : goal.loop-index-preserved
loop-index-preserved c =
    elim c.if-exponent-ne0.branch [
      | then-exponent-ne0+in_ok-push_factor w
          ↦ rw (w.text-is, w.between-is) (on_more c.loop-index.invariant _ _ _
          c.loop-index-test.true w.name.ensures refl w.if-exponent-ne0.true (search rules))
      | else-exponent-ne0 w
          ↦ rw (w.text-is, w.between-is) (on_skip c.loop-index.invariant c.loop-index-test.true
          c.requires w.if-exponent-ne0.false)
    ]

pub returns : goal.returns
returns c = on_end c.loop-index.invariant c.loop-index-test.false
