use Rattle.residue_rows.proofs.Drawn.{residues_more}
use Rattle.closing.proofs.samples.residues_of.Goals as goal

pub loop-number-preserved : goal.loop-number-preserved
loop-number-preserved c =
    residues_more c.args.numbers.now _ _ c.from_number.result c.loop-number-test.true
    c.loop-number.invariant c.from_number.ensures c.in_ok-push.ensures.items
