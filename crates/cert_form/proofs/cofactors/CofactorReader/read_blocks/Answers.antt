use Rattle.cert_form.proofs.Each.{so_far_start, so_far_more, so_far_fault, passed}
use Rattle.cert_form.proofs.Paths.{place_is}
use Rattle.cert_form.proofs.cofactors.CofactorReader.read_blocks.Goals as goal

pub loop-i-init : goal.loop-i-init
loop-i-init c = so_far_start c.new-found.ensures.items c.new-found.ensures.len

pub loop-i-preserved : goal.loop-i-preserved
loop-i-preserved c = so_far_more c.loop-i.invariant c.loop-i-test.true c.index-list-i.is
    (place_is _ _) c.in_ok-block.ensures c.in_ok-push.ensures.items c.in_ok-push.ensures.len

pub returns-in_err-block-clause-reads : goal.returns-in_err-block-clause-reads
returns-in_err-block-clause-reads c = passed _ _ _ _ c.from_residual.ensures.1
    (so_far_fault c.loop-i.invariant c.loop-i-test.true c.index-list-i.is (place_is _ _) _
    c.in_err-block.ensures)
