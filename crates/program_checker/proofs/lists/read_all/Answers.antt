use Rattle.cert_form.proofs.Paths.{place_is}
use Rattle.program_checker.proofs.ListReads.{lists_more}
use Rattle.program_checker.proofs.lists.read_all.Goals as goal

pub loop-i-preserved : goal.loop-i-preserved
loop-i-preserved c = lists_more c.args.names.now _ c.args.list.now c.loop-i.i _
    c.index-list-i.result c.loop-i.lists c.loop-i-test.true c.index-list-i.is (place_is _ _)
    c.loop-i.invariant _ _ c.in_ok-found.ensures c.in_ok-push-2.ensures.items
    c.in_ok-push-2.ensures.len
