use Rattle.eigen_split.proofs.Squares.{repeated_more}
use Rattle.eigen_split.proofs.search.repeat.Goals as goal

pub loop-i-preserved : goal.loop-i-preserved
loop-i-preserved c =
    repeated_more c.loop-i.values.items c.push.new.self.items _ c.loop-i.i c.args.value.now
    c.loop-i.invariant c.in_ok-push.ensures.items
