use Rattle.closing.proofs.Listed.{over_more, zeros_more}
use Rattle.closing.proofs.listing.zeros.Goals as goal

pub loop-preserved : goal.loop-preserved
loop-preserved c =
    let inv = c.loop.invariant in
    record {
      terms =
          zeros_more c.loop.counter c.loop.row.items c.push.new.self.items c.zero.result inv.terms
          c.zero.ensures.terms c.in_ok-push.ensures.items;
      over =
          over_more c.args.arity _ c.zero.result inv.over
          c.zero.ensures.arity c.in_ok-push.ensures.items;
    }
