use Rattle.residue_rows.proofs.Drawn.{no_draws, no_number, draws_more, after_more}
use Rattle.residue_rows.proofs.draws.Draws.take.Goals as goal

pub loop-place-init : goal.loop-place-init
loop-place-init c = record {
  numbers = no_draws c.args.self.now.number c.new-numbers.ensures.items;
  state = no_number c.args.self.now.number;
}

pub loop-place-preserved : goal.loop-place-preserved
loop-place-preserved c = record {
  numbers =
      draws_more c.args.self.now.number c.loop-place._place c.draw.result
      c.loop-place.invariant.state c.draw.ensures.moved c.draw.ensures.drawn
      c.loop-place.invariant.numbers c.in_ok-push.ensures.items;
  state =
      after_more c.args.self.now.number c.loop-place._place c.loop-place.invariant.state
      c.draw.ensures.moved;
}
