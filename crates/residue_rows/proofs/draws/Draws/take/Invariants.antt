use Rattle.std.proofs.Common.{◌≡◌}
use Rattle.residue_rows.specs.Draws.{draws_from, after_draws}
use Rattle.residue_rows.proofs.draws.Draws.take.Given as goal

abbrev pub invariant-loop-place : goal.invariant-loop-place
invariant-loop-place l = record {
  numbers : l.numbers.items ≡ draws_from l.fn.self.number l._place;
  state : l.self.number ≡ after_draws l.fn.self.number l._place;
}
