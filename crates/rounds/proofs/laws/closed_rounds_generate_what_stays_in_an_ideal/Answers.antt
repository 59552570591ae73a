use Rattle.std.proofs.Common.{length}
use Rattle.algebra.specs.Fraction.{ℚ}
use Rattle.ideals.specs.Members.{IsMember}
use Rattle.rounds.proofs.Round.{round_generates, closed_generates}
use Rattle.rounds.proofs.laws.closed_rounds_generate_what_stays_in_an_ideal.Goals as goal

pub returns : goal.returns
returns c s = record {
  level = λ program firsts.
      round_generates program (IsMember ℚ (length program.names) firsts);
  all = λ program firsts.
      closed_generates program (IsMember ℚ (length program.names) firsts);
}
