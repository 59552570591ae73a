use Rattle.rounds.proofs.Invariants.{invariants_of_closed_round, first_closed_round, reduced_invariants}
use Rattle.rounds.proofs.laws.closed_rounds_generate_the_invariants.Goals as goal

pub returns : goal.returns
returns c s = record {
  all = invariants_of_closed_round;
  first = first_closed_round;
  reduced = reduced_invariants;
}
