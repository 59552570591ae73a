use Rattle.rounds.proofs.Invariants.{level_of_round, orbit_of_round, so_far_of_round}
use Rattle.rounds.proofs.laws.rounds_generate_levels.Goals as goal

pub returns : goal.returns
returns c s = record { round = level_of_round; orbit = orbit_of_round; so_far = so_far_of_round }
