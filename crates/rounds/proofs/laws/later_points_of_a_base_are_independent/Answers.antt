use Rattle.rounds.proofs.Later.{members_from, points_from_are_independent}
use Rattle.rounds.proofs.laws.later_points_of_a_base_are_independent.Goals as goal

pub returns : goal.returns
returns c = record {
  members = λ bs coprime m gs ga since e a h n. members_from bs coprime m gs ga since e a h n;
  independent = λ bs coprime m since. points_from_are_independent bs coprime m since;
}
