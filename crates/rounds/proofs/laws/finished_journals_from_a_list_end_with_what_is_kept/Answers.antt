use Rattle.rounds.proofs.Theorem.{finished_from, finished_from_generates, finished_from_least}
use Rattle.rounds.proofs.laws.finished_journals_from_a_list_end_with_what_is_kept.Goals as goal

pub returns : goal.returns
returns c s = record {
  round = finished_from;
  generates = finished_from_generates;
  least = finished_from_least;
}
