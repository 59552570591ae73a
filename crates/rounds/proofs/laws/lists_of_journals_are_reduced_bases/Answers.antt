use Rattle.rounds.proofs.Theorem.{lists_are_bases, lists_from_are_bases}
use Rattle.rounds.proofs.laws.lists_of_journals_are_reduced_bases.Goals as goal

pub returns : goal.returns
returns c s = record { from_the_starts = lists_are_bases; from_a_list = lists_from_are_bases }
